-- Breakpoints and the transactions that they match: definitions of this project.
use Rattle.std.specs.Prelude.{ℕ, nat_eq, ℤ, pos, List, length, slice_get, Bool, true, false, not, ◌&&◌, ◌||◌, ◌==◌, Option, Some, None, codes}
use Rattle.std.specs.List.{list_any, starts_with}
use Rattle.std.specs.Ordering.{int_eq}
use Rattle.std.specs.Str.{bytes_eq}
use Rattle.zk_machine.specs.declared.change.Change.{Change}
use Rattle.zk_machine.specs.declared.change.ChangeKind.{ChangeKind}
use Rattle.zk_machine.specs.declared.change.ChangeKind.TheVariants as changes
use Rattle.zk_table.specs.declared.sub.Sub.{Sub}
use Rattle.zk_table.specs.declared.txn.Op.{Op}
use Rattle.zk_table.specs.declared.txn.Op.TheVariants as ops
use Rattle.zk_table.specs.declared.txn.Txn.{Txn}
use Rattle.zk_table.specs.Parts.{path_of}
use Rattle.zk_debug.specs.declared.breakpoint.Breakpoint.{Breakpoint}
use Rattle.zk_debug.specs.declared.breakpoint.Breakpoint.TheVariants as breakpoints
use Rattle.zk_debug.specs.declared.breakpoint.Kind.{Kind}
use Rattle.zk_debug.specs.declared.breakpoint.Kind.TheVariants as kinds

-- ---- kinds

abbrev pub kind_of : Op → Kind
kind_of (ops.Create path content acl ephemeral count) = kinds.Create
kind_of (ops.CreateOld path content acl ephemeral) = kinds.CreateOld
kind_of (ops.Delete path) = kinds.Delete
kind_of (ops.SetData path content version) = kinds.SetData
kind_of (ops.SetAcl path acl version) = kinds.SetAcl
kind_of (ops.OpenSession timeout) = kinds.OpenSession
kind_of ops.CloseSession = kinds.CloseSession
kind_of (ops.Error code) = kinds.Error
kind_of (ops.Multi parts) = kinds.Multi

abbrev pub is_kind : Kind → Kind → Bool
is_kind kinds.Create kinds.Create = true
is_kind kinds.CreateOld kinds.CreateOld = true
is_kind kinds.Delete kinds.Delete = true
is_kind kinds.SetData kinds.SetData = true
is_kind kinds.SetAcl kinds.SetAcl = true
is_kind kinds.OpenSession kinds.OpenSession = true
is_kind kinds.CloseSession kinds.CloseSession = true
is_kind kinds.Error kinds.Error = true
is_kind kinds.Multi kinds.Multi = true
is_kind kind other = false

-- ---- paths

-- a path that begins with another, which is the root or has a slash after it
abbrev pub is_slash : Option ℕ → Bool
is_slash None = false
is_slash (Some byte) = byte == 47

abbrev pub is_below : List ℕ → List ℕ → Bool
is_below path named = starts_with nat_eq named path && (bytes_eq path (codes "/") || is_slash (slice_get named (length path)))

-- the path itself, or with `below` one below it
abbrev pub is_in : List ℕ → Bool → List ℕ → Bool
is_in path below named = bytes_eq named path || (below && is_below path named)

abbrev pub is_at : List ℕ → Bool → Option (List ℕ) → Bool
is_at path below None = false
is_at path below (Some named) = is_in path below named

-- a part names the path, whether it was applied, rejected or skipped
abbrev pub names : List ℕ → Bool → Sub → Bool
names path below part = is_at path below (path_of part)

abbrev pub removed : ChangeKind → List ℕ → Option (List ℕ)
removed changes.Deleted path = Some path
removed kind path = None

-- the node of the path was deleted
abbrev pub is_removal : List ℕ → Bool → Change → Bool
is_removal path below change = is_at path below (removed change.kind change.path)

-- an operation or one of its parts names the path, applied or rejected, or it closed a session
-- whose node there was deleted
abbrev pub concerns : List ℕ → Bool → Op → List Change → Bool
concerns path below (ops.Create named content acl ephemeral count) changed = is_in path below named
concerns path below (ops.CreateOld named content acl ephemeral) changed = is_in path below named
concerns path below (ops.Delete named) changed = is_in path below named
concerns path below (ops.SetData named content version) changed = is_in path below named
concerns path below (ops.SetAcl named acl version) changed = is_in path below named
concerns path below (ops.Multi parts) changed = list_any (names path below) parts
concerns path below ops.CloseSession changed = list_any (is_removal path below) changed
concerns path below op changed = false

-- ---- a transaction with a result code and changes

abbrev pub is_met : Txn → ℤ → List Change → Breakpoint → Bool
is_met txn err changed (breakpoints.At zxid) = int_eq txn.zxid zxid
is_met txn err changed (breakpoints.Path path) = concerns path false txn.op changed
is_met txn err changed (breakpoints.Prefix path) = concerns path true txn.op changed
is_met txn err changed (breakpoints.Session session) = int_eq txn.session session
is_met txn err changed (breakpoints.Kind kind) = is_kind (kind_of txn.op) kind
is_met txn err changed breakpoints.Error = not (int_eq err (pos 0))
