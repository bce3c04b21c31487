-- The effect of a window's transactions on the draft of a snapshot. Each overwrites what it writes;
-- the old value has no effect.
use Rattle.std.specs.Prelude.{ℕ, ℤ, negsuc, List, [], ◌∷◌, Option, Some, None, if◌then◌else◌}
use Rattle.std.specs.FinMap.{contains_key, insert, remove}
use Rattle.std.specs.Int.{w64, cast_unsigned}
use Rattle.std.specs.List.{list_any}
use Rattle.zk_path.specs.Paths.{parent_of}
use Rattle.zk_table.specs.declared.node.Node.{Node}
use Rattle.zk_table.specs.declared.sub.Sub.{Sub}
use Rattle.zk_table.specs.declared.sub.Sub.TheVariants as subs
use Rattle.zk_table.specs.declared.txn.Op.{Op}
use Rattle.zk_table.specs.declared.txn.Op.TheVariants as ops
use Rattle.zk_table.specs.declared.txn.Txn.{Txn}
use Rattle.zk_table.specs.Nodes.{created}
use Rattle.zk_table.specs.Parts.{is_error}
use Rattle.zk_table.specs.States.{SessionMap}
use Rattle.zk_newer_records.specs.NewerRecords.{listed_of}
use Rattle.zk_newer_records.specs.declared.newer_record.NewerRecord.{NewerRecord}
use Rattle.zk_replay.specs.Drafts.{DraftMap, fresh, with_child, without_child, written, guarded, changed, removed, owned_by}

-- ---- one operation

-- a node is created if its parent exists: a node at the path is first deleted, with all below it
abbrev pub create_below : DraftMap → ℤ → List ℕ → Node → ℤ → Option (List ℕ) → DraftMap
create_below drafts zxid path node count None = drafts
create_below drafts zxid path node count (Some above) =
    if contains_key drafts above then changed (insert (removed drafts path) path (fresh path node)) above (with_child zxid count) else drafts

abbrev pub create : DraftMap → ℤ → List ℕ → Node → ℤ → DraftMap
create drafts zxid path node count = create_below drafts zxid path node count (parent_of path)

-- a node is deleted with all below it; the parent records it, even if there was no node
abbrev pub delete_below : DraftMap → ℤ → List ℕ → Option (List ℕ) → DraftMap
delete_below drafts zxid path None = drafts
delete_below drafts zxid path (Some above) = changed (removed drafts path) above (without_child zxid)

abbrev pub delete : DraftMap → ℤ → List ℕ → DraftMap
delete drafts zxid path = delete_below drafts zxid path (parent_of path)

unfoldable pub delete_all : DraftMap → ℤ → List (List ℕ) → DraftMap
delete_all drafts zxid [] = drafts
delete_all drafts zxid (path ∷ paths) = delete_all (delete drafts zxid path) zxid paths

-- the listed paths are deleted, with any owner, and then the nodes of the session
abbrev pub close : DraftMap → Txn → List (List ℕ) → DraftMap
close drafts txn listed =
    let rest = delete_all drafts txn.zxid listed in delete_all rest txn.zxid (owned_by rest txn.session)

-- ---- parts of a multi

abbrev pub apply_part : Txn → DraftMap → Sub → DraftMap
apply_part txn drafts (subs.Create path content acl ephemeral count) = create drafts txn.zxid path (created txn content acl ephemeral) count
apply_part txn drafts (subs.Delete path) = delete drafts txn.zxid path
apply_part txn drafts (subs.SetData path content version) = changed drafts path (written txn content version)
apply_part txn drafts (subs.Check path version) = drafts
apply_part txn drafts (subs.Error code) = drafts

unfoldable pub apply_parts : Txn → DraftMap → List Sub → DraftMap
apply_parts txn drafts [] = drafts
apply_parts txn drafts (part ∷ parts) = apply_parts txn (apply_part txn drafts part) parts

-- ---- transactions

abbrev pub nodes_by : DraftMap → Txn → List (List ℕ) → Op → DraftMap
nodes_by drafts txn listed (ops.Create path content acl ephemeral count) = create drafts txn.zxid path (created txn content acl ephemeral) count
nodes_by drafts txn listed (ops.CreateOld path content acl ephemeral) = create drafts txn.zxid path (created txn content acl ephemeral) (negsuc 0)
nodes_by drafts txn listed (ops.Delete path) = delete drafts txn.zxid path
nodes_by drafts txn listed (ops.SetData path content version) = changed drafts path (written txn content version)
nodes_by drafts txn listed (ops.SetAcl path acl version) = changed drafts path (guarded acl version)
nodes_by drafts txn listed (ops.OpenSession timeout) = drafts
nodes_by drafts txn listed ops.CloseSession = close drafts txn listed
nodes_by drafts txn listed (ops.Multi parts) = if list_any is_error parts then drafts else apply_parts txn drafts parts
nodes_by drafts txn listed (ops.Error code) = drafts

-- the nodes after a record
abbrev pub nodes_replayed : DraftMap → NewerRecord → DraftMap
nodes_replayed drafts record_of = nodes_by drafts record_of.txn (listed_of record_of) record_of.txn.op

abbrev pub sessions_by : SessionMap → Txn → Op → SessionMap
sessions_by sessions txn (ops.OpenSession timeout) = insert sessions (cast_unsigned w64 txn.session) timeout
sessions_by sessions txn ops.CloseSession = remove sessions (cast_unsigned w64 txn.session)
sessions_by sessions txn op = sessions

-- the sessions after a transaction
abbrev pub sessions_replayed : SessionMap → Txn → SessionMap
sessions_replayed sessions txn = sessions_by sessions txn txn.op
