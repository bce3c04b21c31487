-- What records show of sessions and of their ephemeral nodes: ZooKeeper Programmer's Guide,
-- "ZooKeeper Sessions" and "Ephemeral Nodes".
use Rattle.std.specs.Prelude.{◌≡◌, ℕ, ℤ, Bool, List, [], ◌∷◌, Option, Some, None, if◌then◌else◌}
use Rattle.std.specs.List.{list_any}
use Rattle.zk_newer_records.specs.declared.newer_record.Encoding.{Encoding}
use Rattle.zk_newer_records.specs.declared.newer_record.Encoding.TheVariants as forms
use Rattle.zk_newer_records.specs.declared.newer_record.NewerRecord.{NewerRecord}
use Rattle.zk_sessions.specs.Ephemerals.{Owned, owned_by, owner_of, with_owner, without_owner}
use Rattle.zk_sessions.specs.Lives.{LifeTable, changed}
use Rattle.zk_sessions.specs.Moments.{moment_of}
use Rattle.zk_sessions.specs.Sessions as sessions
use Rattle.zk_sessions.specs.Writes.{write_count}
use Rattle.zk_sessions.specs.declared.known.Known.{Known}
use Rattle.zk_sessions.specs.declared.session.Session.{Session}
use Rattle.zk_table.specs.Parts.{is_error}
use Rattle.zk_table.specs.declared.sub.Sub.{Sub}
use Rattle.zk_table.specs.declared.sub.Sub.TheVariants as subs
use Rattle.zk_table.specs.declared.txn.Op.{Op}
use Rattle.zk_table.specs.declared.txn.Op.TheVariants as ops

-- a session is another one from now on
abbrev pub with_changed : Known → ℤ → (Session → Session) → Known
with_changed known session change = record known { lives = changed known.lives session change }

-- ---- before the first record

abbrev pub nothing : Known
nothing = record { lives = []; owners = [] }

-- a session is open, with this timeout
abbrev pub leased_in : Known → ℤ → ℤ → Known
leased_in known session timeout = with_changed known session (sessions.with_timeout timeout)

-- it owns an ephemeral node
abbrev pub owning : Known → List ℕ → ℤ → Known
owning known path session = record { lives = changed known.lives session sessions.with_left; owners = with_owner known.owners path session }

-- ---- nodes

-- a session creates an ephemeral node
abbrev pub with_ephemeral : Known → List ℕ → ℤ → Known
with_ephemeral known path session = record { lives = changed known.lives session sessions.with_created; owners = with_owner known.owners path session }

abbrev pub gone_from : Known → List ℕ → Option ℤ → Known
gone_from known path None = known
gone_from known path (Some owner) = record { lives = changed known.lives owner sessions.with_deleted; owners = without_owner known.owners path }

-- there is no node at a path; if there was an ephemeral one, it is deleted
abbrev pub gone : Known → List ℕ → Known
gone known path = gone_from known path (owner_of known.owners path)

abbrev pub all_gone : Known → List (List ℕ) → Known
all_gone known [] = known
all_gone known (path ∷ paths) = all_gone (gone known path) paths

-- a session creates a node
abbrev pub with_node : Known → List ℕ → Bool → ℤ → Known
with_node known path ephemeral session = if ephemeral then with_ephemeral (gone known path) path session else gone known path

-- ---- the end of a session

-- the paths that the record lists, as those of 3.6 and later do, or else the session's
abbrev pub closed_by : Owned → ℤ → Encoding → List (List ℕ)
closed_by owned session (forms.ClosePaths listed) = listed
closed_by owned session form = owned_by owned session

abbrev pub closing : Owned → NewerRecord → List (List ℕ)
closing owned newer = closed_by owned newer.txn.session newer.form

-- ---- a record

abbrev pub after_part : ℤ → Known → Sub → Known
after_part session known (subs.Create path content acl ephemeral count) = with_node known path ephemeral session
after_part session known (subs.Delete path) = gone known path
after_part session known (subs.SetData path content version) = known
after_part session known (subs.Check path version) = known
after_part session known (subs.Error code) = known

abbrev pub after_parts : ℤ → Known → List Sub → Known
after_parts session known [] = known
after_parts session known (part ∷ parts) = after_parts session (after_part session known part) parts

-- the session of the record is closed, and its nodes are deleted
abbrev pub after_close : Known → NewerRecord → Known
after_close known newer = with_changed (all_gone known (closing known.owners newer)) newer.txn.session (sessions.with_ending (moment_of newer.txn) (sessions.expires newer.txn.cxid))

abbrev pub after_op : NewerRecord → Known → Op → Known
after_op newer known (ops.Create path content acl ephemeral count) = with_node known path ephemeral newer.txn.session
after_op newer known (ops.CreateOld path content acl ephemeral) = with_node known path ephemeral newer.txn.session
after_op newer known (ops.Delete path) = gone known path
after_op newer known (ops.SetData path content version) = known
after_op newer known (ops.SetAcl path acl version) = known
after_op newer known (ops.OpenSession timeout) = with_changed known newer.txn.session (sessions.with_opening (moment_of newer.txn) timeout)
after_op newer known ops.CloseSession = after_close known newer
after_op newer known (ops.Multi parts) = if list_any is_error parts then known else after_parts newer.txn.session known parts
after_op newer known (ops.Error code) = known

-- the record's session is known from now on, with the record's writes
abbrev pub after : Known → NewerRecord → Known
after known newer = with_changed (after_op newer known newer.txn.op) newer.txn.session (sessions.with_writes (write_count newer.txn.op))

-- records in order
abbrev pub after_all : Known → List NewerRecord → Known
after_all known [] = known
after_all known (newer ∷ records) = after_all (after known newer) records

-- ---- calls

abbrev pub Follows : Known → NewerRecord → Known → Type 0
Follows old newer new = new ≡ after old newer
