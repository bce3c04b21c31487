-- The owners of containers and of nodes with a time to live, which clients do not see and the table
-- does not have: the last record that created a path gives its owner, or else the snapshot.
use Rattle.std.specs.Prelude.{ℕ, ℤ, List, [], ◌∷◌, Bool, false, Option, Some, None, if◌then◌else◌}
use Rattle.std.specs.List.{list_any}
use Rattle.std.specs.Ordering.{int_eq}
use Rattle.std.specs.Str.{bytes_eq}
use Rattle.zk_table.specs.declared.sub.Sub.{Sub}
use Rattle.zk_table.specs.declared.sub.Sub.TheVariants as subs
use Rattle.zk_table.specs.declared.txn.Op.{Op}
use Rattle.zk_table.specs.declared.txn.Op.TheVariants as ops
use Rattle.zk_table.specs.Parts.{is_error}
use Rattle.zk_snapshot.specs.declared.snapshot.Stored.{Stored}
use Rattle.zk_newer_records.specs.Changes.{owners_of}
use Rattle.zk_newer_records.specs.declared.newer_record.NewerRecord.{NewerRecord}
use Rattle.zk_replay.specs.Bases.{shown_owner}
use Rattle.zk_mend.specs.Digests.{Owners}
use Rattle.zk_mend.specs.Following.{given_from}

-- ---- in a snapshot

-- the stored owner, if clients see another
abbrev pub raw_owner : ℤ → Option ℤ
raw_owner owner = if int_eq (shown_owner owner) owner then None else Some owner

abbrev pub stored_from : Option ℤ → List Stored → List ℕ → Option ℤ
stored_from found [] path = found
stored_from found (s ∷ stored) path = stored_from (if bytes_eq s.path path then raw_owner s.kept.owner else found) stored path

abbrev pub stored_owners : List Stored → Owners
stored_owners stored path = stored_from None stored path

-- ---- after a record

abbrev pub part_creates : List ℕ → Sub → Bool
part_creates path (subs.Create at content acl ephemeral count) = bytes_eq at path
part_creates path sub = false

-- an operation creates the node at a path
abbrev pub creates : Op → List ℕ → Bool
creates (ops.Create at content acl ephemeral count) path = bytes_eq at path
creates (ops.CreateOld at content acl ephemeral) path = bytes_eq at path
creates (ops.Multi parts) path = list_any (part_creates path) parts
creates op path = false

-- a multi that the server rejected changes nothing
abbrev pub is_rejected : Op → Bool
is_rejected (ops.Multi parts) = list_any is_error parts
is_rejected op = false

-- a created node has the record's owner, or else that of the table
abbrev pub given_by : NewerRecord → List ℕ → Option ℤ → Option ℤ
given_by newer path owner = given_from (if creates newer.txn.op path then None else owner) (owners_of newer) path

abbrev pub owners_by : Owners → NewerRecord → Owners
owners_by owners newer path = if is_rejected newer.txn.op then owners path else given_by newer path (owners path)
