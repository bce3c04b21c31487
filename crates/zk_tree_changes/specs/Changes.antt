-- The last transaction that changed the line of each node, after one transaction and up to another.
use Rattle.std.specs.Prelude.{ℕ, ℤ, pos, Bool, ◌&&◌, int_le, List, [], ◌∷◌, ◌++◌, map, Option, Some, None, if◌then◌else◌}
use Rattle.std.specs.BTreeMap.{insert_entry, is_at}
use Rattle.std.specs.FinMap.{entries}
use Rattle.std.specs.List.{flat_map, list_any}
use Rattle.std.specs.Map.{lookup}
use Rattle.std.specs.Ordering.{int_eq}
use Rattle.zk_tree_changes.specs.declared.stamps.Stamp.{Stamp}
use Rattle.zk_directory.specs.Continuing.{continues}
use Rattle.zk_incidents.specs.Owners.{Owned, closed, owned_after, touched, with_owner}
use Rattle.zk_newer_records.specs.declared.newer_record.NewerRecord.{NewerRecord}
use Rattle.zk_path.specs.Paths.{parent_of}
use Rattle.zk_table.specs.States.{NodeMap, path_cmp}
use Rattle.zk_table.specs.Parts.{is_error}
use Rattle.zk_table.specs.declared.sub.Sub.{Sub}
use Rattle.zk_table.specs.declared.sub.Sub.TheVariants as subs
use Rattle.zk_table.specs.declared.txn.Op.{Op}
use Rattle.zk_table.specs.declared.txn.Op.TheVariants as ops

-- ---- which lines a record changes

abbrev pub moved_part : Sub → List (List ℕ)
moved_part (subs.Create path content acl ephemeral count) = path ∷ []
moved_part (subs.Delete path) = path ∷ []
moved_part (subs.SetData path content version) = []
moved_part (subs.Check path version) = []
moved_part (subs.Error code) = []

-- a multi that the server rejected moves nothing
abbrev pub moved_parts : List Sub → List (List ℕ)
moved_parts parts = if list_any is_error parts then [] else flat_map moved_part parts

abbrev pub moved_by : Owned → NewerRecord → Op → List (List ℕ)
moved_by owned newer (ops.Create path content acl ephemeral count) = path ∷ []
moved_by owned newer (ops.CreateOld path content acl ephemeral) = path ∷ []
moved_by owned newer (ops.Delete path) = path ∷ []
moved_by owned newer (ops.SetData path content version) = []
moved_by owned newer (ops.SetAcl path acl version) = []
moved_by owned newer (ops.OpenSession timeout) = []
moved_by owned newer ops.CloseSession = closed owned newer
moved_by owned newer (ops.Multi parts) = moved_parts parts
moved_by owned newer (ops.Error code) = []

-- the nodes that it creates or deletes
abbrev pub moved : Owned → NewerRecord → List (List ℕ)
moved owned newer = moved_by owned newer newer.txn.op

abbrev pub parent_list : Option (List ℕ) → List (List ℕ)
parent_list None = []
parent_list (Some parent) = parent ∷ []

abbrev pub parents : List (List ℕ) → List (List ℕ)
parents paths = flat_map (λ path. parent_list (parent_of path)) paths

-- the nodes that it creates, changes or deletes, and those whose children it creates or deletes
abbrev pub changed : Owned → NewerRecord → List (List ℕ)
changed owned newer = touched owned newer ++ parents (moved owned newer)

-- ---- the last record for each path

abbrev pub Stamped : Type 0
Stamped = List (List ℕ × Stamp)

abbrev pub stamped : Stamped → Stamp → List (List ℕ) → Stamped
stamped stamps stamp [] = stamps
stamped stamps stamp (path ∷ paths) = stamped (insert_entry path_cmp stamps path stamp) stamp paths

abbrev pub stamp_of : NewerRecord → Stamp
stamp_of newer = record { zxid = newer.txn.zxid; time = newer.txn.time }

pub record Track : Type 0 where
  -- the last record so far, and the last of all
  pub position : ℤ
  pub upto : ℤ
  -- the ephemeral nodes, with their sessions
  pub owned : Owned
  pub stamps : Stamped

abbrev pub is_next : Track → ℤ → Bool
is_next track zxid = continues track.position zxid && int_le zxid track.upto

abbrev pub with_record : Track → NewerRecord → Track
with_record track newer = record { position = newer.txn.zxid; upto = track.upto; owned = owned_after track.owned newer; stamps = stamped track.stamps (stamp_of newer) (changed track.owned newer) }

-- a record that does not continue the ones before is left out
abbrev pub followed : Track → NewerRecord → Track
followed track newer = if is_next track newer.txn.zxid then with_record track newer else track

abbrev pub followed_all : Track → List NewerRecord → Track
followed_all track [] = track
followed_all track (newer ∷ records) = followed_all (followed track newer) records

-- nothing is known unless the records continue one another up to the last
abbrev pub stamp_at : Track → List ℕ → Option Stamp
stamp_at track path = if int_le track.upto track.position then lookup (is_at (path_cmp path)) track.stamps else None

-- ---- before any record

abbrev pub with_node : Owned → List ℕ × ℤ → Owned
with_node owned entry = if int_eq entry.1 (pos 0) then owned else with_owner owned entry.0 entry.1

abbrev pub with_nodes : Owned → List (List ℕ × ℤ) → Owned
with_nodes owned [] = owned
with_nodes owned (entry ∷ entries) = with_nodes (with_node owned entry) entries

-- the owners of a tree's nodes
abbrev pub owned_in : NodeMap → Owned
owned_in nodes = with_nodes [] (map (λ entry. (entry.0, entry.1.owner)) (entries nodes))

-- the tree after the transaction `position`
abbrev pub start_track : NodeMap → ℤ → ℤ → Track
start_track nodes position upto = record { position = position; upto = upto; owned = owned_in nodes; stamps = [] }
