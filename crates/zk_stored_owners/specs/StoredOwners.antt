-- The owners of containers and of nodes with a time to live, after the records of logs, and the
-- snapshot of a state whose nodes have them: `DataTree` of `org.apache.zookeeper.server`, whose
-- `ephemeralOwner` clients see of ephemeral nodes alone.
use Rattle.std.specs.Prelude.{◌≡◌, ◌&&◌, ℕ, ℤ, Bool, List, [], ◌∷◌, map, Option, if◌then◌else◌, int_le, int_lt}
use Rattle.std.specs.Borrow.{Bor}
use Rattle.std.specs.FinMap.{entries}
use Rattle.std.specs.Option.{unwrap_or}
use Rattle.zk_directory.specs.LogFiles.{IsLogFile}
use Rattle.zk_directory.specs.declared.file.FileEntry.{FileEntry}
use Rattle.zk_directory.specs.declared.file.LogFile.{LogFile}
use Rattle.zk_mend.specs.Digests.{Owners}
use Rattle.zk_newer_records.specs.declared.newer_record.NewerRecord.{NewerRecord}
use Rattle.zk_replay.specs.Owning.{owners_by}
use Rattle.zk_snapshot.specs.declared.snapshot.Snapshot.{Snapshot}
use Rattle.zk_state_snapshot.specs.StateSnapshots.{Placed, snapshot_from}
use Rattle.zk_table.specs.States.{State}
use Rattle.zk_table.specs.declared.node.Node.{Node}

-- ---- records

-- a record counts once: after the last one that counted, and up to a zxid
abbrev pub is_next : ℤ → ℤ → ℤ → Bool
is_next upto last zxid = int_lt last zxid && int_le zxid upto

-- the zxid of the last record that counted, and the owner of the node at a path
abbrev pub Followed : Type 0
Followed = ℤ × Option ℤ

abbrev pub followed_one : ℤ → List ℕ → Followed → NewerRecord → Followed
followed_one upto path so_far newer = if is_next upto so_far.0 newer.txn.zxid then (newer.txn.zxid, owners_by (λ _. so_far.1) newer path) else so_far

unfoldable pub followed_over : ℤ → List ℕ → Followed → List FileEntry → Followed
followed_over upto path so_far [] = so_far
followed_over upto path so_far (entry ∷ entries) = followed_over upto path (followed_one upto path so_far entry.newer) entries

-- ---- logs

-- the records of a log of these bytes lead from one zxid, with its owners, to another
pub record FollowsLog (upto last last' : ℤ) (owners owners' : Owners) (bytes : List ℕ) : Type 0 where
  pub file : LogFile
  pub of_bytes : IsLogFile bytes file
  pub is : (path : List ℕ) → (let new : Followed = (last', owners' path) in new ≡ followed_over upto path (last, owners path) file.entries.items)

-- those of logs, in order
abbrev pub FollowsLogs : ℤ → ℤ → ℤ → Owners → Owners → List (Bor (List ℕ)) → Type 0
FollowsLogs upto last last' owners owners' [] = (last' ≡ last) × ((path : List ℕ) → owners' path ≡ owners path)
FollowsLogs upto last last' owners owners' (bytes ∷ logs) = (next : ℤ) × (between : Owners) × FollowsLog upto last next owners between bytes.now × FollowsLogs upto next last' between owners' logs

-- the owners after a zxid and these logs, up to a zxid
abbrev pub AreOwnersAfter : ℤ → ℤ → Owners → List (Bor (List ℕ)) → Owners → Type 0
AreOwnersAfter upto from owners logs owners' = (last : ℤ) × FollowsLogs upto from last owners owners' logs

-- ---- the snapshot

abbrev pub node_with : Owners → Placed → Node
node_with owners e = record e.1 { owner = unwrap_or (owners e.0) e.1.owner }

abbrev pub placed_with : Owners → Placed → Placed
placed_with owners e = (e.0, node_with owners e)

-- of a state, whose nodes have these owners, or else their own
abbrev pub snapshot_with : Owners → State → Snapshot
snapshot_with owners state = snapshot_from (map (placed_with owners) (entries state.nodes)) (entries state.sessions) state.last

-- ---- calls within

-- nodes in place of others, at the same paths
unfoldable pub places_of : List Placed → List Node → List Placed
places_of [] nodes = []
places_of (e ∷ es) [] = []
places_of (e ∷ es) (node ∷ nodes) = (e.0, node) ∷ places_of es nodes
