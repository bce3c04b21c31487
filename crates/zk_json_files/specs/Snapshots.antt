-- The object of a snapshot.
use Rattle.std.specs.Prelude.{◌≡◌, ℕ, ℤ, not, List, [], ◌∷◌, ◌++◌, length, codes, decimal, Result, Ok, Err}
use Rattle.json.specs.Json.{Json, boolean, null, number, string}
use Rattle.zk_directory_state.specs.Files.{fault_word}
use Rattle.zk_jute.specs.declared.fault.JuteFault.{JuteFault}
use Rattle.zk_json.specs.Json.{Fields, IsLineOf, id_of, object_of}
use Rattle.zk_replay.specs.Bases.{exact_from}
use Rattle.zk_snapshot.specs.Faults.{fault_of}
use Rattle.zk_snapshot.specs.Reading.{all_of}
use Rattle.zk_snapshot.specs.declared.fault.SnapshotFault.{SnapshotFault}
use Rattle.zk_snapshot.specs.declared.snapshot.Snapshot.{Snapshot}

abbrev pub snapshot_fields : List ℕ → Json → Json → Json → Json → Json → Fields
snapshot_fields name nodes sessions exact later fault =
    (codes "snapshot", string name) ∷ (codes "nodes", nodes) ∷ (codes "sessions", sessions) ∷ (codes "exact", exact) ∷ (codes "orLater", later) ∷ (codes "fault", fault) ∷ []

-- the numbers of its nodes and sessions, and the zxid from which a replay is exact
abbrev pub contents_fields : List ℕ → ℤ → Snapshot → Fields
contents_fields name zxid snapshot =
    snapshot_fields name (number (decimal (length snapshot.contents.nodes))) (number (decimal (length snapshot.contents.leases)))
    (id_of (exact_from snapshot zxid).zxid) (boolean (not (exact_from snapshot zxid).is_told)) null

abbrev pub rejected_fields : List ℕ → SnapshotFault → Fields
rejected_fields name fault = snapshot_fields name null null null null (string (fault_word fault))

-- what the bytes hold, or the fault of the first field that can't be read
abbrev pub read_fields : List ℕ → ℤ → List ℕ → Result Snapshot JuteFault → Fields
read_fields name zxid bytes (Ok snapshot) = contents_fields name zxid snapshot
read_fields name zxid bytes (Err field) = rejected_fields name (fault_of bytes field)

-- the line of the snapshot of this name and zxid, with these bytes
abbrev pub IsSnapshotLine : List ℕ → ℤ → List ℕ → List ℕ → Type 0
IsSnapshotLine name zxid bytes line = IsLineOf (object_of (read_fields name zxid bytes (all_of bytes))) line

-- ---- calls within

abbrev pub AppendsSnapshot : List ℕ → ℤ → List ℕ → List ℕ → List ℕ → Type 0
AppendsSnapshot name zxid bytes old new = (line : List ℕ) × IsSnapshotLine name zxid bytes line × (new ≡ old ++ line)
