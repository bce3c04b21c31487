-- The owners that a server stores in the state that a directory holds: of containers and of nodes
-- with a time to live.
use Rattle.std.specs.Prelude.{◌≡◌, ℕ, ℤ, pos, List, map, Option, Some, None, Ok}
use Rattle.std.specs.Borrow.{Bor}
use Rattle.std.specs.Option.{unwrap_or}
use Rattle.zk_directory.specs.declared.names.FileName.TheVariants as files
use Rattle.zk_directory_state.specs.Folders.{IsGiven}
use Rattle.zk_directory_state.specs.Histories.{AreIn}
use Rattle.zk_directory_state.specs.Logs.{AreGiven, bytes_of, logs_from}
use Rattle.zk_directory_state.specs.Names.{log_zxid, snapshot_name}
use Rattle.zk_directory_state.specs.declared.fault.HistoryFault.{HistoryFault}
use Rattle.zk_directory_state.specs.declared.fault.HistoryFault.TheVariants as faults
use Rattle.zk_directory_state.specs.declared.history.Origin.{Origin}
use Rattle.zk_directory_state.specs.declared.history.Shown.{Shown}
use Rattle.zk_mend.specs.Digests.{Owners}
use Rattle.zk_mend.specs.Following.{no_owners}
use Rattle.zk_replay.specs.Owning.{stored_owners}
use Rattle.zk_snapshot.specs.Reading.{all_of}
use Rattle.zk_snapshot.specs.Snapshots.{IsSnapshotOf}
use Rattle.zk_snapshot.specs.declared.fault.SnapshotFault.{SnapshotFault}
use Rattle.zk_snapshot.specs.declared.fault.SnapshotFault.TheVariants as snapshot_faults
use Rattle.zk_snapshot.specs.declared.snapshot.Snapshot.{Snapshot}
use Rattle.zk_stored_owners.specs.StoredOwners.{AreOwnersAfter}

-- in the snapshot of this zxid
pub record AreStored (bytes_in : List ℕ → Option (List ℕ)) (zxid : ℤ) (owners : Owners) : Type 0 where
  pub bytes : List ℕ
  pub snapshot : Snapshot
  pub given : IsGiven (bytes_in (snapshot_name zxid)) bytes
  pub of_bytes : IsSnapshotOf bytes snapshot
  pub are : (path : List ℕ) → owners path ≡ stored_owners snapshot.contents.nodes path

-- after a zxid, with the records after it of these logs, up to another zxid
pub record AreOwnersFrom (bytes_in : List ℕ → Option (List ℕ)) (upto from : ℤ) (owners : Owners) (logged : List ℤ) (owners' : Owners) : Type 0 where
  pub logs : List (Bor (List ℕ))
  pub given : AreGiven bytes_in logged (map bytes_of logs)
  pub after : AreOwnersAfter upto from owners logs owners'

-- over the snapshot of a zxid, or over the empty tree
abbrev pub AreOwnersOver : (List ℕ → Option (List ℕ)) → (List ℕ → Option (List ℕ)) → ℤ → List ℤ → Option ℤ → Owners → Type 0
AreOwnersOver snapshot_bytes log_bytes upto logged None owners = (none : Owners) × ((path : List ℕ) → none path ≡ no_owners path) × AreOwnersFrom log_bytes upto (pos 0) none logged owners
AreOwnersOver snapshot_bytes log_bytes upto logged (Some zxid) owners = (stored : Owners) × AreStored snapshot_bytes zxid stored × AreOwnersFrom log_bytes upto zxid stored (logs_from zxid logged) owners

-- the snapshot that a state begins at
abbrev pub base_of : Option Origin → Option ℤ
base_of None = None
base_of (Some origin) = Some origin.zxid

-- a file of this zxid, which is a snapshot
pub record IsStoredBase (bytes_in : List ℕ → Option (List ℕ)) (zxid : ℤ) : Type 0 where
  pub bytes : List ℕ
  pub snapshot : Snapshot
  pub given : IsGiven (bytes_in (snapshot_name zxid)) bytes
  pub reads : all_of bytes ≡ Ok snapshot

-- the snapshot that a state begins at is one, if there is any
abbrev pub IsBase : (List ℕ → Option (List ℕ)) → Option ℤ → Type 0
IsBase bytes_in None = Unit {0}
IsBase bytes_in (Some zxid) = IsStoredBase bytes_in zxid

-- in a state, up to its last transaction
pub record AreOwnersIn (snapshot_bytes : List ℕ → Option (List ℕ)) (logs : Option (List (List ℕ))) (log_bytes : List ℕ → Option (List ℕ)) (shown : Shown) (owners : Owners) : Type 0 where
  pub logged : List ℤ
  pub are_logs : AreIn log_zxid logs logged
  pub are : AreOwnersOver snapshot_bytes log_bytes (unwrap_or shown.restored.position (pos 0)) logged (base_of shown.origin) owners

-- ---- calls within

-- why a snapshot that was read before cannot be read again
abbrev pub reread_fault : ℤ → SnapshotFault → HistoryFault
reread_fault zxid snapshot_faults.NoMemory = faults.NoMemory
reread_fault zxid fault = faults.Unreadable (files.Snapshot zxid)
