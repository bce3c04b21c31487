-- The owners of ephemeral nodes before the first transaction of a directory's logs: those in its
-- first snapshot. A node that the logs create later is owned by a session that is still open.
use Rattle.std.specs.Prelude.{◌≡◌, ◌⊎◌, ℕ, ℤ, pos, List, [], ◌∷◌, Option, Some, None, Result, Ok, Err, if◌then◌else◌}
use Rattle.std.specs.Ordering.{int_eq}
use Rattle.zk_directory_state.specs.Folders.{IsGiven}
use Rattle.zk_directory_state.specs.Names.{snapshot_name, snapshot_zxid}
use Rattle.zk_directory_state.specs.declared.fault.HistoryFault.{HistoryFault}
use Rattle.zk_directory_state.specs.Histories.{AreIn}
use Rattle.zk_directory_state.specs.Logs.{AreUnlisted, IsUnreadSnapshot}
use Rattle.zk_incidents.specs.Owners.{Owned, with_owner}
use Rattle.zk_jute.specs.declared.fault.JuteFault.{JuteFault}
use Rattle.zk_replay.specs.Bases.{shown_owner}
use Rattle.zk_snapshot.specs.Reading.{all_of}
use Rattle.zk_snapshot.specs.declared.snapshot.Snapshot.{Snapshot}
use Rattle.zk_snapshot.specs.declared.snapshot.Stored.{Stored}

-- ---- a snapshot

-- a container, and a node with a time to live, have no session
abbrev pub with_stored : Owned → Stored → Owned
with_stored owned s = if int_eq (shown_owner s.kept.owner) (pos 0) then owned else with_owner owned s.path s.kept.owner

-- the ephemeral nodes among these
abbrev pub owned_in : Owned → List Stored → Owned
owned_in owned [] = owned
owned_in owned (s ∷ stored) = owned_in (with_stored owned s) stored

abbrev pub OwnsBy : Result Snapshot JuteFault → Option Owned → Type 0
OwnsBy (Ok snapshot) (Some owned) = owned ≡ owned_in [] snapshot.contents.nodes
OwnsBy (Ok snapshot) None = ⊥
OwnsBy (Err fault) (Some owned) = ⊥
OwnsBy (Err fault) None = Unit {0}

-- what the snapshot of a zxid shows; none if it is broken
pub record Owns (bytes_in : List ℕ → Option (List ℕ)) (zxid : ℤ) (found : Option Owned) : Type 0 where
  pub bytes : List ℕ
  pub given : IsGiven (bytes_in (snapshot_name zxid)) bytes
  pub owns : OwnsBy (all_of bytes) found

-- ---- snapshots

-- the first of these that is whole, or no node
abbrev pub OwnsFirst : (List ℕ → Option (List ℕ)) → List ℤ → Owned → Type 0
OwnsFirst bytes_in [] owned = owned ≡ []
OwnsFirst bytes_in (zxid ∷ zxids) owned = Owns bytes_in zxid (Some owned) ⊎ (Owns bytes_in zxid None × OwnsFirst bytes_in zxids owned)

-- of the folder's snapshots
pub record AreFirstOwners (snapshots : Option (List (List ℕ))) (snapshot_bytes : List ℕ → Option (List ℕ)) (owned : Owned) : Type 0 where
  pub held : List ℤ
  pub are_snapshots : AreIn snapshot_zxid snapshots held
  pub owns : OwnsFirst snapshot_bytes held owned

-- ---- calls within

abbrev pub Finds : (List ℕ → Option (List ℕ)) → ℤ → Result (Option Owned) HistoryFault → Type 0
Finds bytes_in zxid (Ok found) = Owns bytes_in zxid found
Finds bytes_in zxid (Err fault) = IsUnreadSnapshot bytes_in fault

abbrev pub FindsFirst : (List ℕ → Option (List ℕ)) → List ℤ → Result Owned HistoryFault → Type 0
FindsFirst bytes_in zxids (Ok owned) = OwnsFirst bytes_in zxids owned
FindsFirst bytes_in zxids (Err fault) = IsUnreadSnapshot bytes_in fault

abbrev pub FindsOwners : Option (List (List ℕ)) → (List ℕ → Option (List ℕ)) → Result Owned HistoryFault → Type 0
FindsOwners snapshots snapshot_bytes (Ok owned) = AreFirstOwners snapshots snapshot_bytes owned
FindsOwners snapshots snapshot_bytes (Err fault) = IsUnreadSnapshot snapshot_bytes fault ⊎ AreUnlisted snapshots fault
