-- What is known of sessions before the first transaction of a directory's logs: the sessions in its first
-- snapshot, and those of its ephemeral nodes that were created before that transaction.
use Rattle.std.specs.Prelude.{◌≡◌, ◌⊎◌, ◌||◌, ℕ, ℤ, pos, Bool, not, int_lt, List, [], ◌∷◌, Option, Some, None, Result, Ok, Err, if◌then◌else◌}
use Rattle.std.specs.Ordering.{int_eq}
use Rattle.zk_directory_state.specs.Folders.{IsGiven}
use Rattle.zk_directory_state.specs.Histories.{AreIn}
use Rattle.zk_directory_state.specs.Logs.{AreUnlisted, AreUnlistedIn, IsUnreadSnapshot}
use Rattle.zk_directory_state.specs.Names.{log_zxid, snapshot_name, snapshot_zxid}
use Rattle.zk_directory_state.specs.declared.fault.HistoryFault.{HistoryFault}
use Rattle.zk_jute.specs.declared.fault.JuteFault.{JuteFault}
use Rattle.zk_replay.specs.Bases.{shown_owner}
use Rattle.zk_sessions.specs.Known.{leased_in, nothing, owning}
use Rattle.zk_sessions.specs.declared.known.Known.{Known}
use Rattle.zk_snapshot.specs.Reading.{all_of}
use Rattle.zk_snapshot.specs.declared.snapshot.Lease.{Lease}
use Rattle.zk_snapshot.specs.declared.snapshot.Snapshot.{Snapshot}
use Rattle.zk_snapshot.specs.declared.snapshot.Stored.{Stored}

-- ---- a snapshot

abbrev pub leases_in : Known → List Lease → Known
leases_in known [] = known
leases_in known (lease ∷ leases) = leases_in (leased_in known lease.session lease.timeout) leases

-- the node was created before the transaction of a zxid
abbrev pub is_before : ℤ → Stored → Bool
is_before first s = int_lt s.kept.moments.czxid first

-- a container, and a node with a time to live, have no session
abbrev pub with_stored : ℤ → Known → Stored → Known
with_stored first known s = if int_eq (shown_owner s.kept.owner) (pos 0) || not (is_before first s) then known else owning known s.path s.kept.owner

abbrev pub nodes_in : ℤ → Known → List Stored → Known
nodes_in first known [] = known
nodes_in first known (s ∷ stored) = nodes_in first (with_stored first known s) stored

abbrev pub known_in : ℤ → Snapshot → Known
known_in first snapshot = nodes_in first (leases_in nothing snapshot.contents.leases) snapshot.contents.nodes

abbrev pub KnowsBy : ℤ → Result Snapshot JuteFault → Option Known → Type 0
KnowsBy first (Ok snapshot) (Some known) = known ≡ known_in first snapshot
KnowsBy first (Ok snapshot) None = ⊥
KnowsBy first (Err fault) (Some known) = ⊥
KnowsBy first (Err fault) None = Unit {0}

-- what the snapshot of a zxid shows; none if it is broken
pub record Knows (bytes_in : List ℕ → Option (List ℕ)) (first zxid : ℤ) (found : Option Known) : Type 0 where
  pub bytes : List ℕ
  pub given : IsGiven (bytes_in (snapshot_name zxid)) bytes
  pub knows : KnowsBy first (all_of bytes) found

-- ---- snapshots

-- the first of these that is whole, or nothing
abbrev pub KnowsFirst : (List ℕ → Option (List ℕ)) → ℤ → List ℤ → Known → Type 0
KnowsFirst bytes_in first [] known = known ≡ nothing
KnowsFirst bytes_in first (zxid ∷ zxids) known = Knows bytes_in first zxid (Some known) ⊎ (Knows bytes_in first zxid None × KnowsFirst bytes_in first zxids known)

-- of the folder's snapshots
pub record IsFirstKnown (snapshots : Option (List (List ℕ))) (snapshot_bytes : List ℕ → Option (List ℕ)) (first : ℤ) (known : Known) : Type 0 where
  pub held : List ℤ
  pub are_snapshots : AreIn snapshot_zxid snapshots held
  pub knows : KnowsFirst snapshot_bytes first held known

-- ---- the logs

-- the zxid in the name of the first log, which is that of its first transaction
abbrev pub first_of : List ℤ → ℤ
first_of [] = pos 0
first_of (zxid ∷ zxids) = zxid

-- what is known before the first transaction of the logs
pub record IsBeforeLogs (snapshots : Option (List (List ℕ))) (snapshot_bytes : List ℕ → Option (List ℕ)) (logs : Option (List (List ℕ))) (known : Known) : Type 0 where
  pub logged : List ℤ
  pub are_logs : AreIn log_zxid logs logged
  pub known_first : IsFirstKnown snapshots snapshot_bytes (first_of logged) known

-- ---- calls

abbrev pub FindsBefore : Option (List (List ℕ)) → (List ℕ → Option (List ℕ)) → Option (List (List ℕ)) → Result Known HistoryFault → Type 0
FindsBefore snapshots snapshot_bytes logs (Ok known) = IsBeforeLogs snapshots snapshot_bytes logs known
FindsBefore snapshots snapshot_bytes logs (Err fault) = IsUnreadSnapshot snapshot_bytes fault ⊎ AreUnlistedIn snapshots logs fault

-- ---- calls within

abbrev pub Finds : (List ℕ → Option (List ℕ)) → ℤ → ℤ → Result (Option Known) HistoryFault → Type 0
Finds bytes_in first zxid (Ok found) = Knows bytes_in first zxid found
Finds bytes_in first zxid (Err fault) = IsUnreadSnapshot bytes_in fault

abbrev pub FindsFirst : (List ℕ → Option (List ℕ)) → ℤ → List ℤ → Result Known HistoryFault → Type 0
FindsFirst bytes_in first zxids (Ok known) = KnowsFirst bytes_in first zxids known
FindsFirst bytes_in first zxids (Err fault) = IsUnreadSnapshot bytes_in fault

abbrev pub FindsKnown : Option (List (List ℕ)) → (List ℕ → Option (List ℕ)) → ℤ → Result Known HistoryFault → Type 0
FindsKnown snapshots snapshot_bytes first (Ok known) = IsFirstKnown snapshots snapshot_bytes first known
FindsKnown snapshots snapshot_bytes first (Err fault) = IsUnreadSnapshot snapshot_bytes fault ⊎ AreUnlisted snapshots fault
