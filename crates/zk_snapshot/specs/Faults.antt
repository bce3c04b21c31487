-- Why a file is rejected as a snapshot, by the first field that can't be read.
use Rattle.std.specs.Prelude.{◌≡◌, ◌||◌, ◌⊎◌, ℕ, List, [], ◌∷◌, Bool, length, nat_eq, nat_lt, Result, Ok, Err, if◌then◌else◌}
use Rattle.std.specs.List.{starts_with}
use Rattle.zk_jute.specs.declared.fault.JuteFault.{JuteFault}
use Rattle.zk_jute.specs.declared.fault.JuteFault.TheVariants as faults
use Rattle.zk_snapshot.specs.declared.fault.SnapshotFault.{SnapshotFault}
use Rattle.zk_snapshot.specs.declared.fault.SnapshotFault.TheVariants as snapshot_faults
use Rattle.zk_snapshot.specs.declared.snapshot.Snapshot.{Snapshot}

-- `snapshot.compression.method`: GZIP or SNAPPY
abbrev pub is_compressed : List ℕ → Bool
is_compressed bytes = starts_with nat_eq bytes (0x1f ∷ 0x8b ∷ []) || starts_with nat_eq bytes (0x82 ∷ 0x53 ∷ 0x4e ∷ 0x41 ∷ 0x50 ∷ 0x50 ∷ 0x59 ∷ 0 ∷ [])

-- a wrong type means a wrong header, and fewer bytes than a header mean none; a boolean's fault
-- represents a checksum mismatch
abbrev pub fault_of : List ℕ → JuteFault → SnapshotFault
fault_of bytes faults.NoMemory = snapshot_faults.NoMemory
fault_of bytes faults.Kind = if is_compressed bytes then snapshot_faults.Compressed else snapshot_faults.Header
fault_of bytes faults.Short = if nat_lt (length bytes) 16 then snapshot_faults.Header else snapshot_faults.Short
fault_of bytes faults.Boolean = snapshot_faults.Checksum
fault_of bytes faults.Trailing = snapshot_faults.Trailing
fault_of bytes field = snapshot_faults.Field

-- this snapshot is returned, unless allocation fails
abbrev pub IsAnswer : Result Snapshot SnapshotFault → Snapshot → Type 0
IsAnswer (Ok found) snapshot = found ≡ snapshot
IsAnswer (Err fault) snapshot = fault ≡ snapshot_faults.NoMemory

-- the fault is that of the first field that can't be read, unless allocation fails
abbrev pub Refused : List ℕ → Result Snapshot SnapshotFault → Result Snapshot JuteFault → Type 0
Refused bytes (Ok snapshot) read = read ≡ Ok snapshot
Refused bytes (Err fault) read = (fault ≡ snapshot_faults.NoMemory) ⊎ ((field : JuteFault) × (read ≡ Err field) × (fault ≡ fault_of bytes field))
