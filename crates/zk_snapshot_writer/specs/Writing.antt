-- What is still to be written of a snapshot, of which some bytes are.
use Rattle.std.specs.Prelude.{◌≡◌, ℕ, pos, ◌≤◌, Bool, true, false, List, [], ◌++◌, drop, length, take, Option, Some, None, Result, Ok, Err, if◌then◌else◌}
use Rattle.std.specs.List.{AllByRecursion}
use Rattle.zk_records.specs.Records.{long, ustring, vector}
use Rattle.zk_snapshot.specs.declared.snapshot.Claim.{Claim}
use Rattle.zk_snapshot.specs.declared.snapshot.Contents.{Contents}
use Rattle.zk_snapshot.specs.declared.snapshot.Snapshot.{Snapshot}
use Rattle.zk_snapshot.specs.Snapshots.{slash, header, lease, access, stored_nodes, claim, IsContents, IsStored, MayClaim}
use Rattle.zk_snapshot_writer.specs.Checksums.{after, total}
use Rattle.zk_snapshot_writer.specs.declared.checksum.Checksum.{Checksum}
use Rattle.zk_snapshot_writer.specs.declared.encoder.Encoder.{Encoder}
use Rattle.zk_snapshot_writer.specs.declared.fault.WriterFault.{WriterFault}
use Rattle.zk_snapshot_writer.specs.declared.fault.WriterFault.TheVariants as faults

-- what stands before the nodes
abbrev pub head : Contents → List ℕ
head c = header c.dbid ++ vector lease c.leases ++ vector access c.accesses

-- bytes that come after others with these sums, and the seal over all of them
abbrev pub sealed_from : Checksum → List ℕ → List ℕ
sealed_from sums bytes = bytes ++ (long (pos (total (after sums bytes))) ++ ustring slash)

-- bytes that come after others with these sums, and the seals after them
abbrev pub ended_from : Checksum → List ℕ → Option Claim → List ℕ
ended_from sums bytes None = sealed_from sums bytes
ended_from sums bytes (Some c) = sealed_from sums (sealed_from sums bytes ++ claim c)

-- the nodes that were not encoded yet, and what comes after them
abbrev pub to_come : Encoder → List ℕ
to_come encoder = if encoder.is_over then [] else ended_from encoder.sums (stored_nodes (drop encoder.at encoder.nodes)) encoder.claim

-- what may be encoded
pub record IsEncoder (encoder : Encoder) : Type 0 where
  pub nodes : AllByRecursion IsStored encoder.nodes
  pub claim : MayClaim encoder.claim
  pub within : encoder.at ≤ length encoder.nodes

-- the encoded bytes that were not handed over yet, and those to come
abbrev pub left : Encoder → List ℕ → ℕ → List ℕ
left encoder item start = drop start item ++ to_come encoder

-- these bytes were handed over
pub record IsHandedOver (old new out out' : List ℕ) : Type 0 where
  pub bytes : List ℕ
  pub before : old ≡ bytes ++ new
  pub appended : out' ≡ out ++ bytes

-- a number or a length of the snapshot has no field
abbrev pub Rejects : Snapshot → WriterFault → Type 0
Rejects snapshot faults.Long = ¬ IsContents snapshot.contents
Rejects snapshot faults.NoMemory = Unit {0}
