-- The snapshots and logs of a folder, by the zxids in their names. ZooKeeper Administrator's Guide,
-- "Data File Management".
use Rattle.std.specs.Prelude.{ℕ, ℤ, false, List, ◌++◌, Option, Some, None, IsPermutation, IsSorted, codes}
use Rattle.std.specs.Fmt.{digits}
use Rattle.std.specs.Int.{w64, cast_unsigned}
use Rattle.std.specs.List.{filter_map}
use Rattle.std.specs.Ordering.{int_cmp}
use Rattle.zk_directory.specs.Names.{file_name_of}
use Rattle.zk_directory.specs.declared.names.FileName.{FileName}
use Rattle.zk_directory.specs.declared.names.FileName.TheVariants.{Snapshot, Log}

-- lower-case hexadecimal, without leading zeros
abbrev pub hexadecimal : ℤ → List ℕ
hexadecimal zxid = digits 16 false (cast_unsigned w64 zxid)

abbrev pub snapshot_name : ℤ → List ℕ
snapshot_name zxid = codes "snapshot." ++ hexadecimal zxid

abbrev pub log_name : ℤ → List ℕ
log_name zxid = codes "log." ++ hexadecimal zxid

abbrev pub snapshot_in : Option FileName → Option ℤ
snapshot_in (Some (Snapshot zxid)) = Some zxid
snapshot_in other = None

abbrev pub log_in : Option FileName → Option ℤ
log_in (Some (Log zxid)) = Some zxid
log_in other = None

-- the zxid in the name of a snapshot, and of a log
abbrev pub snapshot_zxid : List ℕ → Option ℤ
snapshot_zxid name = snapshot_in (file_name_of name)

abbrev pub log_zxid : List ℕ → Option ℤ
log_zxid name = log_in (file_name_of name)

-- the zxids in these names, in order
pub record AreZxidsBy {A : Type 0} (zxid_of : A → Option ℤ) (names : List A) (zxids : List ℤ) : Type 0 where
  pub same : IsPermutation (filter_map zxid_of names) zxids
  pub rising : IsSorted int_cmp zxids
