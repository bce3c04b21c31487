-- A law of records.
use Rattle.std.specs.Prelude.{◌≤◌}
use Rattle.zk_records.specs.Ranges.{InRange}
use Rattle.zk_records.specs.Records.{record_of, IsRecordOf}
use Rattle.zk_records.specs.Sizes.{size_of}
use Rattle.zk_table.specs.declared.txn.Txn.{Txn}

-- a transaction whose size is in the limit has a record
abbrev pub ShortOnesHaveRecords : Type 0
ShortOnesHaveRecords = (txn : Txn) → InRange txn → size_of (record_of txn) ≤ 16777216 → IsRecordOf (record_of txn) txn
