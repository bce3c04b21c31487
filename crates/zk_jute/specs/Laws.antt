-- Laws of records.
use Rattle.std.specs.Prelude.{◌≡◌, ◌⊎◌, ℕ, List, [], ◌++◌, length}
use Rattle.zk_records.specs.Records.{IsRecordOf, IsOldCreate}
use Rattle.zk_table.specs.declared.txn.Txn.{Txn}

-- if one record is a proper prefix of another, the shorter is a 3.3 create, and the longer is the
-- same with four more bytes
abbrev pub OnlyOldCreatesBeginOthers : Type 0
OnlyOldCreatesBeginOthers = (front rest : List ℕ) (first second : Txn) → IsRecordOf front first → IsRecordOf (front ++ rest) second → (rest ≡ []) ⊎ (IsOldCreate first.op × (length rest ≡ 4))

-- no bytes are the records of two transactions
abbrev pub RecordsAreOfOne : Type 0
RecordsAreOfOne = (bytes : List ℕ) (first second : Txn) → IsRecordOf bytes first → IsRecordOf bytes second → first ≡ second
