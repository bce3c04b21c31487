-- Laws of the records of 3.5 to 3.8 servers.
use Rattle.std.specs.Prelude.{◌≡◌, ℕ, List, true}
use Rattle.zk_records.specs.Records.{record_of, IsRecordOf}
use Rattle.zk_newer_records.specs.Changes.{is_unchanged}
use Rattle.zk_newer_records.specs.NewerRecords.{IsSpelled, IsNewer, own}
use Rattle.zk_newer_records.specs.declared.newer_record.NewerRecord.{NewerRecord}
use Rattle.zk_table.specs.declared.txn.Txn.{Txn}

-- a record of 3.4 represents its own transaction, and is what a 3.5 to 3.8 server writes without a
-- digest
abbrev pub OldOnesStand : Type 0
OldOnesStand = (bytes : List ℕ) (txn : Txn) → IsRecordOf bytes txn → IsNewer bytes (own txn)

-- no bytes are two records, so they represent one transaction at most
abbrev pub NewerOnesAreOfOne : Type 0
NewerOnesAreOfOne = (bytes : List ℕ) (first second : NewerRecord) → IsSpelled bytes first → IsSpelled bytes second → first ≡ second

-- an unchanged record is its transaction's own record
abbrev pub UnchangedOnesAreOld : Type 0
UnchangedOnesAreOld = (bytes : List ℕ) (newer : NewerRecord) → IsNewer bytes newer → is_unchanged newer ≡ true → bytes ≡ record_of newer.txn

-- a transaction's own record is unchanged
abbrev pub OldOnesAreUnchanged : Type 0
OldOnesAreUnchanged = (txn : Txn) → is_unchanged (own txn) ≡ true
