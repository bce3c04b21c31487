-- Laws of the conversion of logs.
use Rattle.std.specs.Prelude.{◌≡◌, ℕ, ℤ, List, length}
use Rattle.zk_records.specs.Sizes.{capped}
use Rattle.zk_log.specs.Logs.{IsLogOf}
use Rattle.zk_log.specs.declared.loaded.Ending.{Ending}
use Rattle.zk_table.specs.declared.txn.Txn.{Txn}
use Rattle.zk_mend.specs.Mending.{IsMended, IsUnmended}
use Rattle.zk_mend.specs.Telling.{unchanged_told}
use Rattle.zk_mend.specs.declared.fault.MendFault.{MendFault}
use Rattle.zk_mend.specs.declared.mended.Mended.{Mended}

-- bytes are converted to one log at most
abbrev pub MendsInOneWay : Type 0
MendsInOneWay = (bytes : List ℕ) (first second : Mended) → IsMended bytes first → IsMended bytes second → first ≡ second

-- bytes have one fault at most
abbrev pub RefusesInOneWay : Type 0
RefusesInOneWay = (bytes : List ℕ) (first second : MendFault) → IsUnmended bytes first → IsUnmended bytes second → first ≡ second

-- bytes that are converted have no fault
abbrev pub MendsOrRefuses : Type 0
MendsOrRefuses = (bytes : List ℕ) (mended : Mended) (fault : MendFault) → IsMended bytes mended → ¬ IsUnmended bytes fault

-- a log of 3.4 is converted to its own transactions, without changes
abbrev pub OldLogsComeBack : Type 0
OldLogsComeBack = (bytes : List ℕ) (dbid : ℤ) (txns : List Txn) (ending : Ending) → IsLogOf bytes dbid txns ending
    → IsMended bytes (record { dbid = dbid; journal = txns; ending = ending; told = unchanged_told (capped (length txns)) })
