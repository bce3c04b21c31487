-- The notice on a log that starts in the middle of a history.
use Rattle.std.specs.Prelude.{ℕ, ℤ, List, [], ◌∷◌, ◌++◌, ◌==◌, Option, Some, None, if◌then◌else◌, codes}
use Rattle.zk_directory.specs.Continuing.{counter_of}
use Rattle.zk_format.specs.Spelling.{id_digits}
use Rattle.zk_table.specs.declared.txn.Txn.{Txn}

abbrev pub first_zxid : List Txn → Option ℤ
first_zxid [] = None
first_zxid (txn ∷ txns) = Some txn.zxid

-- the zxid, unless its transaction is the first of an epoch
abbrev pub within_epoch : Option ℤ → Option ℤ
within_epoch None = None
within_epoch (Some zxid) = if counter_of zxid == 1 then None else Some zxid

-- the zxid that the notice on a log has; None for a log that starts with an epoch
abbrev pub begins_within : List Txn → Option ℤ
begins_within txns = within_epoch (first_zxid txns)

unfoldable pub notice_line : ℤ → List ℕ
notice_line zxid = codes "zk: begins " ++ id_digits zxid ++ codes "\n"

-- ---- its parts

-- the first zxid, with further transactions
abbrev pub first_of : Option ℤ → List Txn → Option ℤ
first_of None txns = first_zxid txns
first_of (Some first) txns = Some first

abbrev pub or_zxid : Option ℤ → ℤ → Option ℤ
or_zxid None zxid = Some zxid
or_zxid (Some first) zxid = Some first
