-- Where the history that logs hold is broken, and how far a snapshot is followed.
use Rattle.std.specs.Prelude.{ℤ, Bool, int_le, int_lt, List, fold, Option, Some, None, if◌then◌else◌}
use Rattle.zk_verification.specs.declared.breaks.Break.{Break}
use Rattle.zk_verification.specs.declared.breaks.Break.TheVariants as breaks

-- a snapshot before the end of a broken place is followed to where the place begins, or not at all. A
-- damaged log is not read beyond its damage, even if the snapshot comes after it
abbrev pub is_within : ℤ → Break → Bool
is_within zxid (breaks.Missing from to) = int_lt zxid to
is_within zxid (breaks.Damaged from last) = int_le zxid last

abbrev pub from_of : Break → ℤ
from_of (breaks.Missing from to) = from
from_of (breaks.Damaged from last) = from

abbrev pub greater : ℤ → ℤ → ℤ
greater a b = if int_lt a b then b else a

abbrev pub earlier : Option ℤ → ℤ → Option ℤ
earlier None zxid = Some zxid
earlier (Some end) zxid = if int_lt end zxid then Some end else Some zxid

abbrev pub narrowed : ℤ → Option ℤ → Break → Option ℤ
narrowed zxid reach place = if is_within zxid place then earlier reach (greater zxid (from_of place)) else reach

-- the last zxid up to which all transactions after a snapshot are there; none for the end of the logs
abbrev pub reach_of : ℤ → List Break → Option ℤ
reach_of zxid places = fold (narrowed zxid) None places
