-- The transactions of two directories, joined by zxid. An entry is its zxid and the bytes of its record,
-- and zxids rise in each directory.
use Rattle.std.specs.Prelude.{ℤ, pos, List, [], ◌∷◌, ◌++◌, map, Option, Some, None, option_map, if◌then◌else◌, int_lt}
use Rattle.std.specs.Ordering.{int_eq}
use Rattle.zk_comparison.specs.declared.pair.Pair.{Pair}
use Rattle.zk_directory.specs.Chains.{Told, told}

-- what each directory has of one zxid
abbrev pub Both : Type 0
Both = Option Told × Option Told

abbrev pub first_alone : Told → Both
first_alone entry = (Some entry, None)

abbrev pub second_alone : Told → Both
second_alone entry = (None, Some entry)

-- ---- entries around a zxid

abbrev pub below : ℤ → List Told → List Told
below zxid [] = []
below zxid (entry ∷ entries) = if int_lt entry.0 zxid then entry ∷ below zxid entries else []

abbrev pub since : ℤ → List Told → List Told
since zxid [] = []
since zxid (entry ∷ entries) = if int_lt entry.0 zxid then since zxid entries else entry ∷ entries

-- the one at the front, if it has this zxid, and the others
abbrev pub at_front : ℤ → List Told → Option Told
at_front zxid [] = None
at_front zxid (entry ∷ entries) = if int_eq entry.0 zxid then Some entry else None

abbrev pub after_front : ℤ → List Told → List Told
after_front zxid [] = []
after_front zxid (entry ∷ entries) = if int_eq entry.0 zxid then entries else entry ∷ entries

-- ---- all of them

-- an entry of the first directory, after those of the second that are below it
abbrev pub with_below : Told → List Told → List Both
with_below entry second = map second_alone (below entry.0 second) ++ (Some entry, at_front entry.0 (since entry.0 second)) ∷ []

abbrev pub paired : List Told → List Told → List Both
paired [] second = map second_alone second
paired (entry ∷ first) second = with_below entry second ++ paired first (after_front entry.0 (since entry.0 second))

-- ---- their zxids

abbrev pub zxid_by : Option Told → ℤ → ℤ
zxid_by None other = other
zxid_by (Some entry) other = entry.0

abbrev pub zxid_of : Both → ℤ
zxid_of both = zxid_by both.0 (zxid_by both.1 (pos 0))

-- ---- calls within

abbrev pub both_of : Pair → Both
both_of pair = (option_map told pair.first, option_map told pair.second)
