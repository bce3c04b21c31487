-- What two directories have in common, and where they differ. Their transactions are compared from the
-- first zxid on that neither begins above, to the last that neither ends below.
use Rattle.std.specs.Prelude.{ℤ, Bool, true, false, ◌&&◌, List, [], ◌∷◌, map, Option, Some, None, if◌then◌else◌, int_lt}
use Rattle.std.specs.List.{flat_map, list_any}
use Rattle.zk_comparison.specs.Meanings.{is_same_record}
use Rattle.zk_comparison.specs.Pairs.{Both, both_of, paired, zxid_of}
use Rattle.zk_comparison.specs.declared.judgement.Judgement.{Judgement}
use Rattle.zk_comparison.specs.declared.judgement.Kind.{Kind}
use Rattle.zk_comparison.specs.declared.judgement.Kind.TheVariants.{Before, Same, Lost, Differing, After}
use Rattle.zk_comparison.specs.declared.judgement.Limits.{Limits}
use Rattle.zk_comparison.specs.declared.loss.Loss.{Loss}
use Rattle.zk_directory.specs.Chains.{Told}
use Rattle.zk_verification.specs.declared.mark.Mark.{Mark}
use Rattle.zk_verification.specs.declared.mark.Mark.TheVariants as marks
use Rattle.zk_verification.specs.declared.mark.Moment.{Moment}

-- ---- what a directory lost

-- the transactions between those around a damaged place, or around missing ones
abbrev pub loss_by : Mark → List Loss
loss_by (marks.Lost damage) = record { before = damage.before; after = damage.after } ∷ []
loss_by (marks.Gap before after) = record { before = before; after = after } ∷ []
loss_by mark = []

abbrev pub losses_of : List Mark → List Loss
losses_of all = flat_map loss_by all

-- above none is each zxid
abbrev pub is_above : Option Moment → ℤ → Bool
is_above None zxid = true
is_above (Some before) zxid = int_lt before.zxid zxid

abbrev pub is_within : ℤ → Loss → Bool
is_within zxid loss = is_above loss.before zxid && int_lt zxid loss.after.zxid

abbrev pub is_lost : List Loss → ℤ → Bool
is_lost losses zxid = list_any (is_within zxid) losses

-- ---- the range in common

abbrev pub first_of : List Told → Option ℤ
first_of [] = None
first_of (entry ∷ entries) = Some entry.0

-- the zxid of the last entry, or else `last`
abbrev pub last_from : Option ℤ → List Told → Option ℤ
last_from last [] = last
last_from last (entry ∷ entries) = last_from (Some entry.0) entries

-- the greater one, and the lesser one
abbrev pub start_of : Option ℤ → Option ℤ → Option ℤ
start_of (Some first) (Some second) = Some (if int_lt first second then second else first)
start_of first second = None

abbrev pub end_of : Option ℤ → Option ℤ → Option ℤ
end_of (Some first) (Some second) = Some (if int_lt first second then first else second)
end_of first second = None

abbrev pub limits_of : List Told → List Told → Limits
limits_of first second = record { start = start_of (first_of first) (first_of second); end = end_of (last_from None first) (last_from None second) }

abbrev pub is_below : Option ℤ → ℤ → Bool
is_below None zxid = false
is_below (Some start) zxid = int_lt zxid start

abbrev pub is_beyond : Option ℤ → ℤ → Bool
is_beyond None zxid = false
is_beyond (Some last) zxid = int_lt last zxid

-- ---- each zxid

abbrev pub lost_or_differing : Bool → Kind
lost_or_differing true = Lost
lost_or_differing false = Differing

abbrev pub same_or_differing : Bool → Kind
same_or_differing true = Same
same_or_differing false = Differing

-- a transaction of one directory alone may be among those that the other lost
abbrev pub kind_by : List Loss → List Loss → Both → Kind
kind_by losses others (Some first, Some second) = same_or_differing (is_same_record first.1 second.1)
kind_by losses others (Some first, None) = lost_or_differing (is_lost others first.0)
kind_by losses others (None, Some second) = lost_or_differing (is_lost losses second.0)
kind_by losses others (None, None) = Differing

abbrev pub kind_of : Limits → List Loss → List Loss → Both → Kind
kind_of limits losses others both =
    if is_below limits.start (zxid_of both) then Before else (if is_beyond limits.end (zxid_of both) then After else kind_by losses others both)

abbrev pub with_kind : Limits → List Loss → List Loss → Both → Kind × Both
with_kind limits losses others both = (kind_of limits losses others both, both)

-- ---- both directories

abbrev pub is_kind : Kind → Kind → Bool
is_kind Before Before = true
is_kind Same Same = true
is_kind Lost Lost = true
is_kind Differing Differing = true
is_kind After After = true
is_kind kind other = false

-- those of a kind, in order
abbrev pub of_kind : Kind → List (Kind × Both) → List Both
of_kind kind [] = []
of_kind kind (judged ∷ all) = if is_kind kind judged.0 then judged.1 ∷ of_kind kind all else of_kind kind all

-- the entries of two directories, each with what it lost
abbrev pub judged_of : List Told → List Told → List Loss → List Loss → List (Kind × Both)
judged_of first second losses others = map (with_kind (limits_of first second) losses others) (paired first second)

-- ---- calls within

abbrev pub shown : Judgement → Kind × Both
shown judged = (judged.kind, both_of judged.pair)
