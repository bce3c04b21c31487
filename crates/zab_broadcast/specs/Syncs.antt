-- Syncs that a follower has sent to its leader, and those completed.
use Rattle.std.specs.Prelude.{ℕ, zero, suc, ◌==◌, ◌||◌, nat_lt, nat_le, Bool, true, false, if◌then◌else◌, List, [], ◌∷◌, ◌++◌, insert, map, Option, Some, None}
use Rattle.zab_broadcast.specs.declared.syncs.Asked.{Asked}
use Rattle.zab_broadcast.specs.declared.syncs.Caught.{Caught}

-- a sync without a reply from the leader
abbrev pub newly_asked : ℕ → Asked
newly_asked tag = record { tag = tag; length = None }

abbrev pub caught_at : ℕ → ℕ → Caught
caught_at tag length = record { tag = tag; length = length }

-- the number of syncs before the first with a greater tag
abbrev pub position_of : ℕ → List Asked → ℕ
position_of tag [] = zero
position_of tag (one ∷ more) = if nat_lt tag one.tag then zero else suc (position_of tag more)

-- with one more, at its position in the order of tags
abbrev pub with_asked : ℕ → List Asked → List Asked
with_asked tag asked = insert asked (position_of tag asked) (newly_asked tag)

abbrev pub is_asked : ℕ → List Asked → Bool
is_asked tag [] = false
is_asked tag (one ∷ more) = (one.tag == tag) || is_asked tag more

-- the first length received stays
abbrev pub first_told : ℕ → Option ℕ → Option ℕ
first_told length None = Some length
first_told length (Some before) = Some before

abbrev pub told_one : ℕ → ℕ → Asked → Asked
told_one tag length one = if one.tag == tag then record { tag = one.tag; length = first_told length one.length } else one

-- the leader has sent a length for a tag
abbrev pub told : ℕ → ℕ → List Asked → List Asked
told tag length asked = map (told_one tag length) asked

-- ---- what completes at a delivered length: each sync whose length is received and delivered

abbrev pub is_reached : ℕ → Option ℕ → Bool
is_reached delivered None = false
is_reached delivered (Some length) = nat_le length delivered

-- in the order of tags
abbrev pub left_asked : ℕ → List Asked → List Asked
left_asked delivered [] = []
left_asked delivered (one ∷ more) =
    (if is_reached delivered one.length then [] else one ∷ []) ++ left_asked delivered more

abbrev pub caught_of : ℕ → ℕ → Option ℕ → List Caught
caught_of delivered tag None = []
caught_of delivered tag (Some length) = if nat_le length delivered then caught_at tag length ∷ [] else []

abbrev pub newly_caught : ℕ → List Asked → List Caught
newly_caught delivered [] = []
newly_caught delivered (one ∷ more) = caught_of delivered one.tag one.length ++ newly_caught delivered more
