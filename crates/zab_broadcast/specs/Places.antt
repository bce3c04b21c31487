-- The positions at which tags of calls were first taken.
use Rattle.std.specs.Prelude.{◌≡◌, ℕ, ◌+◌, ◌==◌, if◌then◌else◌, List, [], ◌∷◌, Option, Some, None}
use Rattle.std.specs.BTreeMap.{BTreeMap, get}
use Rattle.std.specs.Ordering.{nat_cmp}

-- the first position of a tag, if the list begins at this one
abbrev pub place_from : ℕ → ℕ → List ℕ → Option ℕ
place_from at tag [] = None
place_from at tag (taken ∷ tags) = if taken == tag then Some at else place_from (at + 1) tag tags

-- a map has the first position of each tag
abbrev pub ArePlaces : BTreeMap ℕ ℕ → List ℕ → Type 0
ArePlaces places tags = (tag : ℕ) → get nat_cmp places tag ≡ place_from 0 tag tags
