-- The position of a key in a list of entries sorted by key, or else the position at which to insert
-- it.
use Rattle.std.specs.Prelude.{ℕ, suc, List, [], ◌∷◌, Result, Ok, Err}
use Rattle.std.specs.declared.cmp.Ordering.{Ordering}
use Rattle.std.specs.Ordering.{match_ordering}

-- the position after one more entry is prepended to the list
abbrev pub one_later : Result ℕ ℕ → Result ℕ ℕ
one_later (Ok at) = Ok (suc at)
one_later (Err at) = Err (suc at)

abbrev pub position_of : {K X : Type 0} → (K → K → Ordering) → K → List (K × X) → Result ℕ ℕ
position_of cmp key [] = Err 0
position_of cmp key (e ∷ es) = match_ordering (cmp key e.0) (Err 0) (Ok 0) (one_later (position_of cmp key es))
