-- Whether words ask to follow: the first of `--follow` and `--` decides.
use Rattle.std.specs.Prelude.{ℕ, Bool, ◌||◌, List, [], ◌∷◌, ◌++◌, take, drop, Option, Some, None, option_map, if◌then◌else◌, codes}
use Rattle.std.specs.List.{position_or_len}
use Rattle.std.specs.Str.{bytes_eq}

abbrev pub is_mark : List ℕ → Bool
is_mark word = bytes_eq word (codes "--follow") || bytes_eq word (codes "--")

abbrev pub after_follow : List (List ℕ) → Option (List (List ℕ))
after_follow [] = None
after_follow (word ∷ rest) = if bytes_eq word (codes "--follow") then Some rest else None

abbrev pub follow_at : ℕ → List (List ℕ) → Option (List (List ℕ))
follow_at mark words = option_map (λ rest. take mark words ++ rest) (after_follow (drop mark words))

-- the other words
abbrev pub follow_of : List (List ℕ) → Option (List (List ℕ))
follow_of words = follow_at (position_or_len is_mark words) words
