-- How the first line of a run script is read: a word, and the fields after it.
use Rattle.std.specs.Prelude.{◌^◌, ◌==◌, ◌&&◌, nat_lt, nat_le, ℕ, List, [], ◌∷◌, Bool, if◌then◌else◌, length, replicate, codes, Option, Some, None, is_none}
use Rattle.zab_epoch.specs.Weights.{weight_fault}
use Rattle.zk_listing.specs.Reading.{◌>>=◌, spaced, many_at}
use Rattle.zk_request_syntax.specs.Reading.{by_word, number_at}

unfoldable pub servers_at : List ℕ → Option (ℕ × List ℕ)
servers_at bytes = by_word ((codes "servers", spaced number_at) ∷ []) bytes

abbrev pub if_weight : ℕ × List ℕ → Option (ℕ × List ℕ)
if_weight x = if nat_lt x.0 (2 ^ 32) then Some x else None

-- a weight after a space
unfoldable pub weight_at : List ℕ → Option (ℕ × List ℕ)
weight_at bytes = spaced number_at bytes >>= if_weight

-- the word for weights, and `n` of them
unfoldable pub listed_at : ℕ → List ℕ → Option (List ℕ × List ℕ)
listed_at servers bytes = spaced (by_word ((codes "weights", many_at weight_at servers) ∷ [])) bytes

-- what comes after the number of servers: nothing, where each weighs 1, or their weights
abbrev pub weights_of : ℕ → List ℕ → Option (List ℕ × List ℕ)
weights_of servers [] = Some (replicate servers 1, [])
weights_of servers (b ∷ bytes) = listed_at servers (b ∷ bytes)

abbrev pub counted_weights : ℕ × List ℕ → Option (List ℕ × List ℕ)
counted_weights x = if nat_le x.0 15 then weights_of x.0 x.1 else None

unfoldable pub first_at : List ℕ → Option (List ℕ × List ℕ)
first_at bytes = servers_at bytes >>= counted_weights

-- weights are accepted
abbrev pub are_right : List ℕ → Bool
are_right weights = is_none (weight_fault weights)

abbrev pub are_right_alone : List ℕ → List ℕ → Bool
are_right_alone left weights = length left == 0 && are_right weights
