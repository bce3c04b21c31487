-- The first line of a run script: the number of servers, and the weight of each. This project's
-- own.
use Rattle.std.specs.Prelude.{◌≡◌, ◌^◌, ◌<◌, ◌⊎◌, ℕ, List, [], ◌∷◌, ◌++◌, length, replicate, codes, None, Result, Ok, Err}
use Rattle.std.specs.Fmt.{decimal}
use Rattle.std.specs.List.{AllByRecursion, flat_map}
use Rattle.zab_epoch.specs.Weights.{weight_fault}
use Rattle.zk_listing.specs.declared.list_fault.ListCause.{ListCause}
use Rattle.zk_listing.specs.declared.list_fault.ListCause.TheVariants as causes

-- a number after a space
abbrev pub field : ℕ → List ℕ
field number = 32 ∷ decimal number

-- `servers N`, where each server weighs 1, or `servers N weights WEIGHT ..`
abbrev pub SpellsWeights : List ℕ → List ℕ → Type 0
SpellsWeights weights text =
    ((weights ≡ replicate (length weights) 1) × (text ≡ codes "servers " ++ decimal (length weights)))
    ⊎ (text ≡ codes "servers " ++ decimal (length weights) ++ codes " weights" ++ flat_map field weights)

-- accepted weights, of 32 bits each
pub record SaysServers (line weights : List ℕ) : Type 0 where
  pub right : weight_fault weights ≡ None
  pub each : AllByRecursion (λ weight. weight < 2 ^ 32) weights
  pub spelled : SpellsWeights weights line

-- a first line is read as its weights, or rejected if it has none; an allocation can fail only for
-- weights that it has
abbrev pub ReadsServers : List ℕ → Result (List ℕ) ListCause → Type 0
ReadsServers line (Ok weights) = SaysServers line weights × ((other : List ℕ) → SaysServers line other → other ≡ weights)
ReadsServers line (Err causes.NoMemory) = (weights : List ℕ) × SaysServers line weights
ReadsServers line (Err cause) = (weights : List ℕ) → SaysServers line weights → ⊥
