-- The vote that wins an election. ZooKeeper, class FastLeaderElection: each server ends with the
-- vote that wins over all others that it has heard of.
use Rattle.std.specs.Prelude.{◌≡◌, false, ℕ, List, [], Option, Some, None, slice_get}
use Rattle.std.specs.List.{AllByRecursion}
use Rattle.zab_host.specs.declared.vote.Vote.{Vote}
use Rattle.zab_host.specs.Votes.{total_order_predicate}

pub record IsWinner (vote : Vote) (votes : List Vote) : Type 0 where
  -- it is among the votes
  pub place : ℕ
  pub among : slice_get votes place ≡ Some vote
  -- no other wins over it
  pub greatest : AllByRecursion (λ other. total_order_predicate other vote ≡ false) votes

-- the winner, if there are votes
abbrev pub IsResult : Option Vote → List Vote → Type 0
IsResult None votes = votes ≡ []
IsResult (Some vote) votes = IsWinner vote votes
