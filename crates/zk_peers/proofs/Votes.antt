-- The votes of the servers that hear a quorum.
use Rattle.std.proofs.Common.{◌≡◌, ◌+◌, ℕ, suc, Bool, true, false, List, [], ◌∷◌, ◌++◌, Option, Some, None, if◌then◌else◌, refl, sym, ap, ◌∙◌}
use Rattle.std.proofs.lemmas.List.{append-nil}
use Rattle.zab_host.specs.declared.vote.Vote.{Vote}
use Rattle.zk_host.specs.declared.replica_host.ReplicaHost.{ReplicaHost}
use Rattle.zk_peers.specs.declared.cut.Cut.{Cut}
use Rattle.zk_peers.specs.declared.place.Place.{Place}
use Rattle.zk_peers.specs.Links.{listed}
use Rattle.zk_peers.specs.Peers.{has_quorum, host_at, vote_for, candidate, first_candidates}

module _ {S : Type 0} (cuts : List Cut) (places : List (Place S)) where
  -- ---- one server's

  pub no_quorum : (server : ℕ) → has_quorum cuts places server ≡ false → [] ≡ candidate cuts places server
  no_quorum server none = sym (ap (λ (b : Bool). if b then vote_for server (host_at places server) else []) none)

  with_quorum : (server : ℕ) (found : Option (ReplicaHost S)) → has_quorum cuts places server ≡ true → found ≡ host_at places server → vote_for server found ≡ candidate cuts places server
  with_quorum server found quorum is =
      ap (vote_for server) is ∙ sym (ap (λ (b : Bool). if b then vote_for server (host_at places server) else []) quorum)

  pub no_host : (server : ℕ) → has_quorum cuts places server ≡ true → None ≡ host_at places server → [] ≡ candidate cuts places server
  no_host server quorum is = with_quorum server None quorum is

  pub votes : (server : ℕ) (host : ReplicaHost S) (list : List Vote) → has_quorum cuts places server ≡ true → Some host ≡ host_at places server → list ≡ vote_for server (Some host) → list ≡ candidate cuts places server
  votes server host list quorum is vote = vote ∙ with_quorum server (Some host) quorum is

  -- ---- all servers'

  pub vote_more : (servers : ℕ) (vote : Vote) (list : List Vote) → list ≡ first_candidates cuts places servers → listed (Some vote) ≡ candidate cuts places (servers + 1)
      → list ++ vote ∷ [] ≡ first_candidates cuts places (suc servers)
  vote_more servers vote list before last = ap (λ (l : List Vote). l ++ vote ∷ []) before ∙ ap (λ (l : List Vote). first_candidates cuts places servers ++ l) last

  pub none_more : (servers : ℕ) (list : List Vote) → list ≡ first_candidates cuts places servers → listed {A = Vote} None ≡ candidate cuts places (servers + 1)
      → list ≡ first_candidates cuts places (suc servers)
  none_more servers list before last = before ∙ (sym (append-nil _) ∙ ap (λ (l : List Vote). first_candidates cuts places servers ++ l) last)
