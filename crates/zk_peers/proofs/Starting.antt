-- Hosts start on their stores.
use Rattle.std.proofs.Common.{◌≡◌, ◌+◌, ℕ, List, [], ◌∷◌, ◌++◌, length, refl, sym, ap, ◌∙◌, subst, arith, append_assoc, length-append}
use Rattle.std.proofs.lemmas.List.{append-nil}
use Rattle.zab_broadcast.specs.Rules.{restored}
use Rattle.zab_epoch.specs.declared.stable.Stable.{Stable}
use Rattle.zab_host.specs.Durability.{IsDurable}
use Rattle.zk_host.specs.declared.replica_host.ReplicaHost.{ReplicaHost}
use Rattle.zk_host.specs.WatchedTrees.{new_tree}
use Rattle.zk_peers.specs.declared.place.Place.{Place}
use Rattle.zk_peers.specs.declared.place.Place.TheVariants.{Up, Down}
use Rattle.zk_peers.specs.Hosts.{HasStarted}
use Rattle.zk_peers.specs.Peers.{StartAll, StartsNext}

pub started : {S : Type 0} (clean : S → Type 0) (may_recover : S → Stable → Type 0) (boots : S → ℕ) (servers me : ℕ) (storage : S) (it : ReplicaHost S)
    → (stable : Stable) × ((clean it.host.storage → may_recover storage stable) × ((it.host.state ≡ restored servers me stable) × ((it.host.outbox ≡ []) × IsDurable stable (may_recover it.host.storage))))
    → it.tree ≡ new_tree → it.shown ≡ 0 → (it.tags.host ≡ me) × ((it.tags.boot ≡ boots storage + 1) × (it.tags.used ≡ 0)) → boots it.host.storage ≡ boots storage + 1
    → HasStarted clean may_recover boots servers me storage it
started clean may_recover boots servers me storage it host tree shown tags starts = record {
  stable = host.0;
  found = host.1.0;
  state = host.1.1.0;
  outbox = host.1.1.1.0;
  durable = host.1.1.1.1;
  tree = tree;
  shown = shown;
  tags = tags;
  starts = starts;
}

-- ---- all of them

module _ {S : Type 0} (clean : S → Type 0) (may_recover : S → Stable → Type 0) (boots : S → ℕ) (servers : ℕ) where
  -- the first servers have started: with the rest, all have
  pub record IsUnderWay (storages : List S) (places : List (Place S)) (rest : List S) : Type 0 where
    pub all : (later : List (Place S)) → StartAll clean may_recover boots servers (length places + 1) rest later
        → StartAll clean may_recover boots servers 1 storages (places ++ later)

  pub first : (storages rest : List S) → rest ≡ storages → IsUnderWay storages [] rest
  first storages rest same = record { all = λ later started. subst (λ (l : List S). StartAll clean may_recover boots servers 1 l later) same started }

  -- the next one
  pub starts_next : (me : ℕ) (storage : S) (host : ReplicaHost S) (old new : List (Place S)) → me ≡ length old + 1 → HasStarted clean may_recover boots servers me storage host → new ≡ old ++ Up host ∷ []
      → StartsNext clean may_recover boots servers storage old new
  starts_next me storage host old new is started added =
      record { host = host; started = subst (λ (n : ℕ). HasStarted clean may_recover boots servers n storage host) is started; added = added }

  longer : (storage : S) (old new : List (Place S)) → StartsNext clean may_recover boots servers storage old new → length new ≡ length old + 1
  longer storage old new it = ap (λ (l : List (Place S)). length l) it.added ∙ length-append old (Up it.host ∷ [])

  pub as_many : (storage : S) (old new : List (Place S)) (pending rest : List S) (count : ℕ) → StartsNext clean may_recover boots servers storage old new → pending ≡ storage ∷ rest → length old + length pending ≡ count
      → length new + length rest ≡ count
  as_many storage old new pending rest count it is before = omega (arith, longer storage old new it, ap (λ (l : List S). length l) is)

  under_way : (storages rest : List S) (storage : S) (places new : List (Place S)) → IsUnderWay storages places (storage ∷ rest) → StartsNext clean may_recover boots servers storage places new → IsUnderWay storages new rest
  under_way storages rest storage places new under it = record {
    all = λ later started.
        let more : length new + 1 ≡ length places + 1 + 1 = omega (arith, longer storage places new it) in
        let all = under.all (Up it.host ∷ later) (it.started, subst (λ (n : ℕ). StartAll clean may_recover boots servers n rest later) more started) in
        subst (λ (l : List (Place S)). StartAll clean may_recover boots servers 1 storages l)
        (sym (append_assoc places (Up it.host ∷ []) later) ∙ ap (λ (l : List (Place S)). l ++ later) (sym it.added)) all;
  }

  pub next : (storages pending rest : List S) (storage : S) (places new : List (Place S)) → pending ≡ storage ∷ rest → IsUnderWay storages places pending → StartsNext clean may_recover boots servers storage places new
      → IsUnderWay storages new rest
  next storages pending rest storage places new is under it =
      under_way storages rest storage places new (subst (λ (l : List S). IsUnderWay storages places l) is under) it

  pub last : (storages pending : List S) (places : List (Place S)) → pending ≡ [] → IsUnderWay storages places pending → StartAll clean may_recover boots servers 1 storages places
  last storages pending places is under =
      let whole = subst (λ (l : List S). IsUnderWay storages places l) is under in
      subst (λ (l : List (Place S)). StartAll clean may_recover boots servers 1 storages l) (append-nil places) (whole.all [] tt)
