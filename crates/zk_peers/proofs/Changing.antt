-- Places that change.
use Rattle.std.proofs.Common.{◌≡◌, ◌<◌, ◌-◌, ◌+◌, ℕ, suc, Bool, true, false, List, length, set, get_or, refl, sym, subst}
use Rattle.zab_epoch.specs.declared.stable.Stable.{Stable}
use Rattle.zk_peers.specs.declared.cut.Cut.{Cut}
use Rattle.zk_peers.specs.declared.place.Place.{Place}
use Rattle.zk_peers.specs.Links.{is_cut}
use Rattle.zk_peers.specs.Peers.{TakesRoleAt, FirstTakeRoles, RejoinsIf, FirstRejoin}
use Rattle.zk_peers.specs.Places.{ChangesAt}

pub changes : {S : Type 0} (server : ℕ) (Changes : Place S → Place S → Type 0) (old : List (Place S)) (before after : Place S) → server - 1 < length old → before ≡ get_or old (server - 1) before
    → Changes before after → ChangesAt server Changes old (set old (server - 1) after)
changes server Changes old before after within is it = record { before = before; after = after; within = within; is = is; changes = it; others = refl }

module _ {S : Type 0} (may_recover : S → Stable → Type 0) (boots : S → ℕ) (leader : ℕ) where
  pub roles_more : (servers : ℕ) (old between new : List (Place S)) → FirstTakeRoles may_recover boots leader servers old between → TakesRoleAt may_recover boots (servers + 1) leader between new
      → FirstTakeRoles may_recover boots leader (suc servers) old new
  roles_more servers old between new first last = (between, first, last)

  pub rejoin_more : (cuts : List Cut) (servers : ℕ) (old between new : List (Place S)) → FirstRejoin may_recover boots cuts leader servers old between
      → RejoinsIf may_recover boots (is_cut cuts leader (servers + 1)) (servers + 1) leader between new → FirstRejoin may_recover boots cuts leader (suc servers) old new
  rejoin_more cuts servers old between new first last = (between, first, last)

  pub rejoins_not : (cut : Bool) (server : ℕ) (old new : List (Place S)) → cut ≡ false → new ≡ old → RejoinsIf may_recover boots cut server leader old new
  rejoins_not cut server old new whole same = subst (λ (b : Bool). RejoinsIf may_recover boots b server leader old new) (sym whole) same

  pub rejoins_now : (cut : Bool) (server : ℕ) (old new : List (Place S)) → cut ≡ true → TakesRoleAt may_recover boots server leader old new → RejoinsIf may_recover boots cut server leader old new
  rejoins_now cut server old new is takes = subst (λ (b : Bool). RejoinsIf may_recover boots b server leader old new) (sym is) takes
