-- Counters that are used up.
use Rattle.std.proofs.Common.{◌≡◌, ℕ, ℤ, Bool, true, false, cond, not, ◌&&◌, ◌==◌, nat_lt, eq-eqb, Option, Some, None, refl, sym, ap, ap₂, ◌∙◌}
use Rattle.zab_broadcast.specs.Calls.{Setting, is_taken}
use Rattle.zab_broadcast.specs.Rules.{Acts, next_zxid, appends, appends_at, silent, submit_as, request_as}
use Rattle.zab_broadcast.specs.declared.state.State.{State}
use Rattle.zab_epoch.specs.declared.role.Role.TheVariants.{Broadcast}
use Rattle.zab_call_laws.specs.Counters.{IsFull, stopped, SubmitsStopFullLeaders, RequestsStopFullLeaders}

no_more : (b : Bool) (x : Option ℤ) → cond (b && false) x None ≡ None
no_more true x = refl
no_more false x = refl

none_left : (epoch : ℕ) → next_zxid epoch 4294967295 ≡ None
none_left epoch = no_more (nat_lt epoch 2147483648) _

full_appends : {C : Type 0} (setting : Setting C) (state : State) (call : C) → IsFull state → appends setting state call ≡ stopped state
full_appends setting state call full =
    ap (appends_at setting state call) (ap (next_zxid state.peer.stable.promised) full.made ∙ none_left state.peer.stable.promised)

pub submits_stop : {C : Type 0} (setting : Setting C) → SubmitsStopFullLeaders setting
submits_stop setting state call full = ap (submit_as setting state call) full.leads ∙ full_appends setting state call full

pub requests_stop : {C : Type 0} (setting : Setting C) → RequestsStopFullLeaders setting
requests_stop {C} setting state epoch call full at new =
    ap (request_as setting state epoch call) full.leads
    ∙ ap (λ (b : Bool). taken_by b) (ap₂ (λ (own taken : Bool). own && not taken) (eq-eqb epoch state.peer.stable.promised at) new)
    ∙ full_appends setting state call full
  where
    taken_by : Bool → Acts C
    taken_by b = cond b (appends setting state call) (silent state)
