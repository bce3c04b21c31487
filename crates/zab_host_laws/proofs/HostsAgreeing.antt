-- What hosts deliver is delivered in a run.
use Rattle.std.proofs.Common.{◌≡◌, ◌⊎◌, ℕ, ◌+◌, List, [], ◌∷◌, ◌++◌, length, refl, sym, ap, ◌∙◌, subst₂, arith}
use Rattle.std.proofs.lemmas.List.{take_at, take_all}
use Rattle.zab_laws.specs.Prefixes.{IsPrefix}
use Rattle.zab_epoch.specs.declared.history.Entry.{Entry}
use Rattle.zab_model.specs.declared.event.Event.{Event}
use Rattle.zab_model.specs.Worlds.{World, Profile, spent}
use Rattle.zab_model.specs.Runs.{after, run, delivered_of, delivered_after}
use Rattle.zab_model.proofs.RunLaws.{after_all}
use Rattle.zab_agreement_laws.specs.Agreement.{Agrees}
use Rattle.zab_host_laws.specs.Hosts.{Network, Step, new_network, after_step, after_steps, MayStepAll, calls_after, syncs_after}
use Rattle.zab_host_laws.proofs.HostRuns.{all_steps, calls_all, syncs_all}
use Rattle.zab_host_laws.specs.Agreement.{HostsAgree}

stepped_both : {C : Type 0} (profile : Profile C) (c : Network C) (a b : List (Step C)) → after_steps profile c (a ++ b) ≡ after_steps profile (after_steps profile c a) b
stepped_both profile c [] b = refl
stepped_both profile c (step ∷ a) b = stepped_both profile (after_step profile c step) a b

may_first : {C : Type 0} (profile : Profile C) (c : Network C) (calls syncs : List ℕ) (a b : List (Step C)) → MayStepAll profile c calls syncs (a ++ b) → MayStepAll profile c calls syncs a
may_first profile c calls syncs [] b may = tt
may_first profile c calls syncs (step ∷ a) b may = (may.0, may_first profile (after_step profile c step) (calls_after profile calls step) (syncs_after syncs step) a b may.1)

may_last : {C : Type 0} (profile : Profile C) (c : Network C) (calls syncs : List ℕ) (a b : List (Step C)) → MayStepAll profile c calls syncs (a ++ b) → MayStepAll profile (after_steps profile c a) (calls_all profile calls a) (syncs_all syncs a) b
may_last profile c calls syncs [] b may = may
may_last profile c calls syncs (step ∷ a) b may = may_last profile (after_step profile c step) (calls_after profile calls step) (syncs_after syncs step) a b may.1

pub hosts_agree : {C : Type 0} (profile : Profile C) → ((servers : ℕ) (events : List (Event C)) → Agrees profile servers events) → HostsAgree profile
hosts_agree {C} profile agrees servers before between may p q =
    let start = new_network servers in
    let c = after_steps profile start before in
    let first = all_steps profile start [] [] (spent [] []) before (record { calls_new = λ tag p. p; syncs_new = λ tag p. p }) (may_first profile start [] [] before between may) in
    let second = all_steps profile c (calls_all profile [] before) (syncs_all [] before) first.1 between first.3 (may_last profile start [] [] before between may) in
    let all = first.0 ++ second.0 in
    let one : delivered_after profile servers all (length first.0) p ≡ delivered_of c p =
    ap (λ (events : List (Event C)). delivered_of (run profile servers events).0 p) (take_at first.0 second.0 (length first.0) refl) ∙ ap (λ (x : World C). delivered_of x p) first.2 in
    let other : delivered_after profile servers all (length all) q ≡ delivered_of (after_steps profile start (before ++ between)) q =
    ap (λ (events : List (Event C)). delivered_of (run profile servers events).0 q) (take_all (length all) all (omega arith))
    ∙ ap (λ (x : World C). delivered_of x q) (after_all profile start first.0 second.0 ∙ ap (λ (x : World C). after profile x second.0) first.2 ∙ second.2)
    ∙ ap (λ (x : World C). delivered_of x q) (sym (stepped_both profile start before between)) in
    subst₂ (λ (a b : List Entry). IsPrefix a b ⊎ IsPrefix b a) one other ((agrees servers all).one_order (length first.0) (length all) p q)
