-- A tag is accepted once: no two events of a run submit accepted calls with one tag.
use Rattle.std.proofs.Common.{◌≡◌, ℕ, suc, zero, true, false, List, [], ◌∷◌, Option, Some, None, Result, Ok, Err, refl, sym, ap, subst, ◌∙◌, slice_get}
use Rattle.zab_epoch.specs.declared.rule_fault.RuleFault.{RuleFault}
use Rattle.zab_epoch.specs.declared.message.Message.{Message}
use Rattle.zab_broadcast.specs.Calls.{Setting, is_taken}
use Rattle.zab_broadcast.specs.Rules as rules
use Rattle.zab_rule_laws.proofs.TagFacts.{by_test, same_some, taken_last}
use Rattle.zab_model.specs.declared.event.Event.{Event}
use Rattle.zab_model.specs.declared.event.Event.TheVariants.{Lead, Follow, Arrive, Submit, Expire, Sync, Crash, Restart}
use Rattle.zab_model.specs.declared.event.Moved.{Moved}
use Rattle.zab_model.specs.declared.fault.WorldFault.{WorldFault}
use Rattle.zab_model.specs.ProcessStates.{ProcessState, standing}
use Rattle.zab_model.specs.Worlds.{World, Profile, Answer, running, told, said, with_server, spends, submits, happens}
use Rattle.zab_model.specs.Runs.{answers}
use Rattle.zab_call_laws.proofs.Spending.{happens_tags, not_ok, not_spent}
use Rattle.zab_agreement_laws.specs.Origins.{call_of}

-- an event of a run from a world on submitted the call, and its answer was the messages that it
-- sent
pub record IsAcceptedFrom {C : Type 0} (profile : Profile C) (w : World C) (events : List (Event C)) (call : C) : Type 0 where
  pub place : ℕ
  pub event : Event C
  pub happened : slice_get events place ≡ Some event
  pub submitted : call_of profile event ≡ Some call
  pub sent : Moved
  pub answered : slice_get (answers profile w events) place ≡ Some (Ok sent)

-- ---- an accepted call spends its tag, which was not spent before

abbrev SpendsTag : {C : Type 0} → Setting C → World C → C → World C × Answer → Type 0
SpendsTag setting w call p =
    (sent : Moved) → p.1 ≡ Ok sent → (is_taken (setting.tag call) w.tags.calls ≡ false) × (is_taken (setting.tag call) p.0.tags.calls ≡ true)

spends_it : {C : Type 0} (setting : Setting C) (w : World C) (n : ℕ) (call : C) (stands : ProcessState) (r : Result (List (Message C)) RuleFault) → is_taken (setting.tag call) w.tags.calls ≡ false → SpendsTag setting w call (spends (setting.tag call) (told (with_server w n stands) (said r)))
spends_it setting w n call stands (Ok messages) free = λ sent is. (free, taken_last (setting.tag call) w.tags.calls)
spends_it setting w n call stands (Err fault) free = λ sent is. not_ok _ sent is

submits_it : {C : Type 0} (setting : Setting C) (w : World C) (n : ℕ) (call : C) (r : Result ProcessState WorldFault) → SpendsTag setting w call (submits setting w n call r)
submits_it setting w n call (Err fault) = λ sent is. not_ok fault sent is
submits_it setting w n call (Ok it) =
    by_test (SpendsTag setting w call) (rules.is_serving it.state.peer.role) _ _
    (λ serving. by_test (SpendsTag setting w call) (is_taken (setting.tag call) w.tags.calls) _ _
    (λ again sent is. not_ok _ sent is)
    (λ free. spends_it setting w n call (standing it.up (rules.submit setting it.state call).0) (rules.submit setting it.state call).1 free))
    (λ no sent is. not_ok _ sent is)

no_call : {C : Type 0} {A : Type 0} (call : C) → (let o : Option C = None in o ≡ Some call) → A
no_call call is = absurd (let e : None ≡ Some call = is in cc)

happens_spends : {C : Type 0} (profile : Profile C) (w : World C) (event : Event C) (call : C) → call_of profile event ≡ Some call → SpendsTag profile.setting w call (happens profile w event)
happens_spends profile w (Lead n) call is = no_call call is
happens_spends profile w (Follow n leader) call is = no_call call is
happens_spends profile w (Arrive number) call is = no_call call is
happens_spends profile w (Submit n own) call is =
    subst (λ c. SpendsTag profile.setting w c (happens profile w (Submit n own))) (same_some own call is)
    (submits_it profile.setting w n own (running w.servers n))
happens_spends {C} profile w (Expire n tag session now) call is =
    let own : C = profile.closing tag session now in
    subst (λ c. SpendsTag profile.setting w c (happens profile w (Expire n tag session now))) (same_some own call is)
    (submits_it profile.setting w n own (running w.servers n))
happens_spends profile w (Sync n tag) call is = no_call call is
happens_spends profile w (Crash n) call is = no_call call is
happens_spends profile w (Restart n) call is = no_call call is

-- the first of some events
first_spends : {C : Type 0} (profile : Profile C) (w : World C) (first event : Event C) (call : C) (sent : Moved) → (let o : Option (Event C) = Some first in o ≡ Some event) → call_of profile event ≡ Some call → (let o : Option Answer = Some (happens profile w first).1 in o ≡ Some (Ok sent)) → (is_taken (profile.setting.tag call) w.tags.calls ≡ false) × (is_taken (profile.setting.tag call) (happens profile w first).0.tags.calls ≡ true)
first_spends profile w first event call sent happened submitted answered =
    happens_spends profile w first call (ap (call_of profile) (same_some first event happened) ∙ submitted) sent
    (same_some (happens profile w first).1 (Ok sent) answered)

-- ---- once

never_again : {C : Type 0} (profile : Profile C) (w : World C) (events : List (Event C)) (call : C) (place : ℕ) (event : Event C) (sent : Moved) → is_taken (profile.setting.tag call) w.tags.calls ≡ true → slice_get events place ≡ Some event → call_of profile event ≡ Some call → slice_get (answers profile w events) place ≡ Some (Ok sent) → ⊥
never_again profile w [] call place event sent spent happened submitted answered = absurd cc
never_again profile w (first ∷ events) call zero event sent spent happened submitted answered =
    not_spent (is_taken (profile.setting.tag call) w.tags.calls) spent (first_spends profile w first event call sent happened submitted answered).0
never_again profile w (first ∷ events) call (suc place) event sent spent happened submitted answered =
    never_again profile (happens profile w first).0 events call place event sent ((happens_tags profile w first).0 (profile.setting.tag call) spent) happened submitted answered

-- the call of the first event is accepted, so no later one has its tag
never_later : {C : Type 0} (profile : Profile C) (w : World C) (first : Event C) (events : List (Event C)) (call other : C) → profile.setting.tag call ≡ profile.setting.tag other → is_taken (profile.setting.tag call) (happens profile w first).0.tags.calls ≡ true → IsAcceptedFrom profile (happens profile w first).0 events other → ⊥
never_later profile w first events call other same spent a =
    never_again profile (happens profile w first).0 events other a.place a.event a.sent
    (subst (λ tag. is_taken tag (happens profile w first).0.tags.calls ≡ true) same spent) a.happened a.submitted a.answered

accepted_at : {C : Type 0} (profile : Profile C) (w : World C) (events : List (Event C)) (call other : C) (i j : ℕ) (event later : Event C) (sent more : Moved) → profile.setting.tag call ≡ profile.setting.tag other → slice_get events i ≡ Some event → call_of profile event ≡ Some call → slice_get (answers profile w events) i ≡ Some (Ok sent) → slice_get events j ≡ Some later → call_of profile later ≡ Some other → slice_get (answers profile w events) j ≡ Some (Ok more) → i ≡ j
accepted_at profile w [] call other i j event later sent more same e c a f d b = absurd cc
accepted_at profile w (first ∷ events) call other zero zero event later sent more same e c a f d b = refl
accepted_at profile w (first ∷ events) call other zero (suc j) event later sent more same e c a f d b =
    absurd (never_later profile w first events call other same (first_spends profile w first event call sent e c a).1
    (record { place = j; event = later; happened = f; submitted = d; sent = more; answered = b }))
accepted_at profile w (first ∷ events) call other (suc i) zero event later sent more same e c a f d b =
    absurd (never_later profile w first events other call (sym same) (first_spends profile w first later other more f d b).1
    (record { place = i; event = event; happened = e; submitted = c; sent = sent; answered = a }))
accepted_at profile w (first ∷ events) call other (suc i) (suc j) event later sent more same e c a f d b =
    ap suc (accepted_at profile (happens profile w first).0 events call other i j event later sent more same e c a f d b)

pub accepted_once : {C : Type 0} (profile : Profile C) (w : World C) (events : List (Event C)) (call other : C) → profile.setting.tag call ≡ profile.setting.tag other → (a : IsAcceptedFrom profile w events call) (b : IsAcceptedFrom profile w events other) → a.place ≡ b.place
accepted_once profile w events call other same a b =
    accepted_at profile w events call other a.place b.place a.event b.event a.sent b.sent same a.happened a.submitted a.answered b.happened b.submitted b.answered
