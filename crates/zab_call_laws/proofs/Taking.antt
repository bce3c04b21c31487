-- A tag of syncs is accepted once: no two events of a run take syncs with one tag.
use Rattle.std.proofs.Common.{◌≡◌, ℕ, suc, zero, true, false, List, [], ◌∷◌, Option, Some, Result, Ok, Err, refl, sym, ap, subst, slice_get}
use Rattle.zab_broadcast.specs.Calls.{is_taken}
use Rattle.zab_broadcast.specs.Rules as rules
use Rattle.zab_rule_laws.proofs.TagFacts.{by_test, same_some, taken_last}
use Rattle.zab_model.specs.declared.event.Event.{Event}
use Rattle.zab_model.specs.declared.event.Event.TheVariants.{Sync}
use Rattle.zab_model.specs.declared.event.Moved.{Moved}
use Rattle.zab_model.specs.declared.fault.WorldFault.{WorldFault}
use Rattle.zab_model.specs.ProcessStates.{ProcessState}
use Rattle.zab_model.specs.Worlds.{World, Profile, Answer, running, acts, spends_sync, syncs, happens}
use Rattle.zab_model.specs.Runs.{answers}
use Rattle.zab_call_laws.proofs.Spending.{happens_tags, not_ok, not_spent}

-- ---- an accepted sync spends its tag, which was not spent before

abbrev SpendsTag : {C : Type 0} → World C → ℕ → World C × Answer → Type 0
SpendsTag w tag p = (sent : Moved) → p.1 ≡ Ok sent → (is_taken tag w.tags.syncs ≡ false) × (is_taken tag p.0.tags.syncs ≡ true)

spends_it : {C : Type 0} (w : World C) (tag : ℕ) (p : World C × Answer) → is_taken tag w.tags.syncs ≡ false → SpendsTag w tag (spends_sync tag p)
spends_it w tag (v, Ok numbers) free = λ sent is. (free, taken_last tag v.tags.syncs)
spends_it w tag (v, Err fault) free = λ sent is. not_ok fault sent is

syncs_it : {C : Type 0} (w : World C) (n tag : ℕ) (r : Result ProcessState WorldFault) → SpendsTag w tag (syncs w n tag r)
syncs_it w n tag (Err fault) = λ sent is. not_ok fault sent is
syncs_it {C} w n tag (Ok it) =
    by_test (SpendsTag w tag) (rules.is_serving it.state.peer.role) _ _
    (λ serving. by_test (SpendsTag w tag) (is_taken tag w.tags.syncs) _ _
    (λ again sent is. not_ok _ sent is)
    (λ free. spends_it w tag (acts w n (λ state. rules.sync {C = C} state tag) (Ok it)) free))
    (λ no sent is. not_ok _ sent is)

-- the first of some events
first_spends : {C : Type 0} (profile : Profile C) (w : World C) (first : Event C) (n tag : ℕ) (sent : Moved) → (let o : Option (Event C) = Some first in o ≡ Some (Sync n tag)) → (let o : Option Answer = Some (happens profile w first).1 in o ≡ Some (Ok sent)) → (is_taken tag w.tags.syncs ≡ false) × (is_taken tag (happens profile w first).0.tags.syncs ≡ true)
first_spends profile w first n tag sent is answered =
    subst (λ (event : Event _). SpendsTag w tag (happens profile w event)) (sym (same_some first (Sync n tag) is)) (syncs_it w n tag (running w.servers n))
    sent (same_some (happens profile w first).1 (Ok sent) answered)

-- ---- once

never_again : {C : Type 0} (profile : Profile C) (w : World C) (events : List (Event C)) (tag place n : ℕ) (sent : Moved) → is_taken tag w.tags.syncs ≡ true → slice_get events place ≡ Some (Sync n tag) → slice_get (answers profile w events) place ≡ Some (Ok sent) → ⊥
never_again profile w [] tag place n sent spent is answered = absurd cc
never_again profile w (first ∷ events) tag zero n sent spent is answered =
    not_spent (is_taken tag w.tags.syncs) spent (first_spends profile w first n tag sent is answered).0
never_again profile w (first ∷ events) tag (suc place) n sent spent is answered =
    never_again profile (happens profile w first).0 events tag place n sent ((happens_tags profile w first).1 tag spent) is answered

pub taken_once : {C : Type 0} (profile : Profile C) (w : World C) (events : List (Event C)) (tag i j n m : ℕ) (sent more : Moved) → slice_get events i ≡ Some (Sync n tag) → slice_get (answers profile w events) i ≡ Some (Ok sent) → slice_get events j ≡ Some (Sync m tag) → slice_get (answers profile w events) j ≡ Some (Ok more) → i ≡ j
taken_once profile w [] tag i j n m sent more e a f b = absurd cc
taken_once profile w (first ∷ events) tag zero zero n m sent more e a f b = refl
taken_once profile w (first ∷ events) tag zero (suc j) n m sent more e a f b =
    absurd (never_again profile (happens profile w first).0 events tag j m more (first_spends profile w first n tag sent e a).1 f b)
taken_once profile w (first ∷ events) tag (suc i) zero n m sent more e a f b =
    absurd (never_again profile (happens profile w first).0 events tag i n sent (first_spends profile w first m tag more f b).1 e a)
taken_once profile w (first ∷ events) tag (suc i) (suc j) n m sent more e a f b =
    ap suc (taken_once profile (happens profile w first).0 events tag i j n m sent more e a f b)
