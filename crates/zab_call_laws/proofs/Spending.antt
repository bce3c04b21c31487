-- A tag that is spent stays so, of calls and of syncs: no event takes one back.
use Rattle.std.proofs.Common.{◌≡◌, ℕ, ◌==◌, ◌&&◌, not, Bool, true, false, List, [], ◌∷◌, length, Option, Some, None, Result, Ok, Err, sym, ◌∙◌}
use Rattle.zab_epoch.specs.declared.rule_fault.RuleFault.{RuleFault}
use Rattle.zab_epoch.specs.declared.message.Message.{Message}
use Rattle.zab_broadcast.specs.declared.state.State.{State}
use Rattle.zab_broadcast.specs.Calls.{Setting, is_taken}
use Rattle.zab_broadcast.specs.Rules as rules
use Rattle.zab_rule_laws.proofs.TagFacts.{by_test, taken_more}
use Rattle.zab_model.specs.declared.event.Event.{Event}
use Rattle.zab_model.specs.declared.event.Event.TheVariants.{Lead, Follow, Arrive, Submit, Expire, Sync, Crash, Restart}
use Rattle.zab_model.specs.declared.event.Moved.{Moved}
use Rattle.zab_model.specs.declared.fault.WorldFault.{WorldFault}
use Rattle.zab_model.specs.ProcessStates.{ProcessState, standing}
use Rattle.zab_model.specs.Worlds.{World, Profile, Answer, is_server, running, resting, told, said, with_server, acts, receives, message_at, arrives, spends, submits, spends_sync, syncs, crashes, restarts, happens}

-- spent tags of calls stay spent, and so do those of syncs
abbrev pub KeepsTags : {C : Type 0} → World C → World C × Answer → Type 0
KeepsTags w p =
    ((tag : ℕ) → is_taken tag w.tags.calls ≡ true → is_taken tag p.0.tags.calls ≡ true)
    × ((tag : ℕ) → is_taken tag w.tags.syncs ≡ true → is_taken tag p.0.tags.syncs ≡ true)

told_tags : {C : Type 0} (w : World C) (n : ℕ) (stands : ProcessState) (r : Result (List (Message C)) RuleFault) → KeepsTags w (told (with_server w n stands) (said r))
told_tags w n stands (Ok messages) = ((λ tag is. is), (λ tag is. is))
told_tags w n stands (Err fault) = ((λ tag is. is), (λ tag is. is))

acts_tags : {C : Type 0} (w : World C) (n : ℕ) (rule : State → rules.Acts C) (r : Result ProcessState WorldFault) → KeepsTags w (acts w n rule r)
acts_tags w n rule (Ok it) = told_tags w n (standing it.up (rule it.state).0) (rule it.state).1
acts_tags w n rule (Err fault) = ((λ tag is. is), (λ tag is. is))

arrives_tags : {C : Type 0} (setting : Setting C) (w : World C) (m : Option (Message C)) → KeepsTags w (arrives setting w m)
arrives_tags setting w None = ((λ tag is. is), (λ tag is. is))
arrives_tags setting w (Some m) = acts_tags w m.addressee (receives setting m.sender m.body) (running w.servers m.addressee)

spends_tags : {C : Type 0} (t : ℕ) (w : World C) (p : World C × Answer) → KeepsTags w p → KeepsTags w (spends t p)
spends_tags t w (v, Ok numbers) keeps = ((λ tag is. taken_more tag v.tags.calls (t ∷ []) (keeps.0 tag is)), keeps.1)
spends_tags t w (v, Err fault) keeps = keeps

submits_tags : {C : Type 0} (setting : Setting C) (w : World C) (n : ℕ) (call : C) (r : Result ProcessState WorldFault) → KeepsTags w (submits setting w n call r)
submits_tags setting w n call (Err fault) = ((λ tag is. is), (λ tag is. is))
submits_tags setting w n call (Ok it) =
    by_test (KeepsTags w) (rules.is_serving it.state.peer.role) _ _
    (λ serving. by_test (KeepsTags w) (is_taken (setting.tag call) w.tags.calls) _ _
    (λ again. ((λ tag is. is), (λ tag is. is)))
    (λ free. spends_tags (setting.tag call) w (acts w n (λ state. rules.submit setting state call) (Ok it)) (acts_tags w n (λ state. rules.submit setting state call) (Ok it))))
    (λ no. ((λ tag is. is), (λ tag is. is)))

spends_sync_tags : {C : Type 0} (t : ℕ) (w : World C) (p : World C × Answer) → KeepsTags w p → KeepsTags w (spends_sync t p)
spends_sync_tags t w (v, Ok numbers) keeps = (keeps.0, (λ tag is. taken_more tag v.tags.syncs (t ∷ []) (keeps.1 tag is)))
spends_sync_tags t w (v, Err fault) keeps = keeps

syncs_tags : {C : Type 0} (w : World C) (n t : ℕ) (r : Result ProcessState WorldFault) → KeepsTags w (syncs w n t r)
syncs_tags w n t (Err fault) = ((λ tag is. is), (λ tag is. is))
syncs_tags {C} w n t (Ok it) =
    let rule : State → rules.Acts C = λ state. rules.sync state t in
    by_test (KeepsTags w) (rules.is_serving it.state.peer.role) _ _
    (λ serving. by_test (KeepsTags w) (is_taken t w.tags.syncs) _ _
    (λ again. ((λ tag is. is), (λ tag is. is)))
    (λ free. spends_sync_tags t w (acts w n rule (Ok it)) (acts_tags w n rule (Ok it))))
    (λ no. ((λ tag is. is), (λ tag is. is)))

crashes_tags : {C : Type 0} (w : World C) (n : ℕ) (r : Result ProcessState WorldFault) → KeepsTags w (crashes w n r)
crashes_tags w n (Ok it) = ((λ tag is. is), (λ tag is. is))
crashes_tags w n (Err fault) = ((λ tag is. is), (λ tag is. is))

restarts_tags : {C : Type 0} (w : World C) (n : ℕ) (r : Result ProcessState WorldFault) → KeepsTags w (restarts w n r)
restarts_tags w n (Ok it) = ((λ tag is. is), (λ tag is. is))
restarts_tags w n (Err fault) = ((λ tag is. is), (λ tag is. is))

pub happens_tags : {C : Type 0} (profile : Profile C) (w : World C) (event : Event C) → KeepsTags w (happens profile w event)
happens_tags profile w (Lead n) = acts_tags w n rules.lead (running w.servers n)
happens_tags profile w (Follow n leader) =
    by_test (KeepsTags w) (is_server (length w.servers) leader && not (n == leader)) _ _
    (λ e. acts_tags w n (λ state. rules.follow state leader) (running w.servers n))
    (λ e. ((λ tag is. is), (λ tag is. is)))
happens_tags profile w (Arrive number) = arrives_tags profile.setting w (message_at w.messages number)
happens_tags profile w (Submit n call) = submits_tags profile.setting w n call (running w.servers n)
happens_tags profile w (Expire n tag session now) = submits_tags profile.setting w n (profile.closing tag session now) (running w.servers n)
happens_tags profile w (Sync n tag) = syncs_tags w n tag (running w.servers n)
happens_tags profile w (Crash n) = crashes_tags w n (running w.servers n)
happens_tags profile w (Restart n) = restarts_tags w n (resting w.servers n)

-- ---- what cannot be

pub not_ok : {A : Type 0} (fault : WorldFault) (sent : Moved) → (let r : Answer = Err fault in r ≡ Ok sent) → A
not_ok fault sent e = absurd cc

pub not_spent : {A : Type 0} (b : Bool) → b ≡ true → b ≡ false → A
not_spent b is free = absurd (let e : true ≡ false = sym is ∙ free in cc)
