-- Each step of a host is an event, or three.
use Rattle.std.specs.List.{AllByRecursion}
use Rattle.std.proofs.Common.{◌≡◌, ◌≢◌, ℕ, ◌==◌, ◌||◌, ◌&&◌, not, Bool, true, false, if◌then◌else◌, List, [], ◌∷◌, ◌++◌, length, Option, Result, Ok, Err, refl, ap, ◌∙◌}
use Rattle.zab_epoch.specs.declared.message.Message.{Message}
use Rattle.zab_broadcast.specs.declared.state.State.{State}
use Rattle.zab_broadcast.specs.Calls.{is_taken}
use Rattle.zab_broadcast.specs.Rules as rules
use Rattle.zab_broadcast.specs.Rules.{Acts, is_serving}
use Rattle.zab_model.specs.declared.event.Event.{Event}
use Rattle.zab_model.specs.declared.event.Event.TheVariants.{Lead, Follow, Arrive, Submit, Sync, Crash, Restart}
use Rattle.zab_model.specs.declared.fault.WorldFault.{WorldFault}
use Rattle.zab_model.specs.declared.fault.WorldFault.TheVariants as faults
use Rattle.zab_model.specs.declared.used_tags.UsedTags.{UsedTags}
use Rattle.zab_model.specs.ProcessStates.{ProcessState, standing}
use Rattle.zab_model.specs.Worlds.{World, Profile, Answer, world, spent, is_server, running, resting, told, said, with_server, acts, receives, arrives, spends, submits, spends_sync, crashes, restarts, happens}
use Rattle.zab_model.specs.Worlds.{syncs as happens_sync}
use Rattle.zab_model.specs.Runs.{after}
use Rattle.zab_model.proofs.RunLaws.{after_all}
use Rattle.zab_host_laws.specs.Recovery.{restart_events}
use Rattle.zab_host_laws.specs.Hosts.{Network, with_tags, new_network, Step, Receives, Submits, Syncs, Leads, Follows, Restarts, submits_at, syncs_at, after_step, MayStep, calls_after, syncs_after, after_steps, MayStepAll, HostsAreARun}

module _ {C : Type 0} (tags : UsedTags) where
  told_tags : (c : World C) (said : Result (List (Message C)) WorldFault) → (told (with_tags tags c) said).0 ≡ with_tags tags (told c said).0
  told_tags c (Ok messages) = refl
  told_tags c (Err fault) = refl

  acts_tags : (c : World C) (number : ℕ) (rule : State → Acts C) (it : Result ProcessState WorldFault) → (acts (with_tags tags c) number rule it).0 ≡ with_tags tags (acts c number rule it).0
  acts_tags c number rule (Ok it) = told_tags (with_server c number (standing it.up (rule it.state).0)) (said (rule it.state).1)
  acts_tags c number rule (Err fault) = refl

  crashes_tags : (c : World C) (number : ℕ) (it : Result ProcessState WorldFault) → (crashes (with_tags tags c) number it).0 ≡ with_tags tags (crashes c number it).0
  crashes_tags c number (Ok it) = refl
  crashes_tags c number (Err fault) = refl

  restarts_tags : (c : World C) (number : ℕ) (it : Result ProcessState WorldFault) → (restarts (with_tags tags c) number it).0 ≡ with_tags tags (restarts c number it).0
  restarts_tags c number (Ok it) = refl
  restarts_tags c number (Err fault) = refl

  follows_by : (c : World C) (number leader : ℕ) (one : Bool)
      → (if one then acts (with_tags tags c) number (λ state. rules.follow state leader) (running c.servers number) else (with_tags tags c, Err faults.NoServer)).0
      ≡ with_tags tags (if one then acts c number (λ state. rules.follow state leader) (running c.servers number) else (c, Err faults.NoServer)).0
  follows_by c number leader true = acts_tags c number (λ state. rules.follow state leader) (running c.servers number)
  follows_by c number leader false = refl

  bounce_tags : (profile : Profile C) (c : World C) (number : ℕ) → after profile (with_tags tags c) (restart_events number) ≡ with_tags tags (after profile c (restart_events number))
  bounce_tags profile c number =
      let one = restarts_tags c number (resting c.servers number) in
      let w = (restarts c number (resting c.servers number)).0 in
      let two = crashes_tags w number (running w.servers number) in
      let v = (crashes w number (running w.servers number)).0 in
      ap (λ x. (happens profile (happens profile x (Crash number)).0 (Restart number)).0) one ∙ ap (λ x. (happens profile x (Restart number)).0) two ∙ restarts_tags v number (resting v.servers number)

-- ---- tags

pub taken_both : (tag : ℕ) (xs ys : List ℕ) → is_taken tag xs ≡ false → is_taken tag ys ≡ false → is_taken tag (xs ++ ys) ≡ false
taken_both tag [] ys p q = q
taken_both tag (x ∷ xs) ys p q = by_test (x == tag) (λ later. taken_both tag xs ys later q) p
  where
    by_test : (b : Bool) → (is_taken tag xs ≡ false → is_taken tag (xs ++ ys) ≡ false) → (b || is_taken tag xs) ≡ false → (b || is_taken tag (xs ++ ys)) ≡ false
    by_test true go p = absurd cc
    by_test false go p = go p

taken_first : (tag : ℕ) (xs ys : List ℕ) → is_taken tag (xs ++ ys) ≡ false → is_taken tag xs ≡ false
taken_first tag [] ys p = refl
taken_first tag (x ∷ xs) ys p = by_test (x == tag) (λ later. taken_first tag xs ys later) p
  where
    by_test : (b : Bool) → (is_taken tag (xs ++ ys) ≡ false → is_taken tag xs ≡ false) → (b || is_taken tag (xs ++ ys)) ≡ false → (b || is_taken tag xs) ≡ false
    by_test true go p = absurd cc
    by_test false go p = go p

taken_last : (tag : ℕ) (xs ys : List ℕ) → is_taken tag (xs ++ ys) ≡ false → is_taken tag ys ≡ false
taken_last tag [] ys p = p
taken_last tag (x ∷ xs) ys p = by_test (x == tag) (λ later. taken_last tag xs ys later) p
  where
    by_test : (b : Bool) → (is_taken tag (xs ++ ys) ≡ false → is_taken tag ys ≡ false) → (b || is_taken tag (xs ++ ys)) ≡ false → is_taken tag ys ≡ false
    by_test true go p = absurd cc
    by_test false go p = go p

-- a tag that no step requested with was not used
pub record AreSpent (calls syncs : List ℕ) (tags : UsedTags) : Type 0 where
  pub calls_new : (tag : ℕ) → is_taken tag calls ≡ false → is_taken tag tags.calls ≡ false
  pub syncs_new : (tag : ℕ) → is_taken tag syncs ≡ false → is_taken tag tags.syncs ≡ false

-- ---- one step

pub record StepsOn {C : Type 0} (profile : Profile C) (c next : Network C) (calls syncs : List ℕ) (tags : UsedTags) : Type 0 where
  pub events : List (Event C)
  pub then_tags : UsedTags
  pub is : after profile (with_tags tags c) events ≡ with_tags then_tags next
  pub are : AreSpent calls syncs then_tags

more_calls : (calls syncs : List ℕ) (tags : UsedTags) (tag : ℕ) → AreSpent calls syncs tags → AreSpent (calls ++ tag ∷ []) syncs tags
more_calls calls syncs tags tag a = record { calls_new = λ t p. a.calls_new t (taken_first t calls (tag ∷ []) p); syncs_new = a.syncs_new }

spent_call : (calls syncs : List ℕ) (tags : UsedTags) (tag : ℕ) → AreSpent calls syncs tags → AreSpent (calls ++ tag ∷ []) syncs (spent (tags.calls ++ tag ∷ []) tags.syncs)
spent_call calls syncs tags tag a = record {
  calls_new = λ t p. taken_both t tags.calls (tag ∷ []) (a.calls_new t (taken_first t calls (tag ∷ []) p)) (taken_last t calls (tag ∷ []) p);
  syncs_new = a.syncs_new;
}

more_syncs : (calls syncs : List ℕ) (tags : UsedTags) (tag : ℕ) → AreSpent calls syncs tags → AreSpent calls (syncs ++ tag ∷ []) tags
more_syncs calls syncs tags tag a = record { calls_new = a.calls_new; syncs_new = λ t p. a.syncs_new t (taken_first t syncs (tag ∷ []) p) }

spent_sync : (calls syncs : List ℕ) (tags : UsedTags) (tag : ℕ) → AreSpent calls syncs tags → AreSpent calls (syncs ++ tag ∷ []) (spent tags.calls (tags.syncs ++ tag ∷ []))
spent_sync calls syncs tags tag a = record {
  calls_new = a.calls_new;
  syncs_new = λ t p. taken_both t tags.syncs (tag ∷ []) (a.syncs_new t (taken_first t syncs (tag ∷ []) p)) (taken_last t syncs (tag ∷ []) p);
}

-- an outcome of a call is one of the two
pub record Spends {C : Type 0} (tag : ℕ) (tags : UsedTags) (before : World C) (x : World C × Answer) : Type 0 where
  pub then_tags : UsedTags
  pub is : (spends tag x).0 ≡ world x.0.servers x.0.messages then_tags
  pub which : (calls syncs : List ℕ) → AreSpent calls syncs tags → AreSpent (calls ++ tag ∷ []) syncs then_tags

spends_some : {C : Type 0} (tag : ℕ) (tags : UsedTags) (before : World C) (x : World C × Answer) → x.0.tags ≡ tags → Spends tag tags before x
spends_some tag tags before (w, Ok numbers) same = record {
  then_tags = spent (tags.calls ++ tag ∷ []) tags.syncs;
  is = ap (λ (t : UsedTags). world w.servers w.messages (spent (t.calls ++ tag ∷ []) t.syncs)) same;
  which = λ calls syncs a. spent_call calls syncs tags tag a;
}
spends_some tag tags before (w, Err fault) same = record {
  then_tags = tags;
  is = ap (λ (t : UsedTags). world w.servers w.messages t) same;
  which = λ calls syncs a. more_calls calls syncs tags tag a;
}

pub record SpendsSync {C : Type 0} (tag : ℕ) (tags : UsedTags) (x : World C × Answer) : Type 0 where
  pub then_tags : UsedTags
  pub is : (spends_sync tag x).0 ≡ world x.0.servers x.0.messages then_tags
  pub which : (calls syncs : List ℕ) → AreSpent calls syncs tags → AreSpent calls (syncs ++ tag ∷ []) then_tags

syncs_some : {C : Type 0} (tag : ℕ) (tags : UsedTags) (x : World C × Answer) → x.0.tags ≡ tags → SpendsSync tag tags x
syncs_some tag tags (w, Ok numbers) same = record {
  then_tags = spent tags.calls (tags.syncs ++ tag ∷ []);
  is = ap (λ (t : UsedTags). world w.servers w.messages (spent t.calls (t.syncs ++ tag ∷ []))) same;
  which = λ calls syncs a. spent_sync calls syncs tags tag a;
}
syncs_some tag tags (w, Err fault) same = record {
  then_tags = tags;
  is = ap (λ (t : UsedTags). world w.servers w.messages t) same;
  which = λ calls syncs a. more_syncs calls syncs tags tag a;
}

told_keeps : {C : Type 0} (w : World C) (said : Result (List (Message C)) WorldFault) → (told w said).0.tags ≡ w.tags
told_keeps w (Ok messages) = refl
told_keeps w (Err fault) = refl

acts_keeps : {C : Type 0} (w : World C) (number : ℕ) (rule : State → Acts C) (it : Result ProcessState WorldFault) → (acts w number rule it).0.tags ≡ w.tags
acts_keeps w number rule (Ok it) = told_keeps (with_server w number (standing it.up (rule it.state).0)) (said (rule it.state).1)
acts_keeps w number rule (Err fault) = refl

module _ {C : Type 0} (profile : Profile C) (c : Network C) (calls syncs : List ℕ) (tags : UsedTags) (a : AreSpent calls syncs tags) where
  asked_by : (number : ℕ) (call : C) (it : ProcessState) (serves taken : Bool) → taken ≡ false
      → (then_tags : UsedTags)
      × ((if serves then (if taken then (with_tags tags c, Err faults.DuplicateCall) else spends (profile.setting.tag call) (acts (with_tags tags c) number (λ state. rules.submit profile.setting state call) (Ok it))) else (with_tags tags c, Err faults.NotServing)).0
      ≡ with_tags then_tags (if serves then (acts c number (λ state. rules.submit profile.setting state call) (Ok it)).0 else c))
      × AreSpent (calls ++ profile.setting.tag call ∷ []) syncs then_tags
  asked_by number call it false taken none = (tags, refl, more_calls calls syncs tags (profile.setting.tag call) a)
  asked_by number call it true true none = absurd cc
  asked_by number call it true false none =
      let rule = λ (state : State). rules.submit profile.setting state call in
      let x = acts (with_tags tags c) number rule (Ok it) in
      let s = spends_some (profile.setting.tag call) tags c x (acts_keeps (with_tags tags c) number rule (Ok it)) in
      (s.then_tags, s.is ∙ ap (λ (v : World C). world v.servers v.messages s.then_tags) (acts_tags tags c number rule (Ok it)), s.which calls syncs a)

  asked_on : (number : ℕ) (call : C) (it : Result ProcessState WorldFault) → is_taken (profile.setting.tag call) calls ≡ false
      → (then_tags : UsedTags) × ((submits profile.setting (with_tags tags c) number call it).0 ≡ with_tags then_tags (submits_at profile c number call it)) × AreSpent (calls ++ profile.setting.tag call ∷ []) syncs then_tags
  asked_on number call (Ok it) new = asked_by number call it (is_serving it.state.peer.role) (is_taken (profile.setting.tag call) tags.calls) (a.calls_new (profile.setting.tag call) new)
  asked_on number call (Err fault) new = (tags, refl, more_calls calls syncs tags (profile.setting.tag call) a)

  synced_by : (number tag : ℕ) (it : ProcessState) (serves taken : Bool) → taken ≡ false
      → (then_tags : UsedTags)
      × ((if serves then (if taken then (with_tags tags c, Err faults.DuplicateCall) else spends_sync tag (acts (with_tags tags c) number (λ state. rules.sync state tag) (Ok it))) else (with_tags tags c, Err faults.NotServing)).0
      ≡ with_tags then_tags (if serves then (acts c number (λ state. rules.sync state tag) (Ok it)).0 else c))
      × AreSpent calls (syncs ++ tag ∷ []) then_tags
  synced_by number tag it false taken none = (tags, refl, more_syncs calls syncs tags tag a)
  synced_by number tag it true true none = absurd cc
  synced_by number tag it true false none =
      let rule = λ (state : State). rules.sync state tag in
      let x = acts (with_tags tags c) number rule (Ok it) in
      let s = syncs_some tag tags x (acts_keeps (with_tags tags c) number rule (Ok it)) in
      (s.then_tags, s.is ∙ ap (λ (v : World C). world v.servers v.messages s.then_tags) (acts_tags tags c number rule (Ok it)), s.which calls syncs a)

  synced_on : (number tag : ℕ) (it : Result ProcessState WorldFault) → is_taken tag syncs ≡ false
      → (then_tags : UsedTags) × ((happens_sync (with_tags tags c) number tag it).0 ≡ with_tags then_tags (syncs_at c number tag it)) × AreSpent calls (syncs ++ tag ∷ []) then_tags
  synced_on number tag (Ok it) new = synced_by number tag it (is_serving it.state.peer.role) (is_taken tag tags.syncs) (a.syncs_new tag new)
  synced_on number tag (Err fault) new = (tags, refl, more_syncs calls syncs tags tag a)

  pub one_step : (step : Step C) → MayStep profile c calls syncs step → StepsOn profile c (after_step profile c step) (calls_after profile calls step) (syncs_after syncs step) tags
  one_step (Receives message) may = record {
    events = Arrive may.0 ∷ [];
    then_tags = tags;
    is = ap (λ (m : Option (Message C)). (arrives profile.setting (with_tags tags c) m).0) may.1 ∙ acts_tags tags c message.addressee (receives profile.setting message.sender message.body) (running c.servers message.addressee);
    are = a;
  }
  one_step (Submits number call) may = let on = asked_on number call (running c.servers number) may in record { events = Submit number call ∷ []; then_tags = on.0; is = on.1; are = on.2 }
  one_step (Syncs number tag) may = let on = synced_on number tag (running c.servers number) may in record { events = Sync number tag ∷ []; then_tags = on.0; is = on.1; are = on.2 }
  one_step (Leads number) may = record { events = Lead number ∷ []; then_tags = tags; is = acts_tags tags c number rules.lead (running c.servers number); are = a }
  one_step (Follows number leader) may = record {
    events = Follow number leader ∷ [];
    then_tags = tags;
    is = follows_by tags c number leader (is_server (length c.servers) leader && not (number == leader));
    are = a;
  }
  one_step (Restarts number) may = record { events = restart_events number; then_tags = tags; is = bounce_tags tags profile c number; are = a }

-- the tags that steps requested with
abbrev pub calls_all : {C : Type 0} → Profile C → List ℕ → List (Step C) → List ℕ
calls_all profile calls [] = calls
calls_all profile calls (step ∷ steps) = calls_all profile (calls_after profile calls step) steps

abbrev pub syncs_all : {C : Type 0} → List ℕ → List (Step C) → List ℕ
syncs_all syncs [] = syncs
syncs_all syncs (step ∷ steps) = syncs_all (syncs_after syncs step) steps

pub all_steps : {C : Type 0} (profile : Profile C) (c : Network C) (calls syncs : List ℕ) (tags : UsedTags) (steps : List (Step C)) → AreSpent calls syncs tags → MayStepAll profile c calls syncs steps
    → (events : List (Event C)) × (then_tags : UsedTags) × (after profile (with_tags tags c) events ≡ with_tags then_tags (after_steps profile c steps)) × AreSpent (calls_all profile calls steps) (syncs_all syncs steps) then_tags
all_steps profile c calls syncs tags [] a may = ([], tags, refl, a)
all_steps profile c calls syncs tags (step ∷ steps) a may =
    let one = one_step profile c calls syncs tags a step may.0 in
    let rest = all_steps profile (after_step profile c step) (calls_after profile calls step) (syncs_after syncs step) one.then_tags steps one.are may.1 in
    (one.events ++ rest.0, rest.1, after_all profile (with_tags tags c) one.events rest.0 ∙ ap (λ w. after profile w rest.0) one.is ∙ rest.2, rest.3)

pub hosts_are : {C : Type 0} (profile : Profile C) → HostsAreARun profile
hosts_are profile servers steps may =
    let all = all_steps profile (new_network servers) [] [] (spent [] []) steps (record { calls_new = λ tag p. p; syncs_new = λ tag p. p }) may in
    (all.0, all.1, all.2)

-- ---- which events the steps are

abbrev pub Quiet : {C : Type 0} → ℕ → List (Event C) → Type 0
Quiet p events = AllByRecursion (λ event. event ≢ Crash p) events

quiet_both : {C : Type 0} (p : ℕ) (a b : List (Event C)) → Quiet p a → Quiet p b → Quiet p (a ++ b)
quiet_both p [] b qa qb = qb
quiet_both p (event ∷ a) b qa qb = (qa.0, quiet_both p a b qa.1 qb)

quiet_step : {C : Type 0} (profile : Profile C) (c : Network C) (calls syncs : List ℕ) (tags : UsedTags) (a : AreSpent calls syncs tags) (p : ℕ) (step : Step C) (may : MayStep profile c calls syncs step)
    → step ≢ Restarts p → Quiet p (one_step profile c calls syncs tags a step may).events
unfolding one_step
quiet_step profile c calls syncs tags a p (Receives message) may other = ((λ same. cc), tt)
quiet_step profile c calls syncs tags a p (Submits number call) may other = ((λ same. cc), tt)
quiet_step profile c calls syncs tags a p (Syncs number tag) may other = ((λ same. cc), tt)
quiet_step profile c calls syncs tags a p (Leads number) may other = ((λ same. cc), tt)
quiet_step profile c calls syncs tags a p (Follows number leader) may other = ((λ same. cc), tt)
quiet_step profile c calls syncs tags a p (Restarts number) may other = ((λ same. cc), ((λ same. let e : number ≡ p = cc in other (ap Restarts e)), ((λ same. cc), tt)))

pub quiet_steps : {C : Type 0} (profile : Profile C) (c : Network C) (calls syncs : List ℕ) (tags : UsedTags) (steps : List (Step C)) (a : AreSpent calls syncs tags) (may : MayStepAll profile c calls syncs steps) (p : ℕ)
    → AllByRecursion (λ step. step ≢ Restarts p) steps → Quiet p (all_steps profile c calls syncs tags steps a may).0
unfolding all_steps
quiet_steps profile c calls syncs tags [] a may p others = tt
quiet_steps profile c calls syncs tags (step ∷ steps) a may p others =
    let one = one_step profile c calls syncs tags a step may.0 in
    quiet_both p one.events _ (quiet_step profile c calls syncs tags a p step may.0 others.0)
    (quiet_steps profile (after_step profile c step) (calls_after profile calls step) (syncs_after syncs step) one.then_tags steps one.are may.1 p others.1)
