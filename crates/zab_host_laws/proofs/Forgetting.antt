-- Each event has the same effect in the world that has discarded its past.
use Rattle.std.proofs.Common.{◌≡◌, ℕ, zero, suc, ◌+◌, ◌-◌, ◌<◌, ◌==◌, Bool, true, false, if◌then◌else◌, not, ◌&&◌, ◌||◌, List, [], ◌∷◌, ◌++◌, length, map, Option, Some, None, Result, Ok, Err, refl, sym, ap, ap₂, ◌∙◌, append_assoc, arith, length-append, slice_get}
use Rattle.std.proofs.lemmas.Bool.Decides.{nat_tests}
use Rattle.std.specs.List.{AllByRecursion}
use Rattle.zab_epoch.specs.declared.message.Message.{Message}
use Rattle.zab_broadcast.specs.declared.state.State.{State}
use Rattle.zab_broadcast.specs.Calls.{Setting, is_taken}
use Rattle.zab_broadcast.specs.Rules as rules
use Rattle.zab_broadcast.specs.Rules.{Acts, is_serving}
use Rattle.zab_model.specs.declared.event.Event.{Event}
use Rattle.zab_model.specs.declared.event.Event.TheVariants.{Lead, Follow, Arrive, Submit, Expire, Sync, Crash, Restart}
use Rattle.zab_model.specs.declared.fault.WorldFault.{WorldFault}
use Rattle.zab_model.specs.declared.fault.WorldFault.TheVariants as faults
use Rattle.zab_model.specs.ProcessStates.{ProcessState, standing}
use Rattle.zab_model.specs.Worlds.{World, Profile, Answer, world, is_server, running, resting, told, said, with_server, acts, receives, message_at, arrives, spends, submits, spends_sync, syncs, crashed, crashes, restarts, happens}
use Rattle.zab_model.specs.Runs.{after}
use Rattle.zab_host_laws.specs.Recovery.{Past, with_past, shift_number, shift_event, shift_range, shift_answer, IsNew}

-- an outcome, with what was discarded
abbrev pub past_of : {C : Type 0} → Past C → World C × Answer → World C × Answer
past_of past x = (with_past past x.0, shift_answer (length past.messages) x.1)

later_one : (gone n : ℕ) → shift_number gone (n + 1) ≡ gone + (n + 1)
later_one gone n = let is : n + 1 ≡ suc n = omega arith in ap (shift_number gone) is ∙ ap (λ (k : ℕ). gone + k) (sym is)

first_later : (gone before all : ℕ) (none : Bool) → all ≡ gone + before → (if none then 0 else all + 1) ≡ shift_number gone (if none then 0 else before + 1)
first_later gone before all true is = refl
first_later gone before all false is = let there : all + 1 ≡ gone + (before + 1) = omega arith in there ∙ sym (later_one gone before)

module _ {C : Type 0} (past : Past C) where
  told_past : (w : World C) (said : Result (List (Message C)) WorldFault) → told (with_past past w) said ≡ past_of past (told w said)
  told_past w (Ok messages) =
      ap₂ (λ (ms : List (Message C)) (first : ℕ). (world w.servers ms (with_past past w).tags, Ok (record { first = first; count = length messages })))
      (append_assoc past.messages w.messages messages)
      (first_later (length past.messages) (length w.messages) (length (past.messages ++ w.messages)) (length messages == 0) (length-append past.messages w.messages))
  told_past w (Err fault) = refl

  acts_past : (w : World C) (number : ℕ) (rule : State → Acts C) (it : Result ProcessState WorldFault) → acts (with_past past w) number rule it ≡ past_of past (acts w number rule it)
  acts_past w number rule (Ok it) = told_past (with_server w number (standing it.up (rule it.state).0)) (said (rule it.state).1)
  acts_past w number rule (Err fault) = refl

  arrives_past : (setting : Setting C) (w : World C) (it : Option (Message C)) → arrives setting (with_past past w) it ≡ past_of past (arrives setting w it)
  arrives_past setting w None = refl
  arrives_past setting w (Some it) = acts_past w it.addressee (receives setting it.sender it.body) (running w.servers it.addressee)

  spends_past : (tag : ℕ) (x : World C × Answer) → spends tag (past_of past x) ≡ past_of past (spends tag x)
  spends_past tag (w, Ok numbers) =
      ap (λ (calls : List ℕ). (world w.servers (past.messages ++ w.messages) (record { calls = calls; syncs = past.syncs ++ w.tags.syncs }), Ok (shift_range (length past.messages) numbers))) (append_assoc past.calls w.tags.calls (tag ∷ []))
  spends_past tag (w, Err fault) = refl

  spends_sync_past : (tag : ℕ) (x : World C × Answer) → spends_sync tag (past_of past x) ≡ past_of past (spends_sync tag x)
  spends_sync_past tag (w, Ok numbers) =
      ap (λ (syncs : List ℕ). (world w.servers (past.messages ++ w.messages) (record { calls = past.calls ++ w.tags.calls; syncs = syncs }), Ok (shift_range (length past.messages) numbers))) (append_assoc past.syncs w.tags.syncs (tag ∷ []))
  spends_sync_past tag (w, Err fault) = refl

taken_behind : (tag : ℕ) (front rest : List ℕ) → is_taken tag front ≡ false → is_taken tag (front ++ rest) ≡ is_taken tag rest
taken_behind tag [] rest none = refl
taken_behind tag (taken ∷ front) rest none = by_test (taken == tag) (λ later. taken_behind tag front rest later) none
  where
    by_test : (b : Bool) → (is_taken tag front ≡ false → is_taken tag (front ++ rest) ≡ is_taken tag rest) → (b || is_taken tag front) ≡ false → (b || is_taken tag (front ++ rest)) ≡ is_taken tag rest
    by_test true behind none = absurd cc
    by_test false behind none = behind none

get_behind : {A : Type 0} (xs ys : List A) (n : ℕ) → slice_get (xs ++ ys) (length xs + n) ≡ slice_get ys n
get_behind [] ys n = let is : 0 + n ≡ n = omega arith in ap (slice_get ys) is
get_behind (x ∷ xs) ys n =
    let is : suc (length xs) + n ≡ suc (length xs + n) = omega arith in
    ap (slice_get (x ∷ (xs ++ ys))) is ∙ get_behind xs ys n

abbrev number_in : {A : Type 0} → List A → ℕ → Option A
number_in xs k = if k == 0 then None else slice_get xs (k - 1)

some_number : {A : Type 0} (xs : List A) (k : ℕ) → 0 < k → number_in xs k ≡ slice_get xs (k - 1)
some_number xs k above = by_zero (k == 0) (grind (arith, nat_tests))
  where
    by_zero : (b : Bool) → b ≡ false → (if b then None else slice_get xs (k - 1)) ≡ slice_get xs (k - 1)
    by_zero true is = absurd cc
    by_zero false is = refl

message_behind : {C : Type 0} (old messages : List (Message C)) (n : ℕ) → message_at (old ++ messages) (shift_number (length old) n) ≡ message_at messages n
message_behind old messages zero = refl
message_behind old messages (suc n) =
    let place : length old + suc n - 1 ≡ length old + (suc n - 1) = omega arith in
    some_number (old ++ messages) (length old + suc n) (omega arith) ∙ ap (slice_get (old ++ messages)) place ∙ get_behind old messages (suc n - 1)
    ∙ sym (some_number messages (suc n) (omega arith))

module _ {C : Type 0} (profile : Profile C) (past : Past C) where
  submits_by : (w : World C) (number : ℕ) (call : C) (it : ProcessState) (serves taken taken' : Bool) → taken' ≡ taken
      → (if serves then (if taken' then (with_past past w, Err faults.DuplicateCall) else spends (profile.setting.tag call) (acts (with_past past w) number (λ state. rules.submit profile.setting state call) (Ok it))) else (with_past past w, Err faults.NotServing))
      ≡ past_of past (if serves then (if taken then (w, Err faults.DuplicateCall) else spends (profile.setting.tag call) (acts w number (λ state. rules.submit profile.setting state call) (Ok it))) else (w, Err faults.NotServing))
  submits_by w number call it false taken taken' is = refl
  submits_by w number call it true true true is = refl
  submits_by w number call it true false false is =
      ap (spends (profile.setting.tag call)) (acts_past past w number (λ state. rules.submit profile.setting state call) (Ok it))
      ∙ spends_past past (profile.setting.tag call) (acts w number (λ state. rules.submit profile.setting state call) (Ok it))
  submits_by w number call it true true false is = absurd cc
  submits_by w number call it true false true is = absurd cc

  submits_past : (w : World C) (number : ℕ) (call : C) (it : Result ProcessState WorldFault) → is_taken (profile.setting.tag call) past.calls ≡ false
      → submits profile.setting (with_past past w) number call it ≡ past_of past (submits profile.setting w number call it)
  submits_past w number call (Ok it) new =
      submits_by w number call it (is_serving it.state.peer.role) (is_taken (profile.setting.tag call) w.tags.calls) (is_taken (profile.setting.tag call) (past.calls ++ w.tags.calls)) (taken_behind (profile.setting.tag call) past.calls w.tags.calls new)
  submits_past w number call (Err fault) new = refl

  syncs_by : (w : World C) (number tag : ℕ) (it : ProcessState) (serves taken taken' : Bool) → taken' ≡ taken
      → (if serves then (if taken' then (with_past past w, Err faults.DuplicateCall) else spends_sync tag (acts (with_past past w) number (λ state. rules.sync state tag) (Ok it))) else (with_past past w, Err faults.NotServing))
      ≡ past_of past (if serves then (if taken then (w, Err faults.DuplicateCall) else spends_sync tag (acts w number (λ state. rules.sync state tag) (Ok it))) else (w, Err faults.NotServing))
  syncs_by w number tag it false taken taken' is = refl
  syncs_by w number tag it true true true is = refl
  syncs_by w number tag it true false false is =
      ap (spends_sync tag) (acts_past past w number (λ state. rules.sync state tag) (Ok it)) ∙ spends_sync_past past tag (acts w number (λ state. rules.sync state tag) (Ok it))
  syncs_by w number tag it true true false is = absurd cc
  syncs_by w number tag it true false true is = absurd cc

  syncs_past : (w : World C) (number tag : ℕ) (it : Result ProcessState WorldFault) → is_taken tag past.syncs ≡ false → syncs (with_past past w) number tag it ≡ past_of past (syncs w number tag it)
  syncs_past w number tag (Ok it) new =
      syncs_by w number tag it (is_serving it.state.peer.role) (is_taken tag w.tags.syncs) (is_taken tag (past.syncs ++ w.tags.syncs)) (taken_behind tag past.syncs w.tags.syncs new)
  syncs_past w number tag (Err fault) new = refl

  crashes_past : (w : World C) (number : ℕ) (it : Result ProcessState WorldFault) → crashes (with_past past w) number it ≡ past_of past (crashes w number it)
  crashes_past w number (Ok it) = told_past past (with_server w number (standing false (crashed it.state))) (Ok [])
  crashes_past w number (Err fault) = refl

  restarts_past : (w : World C) (number : ℕ) (it : Result ProcessState WorldFault) → restarts (with_past past w) number it ≡ past_of past (restarts w number it)
  restarts_past w number (Ok it) = told_past past (with_server w number (standing true it.state)) (Ok [])
  restarts_past w number (Err fault) = refl

  follows_by : (w : World C) (number leader : ℕ) (one : Bool)
      → (if one then acts (with_past past w) number (λ state. rules.follow state leader) (running w.servers number) else (with_past past w, Err faults.NoServer))
      ≡ past_of past (if one then acts w number (λ state. rules.follow state leader) (running w.servers number) else (w, Err faults.NoServer))
  follows_by w number leader true = acts_past past w number (λ state. rules.follow state leader) (running w.servers number)
  follows_by w number leader false = refl

  pub event_past : (w : World C) (event : Event C) → IsNew profile past event → happens profile (with_past past w) (shift_event (length past.messages) event) ≡ past_of past (happens profile w event)
  event_past w (Lead number) new = acts_past past w number rules.lead (running w.servers number)
  event_past w (Follow number leader) new = follows_by w number leader (is_server (length w.servers) leader && not (number == leader))
  event_past w (Arrive number) new =
      ap (arrives profile.setting (with_past past w)) (message_behind past.messages w.messages number) ∙ arrives_past past profile.setting w (message_at w.messages number)
  event_past w (Submit number call) new = submits_past w number call (running w.servers number) new
  event_past w (Expire number tag session now) new = submits_past w number (profile.closing tag session now) (running w.servers number) new
  event_past w (Sync number tag) new = syncs_past w number tag (running w.servers number) new
  event_past w (Crash number) new = crashes_past w number (running w.servers number)
  event_past w (Restart number) new = restarts_past w number (resting w.servers number)

  pub run_past : (w : World C) (events : List (Event C)) → AllByRecursion (IsNew profile past) events
      → after profile (with_past past w) (map (shift_event (length past.messages)) events) ≡ with_past past (after profile w events)
  run_past w [] new = refl
  run_past w (event ∷ events) new =
      ap (λ (x : World C × Answer). after profile x.0 (map (shift_event (length past.messages)) events)) (event_past w event new.0) ∙ run_past (happens profile w event).0 events new.1
