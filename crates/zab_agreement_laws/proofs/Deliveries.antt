-- What servers have delivered: which events leave it, and when it is nothing.
use Rattle.std.proofs.Common.{◌≡◌, ◌≢◌, ℕ, zero, suc, ◌-◌, ◌&&◌, ◌==◌, not, inl, inr, Bool, true, false, cond, List, [], ◌∷◌, length, take, set, Option, Some, None, Result, Ok, Err, refl, sym, ap, subst, ◌∙◌}
use Rattle.std.specs.List.{AllByRecursion}
use Rattle.zab_epoch.specs.declared.rule_fault.RuleFault.{RuleFault}
use Rattle.zab_epoch.specs.declared.history.Entry.{Entry}
use Rattle.zab_epoch.specs.declared.message.Message.{Message}
use Rattle.zab_broadcast.specs.declared.state.State.{State}
use Rattle.zab_broadcast.specs.Calls.{Setting, is_taken}
use Rattle.zab_broadcast.specs.Rules as rules
use Rattle.zab_rule_laws.proofs.Common.{by_test}
use Rattle.zab_rule_laws.proofs.TagFacts.{cases_eq, all_append, all_get, same_some}
use Rattle.zab_model.specs.declared.event.Event.{Event}
use Rattle.zab_model.specs.declared.event.Event.TheVariants.{Lead, Follow, Arrive, Submit, Expire, Sync, Crash, Restart}
use Rattle.zab_model.specs.declared.fault.WorldFault.{WorldFault}
use Rattle.zab_model.specs.declared.fault.WorldFault.TheVariants as faults
use Rattle.zab_model.specs.ProcessStates.{ProcessState, standing, new_server, new_servers}
use Rattle.zab_model.specs.Worlds.{World, Profile, Answer, new_world, is_server, server_at, if_up, if_down, running, resting, told, said, with_server, acts, receives, message_at, arrives, spends, submits, spends_sync, syncs, crashed, crashes, restarts, happens}
use Rattle.zab_model.specs.Runs.{after, run, delivered_list, delivered_of}
use Rattle.zab_model.specs.Movers.{mover, addressee_of}
use Rattle.zab_model.specs.Running.{is_up, is_running}
use Rattle.zab_model.proofs.ServerLists.{found, same_place, other_place, other_same, up_is, down_is}

-- ---- other servers

-- one server stands otherwise
stands_others : (servers : List ProcessState) (n p : ℕ) (it stands : ProcessState) → server_at servers n ≡ Some it → p ≢ n → server_at (set servers (n - 1) stands) p ≡ server_at servers p
stands_others servers n p it stands is other = other_same servers n p stands (found servers n it is).above other

told_others : {C : Type 0} (w : World C) (n p : ℕ) (it stands : ProcessState) (r : Result (List (Message C)) RuleFault) → server_at w.servers n ≡ Some it → p ≢ n → server_at (told (with_server w n stands) (said r)).0.servers p ≡ server_at w.servers p
told_others w n p it stands (Ok messages) is other = stands_others w.servers n p it stands is other
told_others w n p it stands (Err fault) is other = stands_others w.servers n p it stands is other

spends_others : {C : Type 0} (t : ℕ) (w : World C) (n p : ℕ) (it stands : ProcessState) (r : Result (List (Message C)) RuleFault) → server_at w.servers n ≡ Some it → p ≢ n → server_at (spends t (told (with_server w n stands) (said r))).0.servers p ≡ server_at w.servers p
spends_others t w n p it stands (Ok messages) is other = stands_others w.servers n p it stands is other
spends_others t w n p it stands (Err fault) is other = stands_others w.servers n p it stands is other

acts_others : {C : Type 0} (w : World C) (n p : ℕ) (rule : State → rules.Acts C) (r : Result ProcessState WorldFault) → ((it : ProcessState) → r ≡ Ok it → server_at w.servers n ≡ Some it) → p ≢ n → server_at (acts w n rule r).0.servers p ≡ server_at w.servers p
acts_others w n p rule (Ok it) is other = told_others w n p it (standing it.up (rule it.state).0) (rule it.state).1 (is it refl) other
acts_others w n p rule (Err fault) is other = refl

arrives_others : {C : Type 0} (setting : Setting C) (w : World C) (p : ℕ) (m : Option (Message C)) → p ≢ addressee_of m → server_at (arrives setting w m).0.servers p ≡ server_at w.servers p
arrives_others setting w p None other = refl
arrives_others setting w p (Some m) other =
    acts_others w m.addressee p (receives setting m.sender m.body) (running w.servers m.addressee)
    (λ it is. up_is (server_at w.servers m.addressee) it is) other

submits_others : {C : Type 0} (setting : Setting C) (w : World C) (n p : ℕ) (call : C) (r : Result ProcessState WorldFault) → ((it : ProcessState) → r ≡ Ok it → server_at w.servers n ≡ Some it) → p ≢ n → server_at (submits setting w n call r).0.servers p ≡ server_at w.servers p
submits_others setting w n p call (Err fault) is other = refl
submits_others setting w n p call (Ok it) is other =
    by_test (λ (q : World _ × Answer). server_at q.0.servers p ≡ server_at w.servers p) (rules.is_serving it.state.peer.role) _ _
    (λ serving. by_test (λ (q : World _ × Answer). server_at q.0.servers p ≡ server_at w.servers p) (is_taken (setting.tag call) w.tags.calls) _ _
    (λ again. refl)
    (λ free. spends_others (setting.tag call) w n p it (standing it.up (rules.submit setting it.state call).0) (rules.submit setting it.state call).1 (is it refl) other))
    (λ no. refl)

spends_sync_others : {C : Type 0} (t : ℕ) (w : World C) (n p : ℕ) (it stands : ProcessState) (r : Result (List (Message C)) RuleFault) → server_at w.servers n ≡ Some it → p ≢ n → server_at (spends_sync t (told (with_server w n stands) (said r))).0.servers p ≡ server_at w.servers p
spends_sync_others t w n p it stands (Ok messages) is other = stands_others w.servers n p it stands is other
spends_sync_others t w n p it stands (Err fault) is other = stands_others w.servers n p it stands is other

syncs_others : {C : Type 0} (w : World C) (n p tag : ℕ) (r : Result ProcessState WorldFault) → ((it : ProcessState) → r ≡ Ok it → server_at w.servers n ≡ Some it) → p ≢ n → server_at (syncs w n tag r).0.servers p ≡ server_at w.servers p
syncs_others w n p tag (Err fault) is other = refl
syncs_others {C} w n p tag (Ok it) is other =
    let act : rules.Acts C = rules.sync it.state tag in
    by_test (λ (q : World _ × Answer). server_at q.0.servers p ≡ server_at w.servers p) (rules.is_serving it.state.peer.role) _ _
    (λ serving. by_test (λ (q : World _ × Answer). server_at q.0.servers p ≡ server_at w.servers p) (is_taken tag w.tags.syncs) _ _
    (λ again. refl)
    (λ free. spends_sync_others tag w n p it (standing it.up act.0) act.1 (is it refl) other))
    (λ no. refl)

crashes_others : {C : Type 0} (w : World C) (n p : ℕ) (r : Result ProcessState WorldFault) → ((it : ProcessState) → r ≡ Ok it → server_at w.servers n ≡ Some it) → p ≢ n → server_at (crashes w n r).0.servers p ≡ server_at w.servers p
crashes_others w n p (Ok it) is other = stands_others w.servers n p it (standing false (crashed it.state)) (is it refl) other
crashes_others w n p (Err fault) is other = refl

restarts_others : {C : Type 0} (w : World C) (n p : ℕ) (r : Result ProcessState WorldFault) → ((it : ProcessState) → r ≡ Ok it → server_at w.servers n ≡ Some it) → p ≢ n → server_at (restarts w n r).0.servers p ≡ server_at w.servers p
restarts_others w n p (Ok it) is other = stands_others w.servers n p it (standing true it.state) (is it refl) other
restarts_others w n p (Err fault) is other = refl

-- an event leaves other servers as they are
pub others_stay : {C : Type 0} (profile : Profile C) (w : World C) (event : Event C) (p : ℕ) → p ≢ mover w event → server_at (happens profile w event).0.servers p ≡ server_at w.servers p
others_stay profile w (Lead n) p other = acts_others w n p rules.lead (running w.servers n) (λ it is. up_is (server_at w.servers n) it is) other
others_stay profile w (Follow n leader) p other =
    by_test (λ (q : World _ × Answer). server_at q.0.servers p ≡ server_at w.servers p) (is_server (length w.servers) leader && not (n == leader)) _ _
    (λ e. acts_others w n p (λ state. rules.follow state leader) (running w.servers n) (λ it is. up_is (server_at w.servers n) it is) other)
    (λ e. refl)
others_stay profile w (Arrive number) p other = arrives_others profile.setting w p (message_at w.messages number) other
others_stay profile w (Submit n call) p other =
    submits_others profile.setting w n p call (running w.servers n) (λ it is. up_is (server_at w.servers n) it is) other
others_stay profile w (Expire n tag session now) p other =
    submits_others profile.setting w n p (profile.closing tag session now) (running w.servers n) (λ it is. up_is (server_at w.servers n) it is) other
others_stay profile w (Sync n tag) p other = syncs_others w n p tag (running w.servers n) (λ it is. up_is (server_at w.servers n) it is) other
others_stay profile w (Crash n) p other = crashes_others w n p (running w.servers n) (λ it is. up_is (server_at w.servers n) it is) other
others_stay profile w (Restart n) p other = restarts_others w n p (resting w.servers n) (λ it is. down_is (server_at w.servers n) it is) other

-- and what they have delivered
pub others_keep : {C : Type 0} (profile : Profile C) (w : World C) (event : Event C) (p : ℕ) → p ≢ mover w event → delivered_of (happens profile w event).0 p ≡ delivered_of w p
others_keep profile w event p other = ap delivered_list (others_stay profile w event p other)

-- ---- servers that are down have delivered nothing

abbrev AreResting : List ProcessState → Type 0
AreResting servers = (n : ℕ) (it : ProcessState) → server_at servers n ≡ Some it → it.up ≡ false → it.state.delivered ≡ 0

not_both : {A : Type 0} (b : Bool) → b ≡ true → b ≡ false → A
not_both b up down = absurd (let e : true ≡ false = sym up ∙ down in cc)

-- a running server is up, and one that rests is not
is_up_if : (o : Option ProcessState) (it : ProcessState) → if_up o ≡ Ok it → it.up ≡ true
is_up_if None it is = absurd cc
is_up_if (Some other) it is = by_up other.up refl is
  where
    by_up : (b : Bool) → other.up ≡ b → (let r : Result ProcessState WorldFault = cond b (Ok other) (Err faults.Down) in r ≡ Ok it) → it.up ≡ true
    by_up true at is = cc
    by_up false at is = absurd cc

is_down : (o : Option ProcessState) (it : ProcessState) → if_down o ≡ Ok it → it.up ≡ false
is_down None it is = absurd cc
is_down (Some other) it is = by_up other.up refl is
  where
    by_up : (b : Bool) → other.up ≡ b → (let r : Result ProcessState WorldFault = cond b (Err faults.NotDown) (Ok other) in r ≡ Ok it) → it.up ≡ false
    by_up true at is = absurd cc
    by_up false at is = cc

abbrev IsUp : {C : Type 0} → World C → ℕ → ProcessState → Type 0
IsUp w n it = (server_at w.servers n ≡ Some it) × (it.up ≡ true)

up_both : {C : Type 0} (w : World C) (n : ℕ) (it : ProcessState) → running w.servers n ≡ Ok it → IsUp w n it
up_both w n it is = (up_is (server_at w.servers n) it is, is_up_if (server_at w.servers n) it is)

-- a server stands otherwise
rests_stands : (servers : List ProcessState) (n : ℕ) (it stands : ProcessState) → server_at servers n ≡ Some it → AreResting servers → (stands.up ≡ false → stands.state.delivered ≡ 0) → AreResting (set servers (n - 1) stands)
rests_stands servers n it stands is rest fact k other at down =
    let place = found servers n it is in
    elim (cases_eq k n) [
      | inl same ↦
          (let here : Some stands ≡ Some other =
          sym (same_place servers n it stands place) ∙ (ap (λ u. server_at (set servers (n - 1) stands) u) (sym same) ∙ at) in
          let one : stands ≡ other = same_some stands other here in
          subst (λ (s : ProcessState). s.state.delivered ≡ 0) one (fact (ap (λ (s : ProcessState). s.up) one ∙ down)))
      | inr differs ↦ rest k other (other_place servers n k stands other place.above differs at) down
    ]

told_rests : {C : Type 0} (w : World C) (n : ℕ) (stands : ProcessState) (r : Result (List (Message C)) RuleFault) → AreResting (set w.servers (n - 1) stands) → AreResting (told (with_server w n stands) (said r)).0.servers
told_rests w n stands (Ok messages) rest = rest
told_rests w n stands (Err fault) rest = rest

spends_rests : {C : Type 0} (t : ℕ) (w : World C) (n : ℕ) (stands : ProcessState) (r : Result (List (Message C)) RuleFault) → AreResting (set w.servers (n - 1) stands) → AreResting (spends t (told (with_server w n stands) (said r))).0.servers
spends_rests t w n stands (Ok messages) rest = rest
spends_rests t w n stands (Err fault) rest = rest

acts_rests : {C : Type 0} (w : World C) (n : ℕ) (rule : State → rules.Acts C) (r : Result ProcessState WorldFault) → ((it : ProcessState) → r ≡ Ok it → IsUp w n it) → AreResting w.servers → AreResting (acts w n rule r).0.servers
acts_rests w n rule (Ok it) is rest =
    let here = is it refl in
    told_rests w n (standing it.up (rule it.state).0) (rule it.state).1
    (rests_stands w.servers n it (standing it.up (rule it.state).0) here.0 rest (λ down. not_both it.up here.1 down))
acts_rests w n rule (Err fault) is rest = rest

arrives_rests : {C : Type 0} (setting : Setting C) (w : World C) (m : Option (Message C)) → AreResting w.servers → AreResting (arrives setting w m).0.servers
arrives_rests setting w None rest = rest
arrives_rests setting w (Some m) rest =
    acts_rests w m.addressee (receives setting m.sender m.body) (running w.servers m.addressee) (λ it is. up_both w m.addressee it is) rest

submits_rests : {C : Type 0} (setting : Setting C) (w : World C) (n : ℕ) (call : C) (r : Result ProcessState WorldFault) → ((it : ProcessState) → r ≡ Ok it → IsUp w n it) → AreResting w.servers → AreResting (submits setting w n call r).0.servers
submits_rests setting w n call (Err fault) is rest = rest
submits_rests setting w n call (Ok it) is rest =
    let here = is it refl in
    by_test (λ (q : World _ × Answer). AreResting q.0.servers) (rules.is_serving it.state.peer.role) _ _
    (λ serving. by_test (λ (q : World _ × Answer). AreResting q.0.servers) (is_taken (setting.tag call) w.tags.calls) _ _
    (λ again. rest)
    (λ free. spends_rests (setting.tag call) w n (standing it.up (rules.submit setting it.state call).0) (rules.submit setting it.state call).1
    (rests_stands w.servers n it (standing it.up (rules.submit setting it.state call).0) here.0 rest (λ down. not_both it.up here.1 down))))
    (λ no. rest)

spends_sync_rests : {C : Type 0} (t : ℕ) (w : World C) (n : ℕ) (stands : ProcessState) (r : Result (List (Message C)) RuleFault) → AreResting (set w.servers (n - 1) stands) → AreResting (spends_sync t (told (with_server w n stands) (said r))).0.servers
spends_sync_rests t w n stands (Ok messages) rest = rest
spends_sync_rests t w n stands (Err fault) rest = rest

syncs_rests : {C : Type 0} (w : World C) (n tag : ℕ) (r : Result ProcessState WorldFault) → ((it : ProcessState) → r ≡ Ok it → IsUp w n it) → AreResting w.servers → AreResting (syncs w n tag r).0.servers
syncs_rests w n tag (Err fault) is rest = rest
syncs_rests {C} w n tag (Ok it) is rest =
    let here = is it refl in
    let act : rules.Acts C = rules.sync it.state tag in
    by_test (λ (q : World _ × Answer). AreResting q.0.servers) (rules.is_serving it.state.peer.role) _ _
    (λ serving. by_test (λ (q : World _ × Answer). AreResting q.0.servers) (is_taken tag w.tags.syncs) _ _
    (λ again. rest)
    (λ free. spends_sync_rests tag w n (standing it.up act.0) act.1
    (rests_stands w.servers n it (standing it.up act.0) here.0 rest (λ down. not_both it.up here.1 down))))
    (λ no. rest)

crashes_rests : {C : Type 0} (w : World C) (n : ℕ) (r : Result ProcessState WorldFault) → ((it : ProcessState) → r ≡ Ok it → server_at w.servers n ≡ Some it) → AreResting w.servers → AreResting (crashes w n r).0.servers
crashes_rests w n (Ok it) is rest = rests_stands w.servers n it (standing false (crashed it.state)) (is it refl) rest (λ down. refl)
crashes_rests w n (Err fault) is rest = rest

restarts_rests : {C : Type 0} (w : World C) (n : ℕ) (r : Result ProcessState WorldFault) → ((it : ProcessState) → r ≡ Ok it → server_at w.servers n ≡ Some it) → AreResting w.servers → AreResting (restarts w n r).0.servers
restarts_rests w n (Ok it) is rest = rests_stands w.servers n it (standing true it.state) (is it refl) rest (λ down. not_both true refl down)
restarts_rests w n (Err fault) is rest = rest

happens_rests : {C : Type 0} (profile : Profile C) (w : World C) (event : Event C) → AreResting w.servers → AreResting (happens profile w event).0.servers
happens_rests profile w (Lead n) rest = acts_rests w n rules.lead (running w.servers n) (λ it is. up_both w n it is) rest
happens_rests profile w (Follow n leader) rest =
    by_test (λ (q : World _ × Answer). AreResting q.0.servers) (is_server (length w.servers) leader && not (n == leader)) _ _
    (λ e. acts_rests w n (λ state. rules.follow state leader) (running w.servers n) (λ it is. up_both w n it is) rest)
    (λ e. rest)
happens_rests profile w (Arrive number) rest = arrives_rests profile.setting w (message_at w.messages number) rest
happens_rests profile w (Submit n call) rest = submits_rests profile.setting w n call (running w.servers n) (λ it is. up_both w n it is) rest
happens_rests profile w (Expire n tag session now) rest =
    submits_rests profile.setting w n (profile.closing tag session now) (running w.servers n) (λ it is. up_both w n it is) rest
happens_rests profile w (Sync n tag) rest = syncs_rests w n tag (running w.servers n) (λ it is. up_both w n it is) rest
happens_rests profile w (Crash n) rest = crashes_rests w n (running w.servers n) (λ it is. up_is (server_at w.servers n) it is) rest
happens_rests profile w (Restart n) rest = restarts_rests w n (resting w.servers n) (λ it is. down_is (server_at w.servers n) it is) rest

after_rests : {C : Type 0} (profile : Profile C) (w : World C) (events : List (Event C)) → AreResting w.servers → AreResting (after profile w events).servers
after_rests profile w [] rest = rest
after_rests profile w (event ∷ events) rest = after_rests profile (happens profile w event).0 events (happens_rests profile w event rest)

-- ---- new worlds

none_taken : (delivered : ℕ) (entries : List Entry) → delivered ≡ 0 → take delivered entries ≡ []
none_taken delivered entries is = ap (λ d. take d entries) is

abbrev IsIdle : ProcessState → Type 0
IsIdle it = it.state.delivered ≡ 0

new_servers_idle : (servers more : ℕ) → AllByRecursion IsIdle (new_servers servers more)
new_servers_idle servers zero = tt
new_servers_idle servers (suc more) =
    all_append IsIdle (new_servers servers more) (new_server servers (suc more) ∷ []) (new_servers_idle servers more) (refl, tt)

new_idle : (servers n : ℕ) (it : ProcessState) → server_at (new_servers servers servers) n ≡ Some it → it.state.delivered ≡ 0
new_idle servers n it is =
    all_get IsIdle (new_servers servers servers) (n - 1) it (new_servers_idle servers servers) (found (new_servers servers servers) n it is).get

idle_list : (o : Option ProcessState) → ((it : ProcessState) → o ≡ Some it → it.state.delivered ≡ 0) → delivered_list o ≡ []
idle_list None idle = refl
idle_list (Some it) idle = none_taken it.state.delivered it.state.peer.stable.history (idle it refl)

-- a new world has delivered nothing
pub no_deliveries_first : (C : Type 0) (servers p : ℕ) → delivered_of (new_world {C = C} servers) p ≡ []
no_deliveries_first C servers p = idle_list (server_at (new_servers servers servers) p) (λ it is. new_idle servers p it is)

-- ---- crashes

run_rests : {C : Type 0} (profile : Profile C) (servers : ℕ) (events : List (Event C)) → AreResting (run profile servers events).0.servers
run_rests profile servers events = after_rests profile (new_world servers) events (λ n it is down. new_idle servers n it is)

-- a server that is down has delivered nothing
down_list : {C : Type 0} (w : World C) (p : ℕ) (it : ProcessState) → AreResting w.servers → server_at w.servers p ≡ Some it → it.up ≡ false → delivered_of w p ≡ []
down_list w p it rest is down =
    ap delivered_list is ∙ none_taken it.state.delivered it.state.peer.stable.history (rest p it is down)

crash_list : {C : Type 0} (w : World C) (p : ℕ) (it : ProcessState) → server_at w.servers p ≡ Some it → delivered_of (with_server w p (standing false (crashed it.state))) p ≡ []
crash_list w p it is = ap delivered_list (same_place w.servers p it (standing false (crashed it.state)) (found w.servers p it is))

crash_by : {C : Type 0} (w : World C) (p : ℕ) (o : Option ProcessState) → AreResting w.servers → server_at w.servers p ≡ o → delivered_of (crashes w p (if_up o)).0 p ≡ []
crash_by w p None rest is = ap delivered_list is
crash_by {C} w p (Some it) rest is = by_up it.up refl
  where
    by_up : (b : Bool) → it.up ≡ b → delivered_of {C = C} (crashes w p (cond b (Ok it) (Err faults.Down))).0 p ≡ []
    by_up true at = crash_list w p it is
    by_up false at = down_list w p it rest is at

-- one that does not run
idle_by : {C : Type 0} (w : World C) (p : ℕ) (o : Option ProcessState) → AreResting w.servers → server_at w.servers p ≡ o → is_up o ≡ false → delivered_of w p ≡ []
idle_by w p None rest is down = ap delivered_list is
idle_by w p (Some it) rest is down = down_list w p it rest is down

-- after its crash, also if the crash is rejected
crash_stops : {C : Type 0} (w : World C) (p : ℕ) (o : Option ProcessState) → server_at w.servers p ≡ o → is_running (crashes w p (if_up o)).0 p ≡ false
crash_stops w p None is = ap is_up is
crash_stops {C} w p (Some it) is = by_up it.up refl
  where
    by_up : (b : Bool) → it.up ≡ b → is_running {C = C} (crashes w p (cond b (Ok it) (Err faults.Down))).0 p ≡ false
    by_up true at = ap is_up (same_place w.servers p it (standing false (crashed it.state)) (found w.servers p it is))
    by_up false at = ap is_up is ∙ at

pub down_after_crash : {C : Type 0} (profile : Profile C) (w : World C) (p : ℕ) → is_running (happens profile w (Crash p)).0 p ≡ false
down_after_crash profile w p = crash_stops w p (server_at w.servers p) refl

-- a running server that crashes has delivered nothing any more
pub crash_empties : {C : Type 0} (profile : Profile C) (w : World C) (p : ℕ) (it : ProcessState) → running w.servers p ≡ Ok it → delivered_of (happens profile w (Crash p)).0 p ≡ []
crash_empties profile w p it up =
    ap (λ (r : Result ProcessState WorldFault). delivered_of (crashes w p r).0 p) up ∙ crash_list w p it (up_is (server_at w.servers p) it up)

-- in every world of a run, a server that is down has delivered nothing,
pub down_is_empty : {C : Type 0} (profile : Profile C) (servers : ℕ) (events : List (Event C)) (p : ℕ) (it : ProcessState) → resting (run profile servers events).0.servers p ≡ Ok it → delivered_of (run profile servers events).0 p ≡ []
down_is_empty profile servers events p it down =
    down_list (run profile servers events).0 p it (run_rests profile servers events)
    (down_is (server_at (run profile servers events).0.servers p) it down)
    (is_down (server_at (run profile servers events).0.servers p) it down)

-- and so has one that does not run, or that there is not,
pub down_has_nothing : {C : Type 0} (profile : Profile C) (servers : ℕ) (events : List (Event C)) (p : ℕ) → is_running (run profile servers events).0 p ≡ false → delivered_of (run profile servers events).0 p ≡ []
down_has_nothing profile servers events p down =
    idle_by (run profile servers events).0 p (server_at (run profile servers events).0.servers p) (run_rests profile servers events) refl down

-- and one whose crash is an event, also if the crash is rejected
pub crashed_is_empty : {C : Type 0} (profile : Profile C) (servers : ℕ) (events : List (Event C)) (p : ℕ) → delivered_of (happens profile (run profile servers events).0 (Crash p)).0 p ≡ []
crashed_is_empty profile servers events p =
    crash_by (run profile servers events).0 p (server_at (run profile servers events).0.servers p) (run_rests profile servers events) refl
