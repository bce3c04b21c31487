-- What a note leads back to.
use Rattle.std.proofs.Common.{◌≡◌, ℕ, suc, zero, ◌-◌, ◌&&◌, ◌==◌, not, Bool, true, false, cond, List, [], ◌∷◌, ◌++◌, length, take, set, Option, Some, None, Result, Ok, Err, IfSome, refl, sym, ap, subst, ◌∙◌, slice_get}
use Rattle.zab_epoch.specs.declared.history.Entry.{Entry}
use Rattle.zab_epoch.specs.declared.message.Message.{Message}
use Rattle.zab_broadcast.specs.declared.state.State.{State}
use Rattle.zab_broadcast.specs.Calls.{Setting, is_taken}
use Rattle.zab_broadcast.specs.Rules as rules
use Rattle.zab_model.specs.declared.event.Event.{Event}
use Rattle.zab_model.specs.declared.event.Event.TheVariants as events
use Rattle.zab_model.specs.declared.fault.WorldFault.{WorldFault}
use Rattle.zab_model.specs.declared.fault.WorldFault.TheVariants as faults
use Rattle.zab_model.specs.declared.used_tags.UsedTags.{UsedTags}
use Rattle.zab_model.specs.Movers.{mover, addressee_of}
use Rattle.zab_model.specs.Replacing.{replaces}
use Rattle.zab_model.specs.Running.{is_up, is_running}
use Rattle.zab_model.specs.Runs.{history_list, history_of}
use Rattle.zab_model.specs.ProcessStates.{ProcessState, standing}
use Rattle.zab_model.specs.Worlds.{World, Profile, Answer, world, spent, is_server, server_at, if_up, running, resting, told, said, with_server, acts, receives, message_at, arrives, spends, submits, spends_sync, syncs, crashed, crashes, restarts, happens}
use Rattle.zab_model.proofs.Fronts.{happens_front}
use Rattle.zab_model.proofs.ServerLists.{found, same_place, up_is}
use Rattle.zab_world.specs.declared.rollback.Rollback.{Rollback}
use Rattle.zab_world.specs.Rollbacks.{kept_before, kept_at, back_of, note_at, note_if, note_of, fallen_at, fallen_by}
use Rattle.zab_world.specs.Outputs.{Goes}

set_twice : {A : Type 0} (xs : List A) (i : ℕ) (x y : A) → set (set xs i x) i y ≡ set xs i y
set_twice [] i x y = refl
set_twice (z ∷ xs) zero x y = refl
set_twice (z ∷ xs) (suc i) x y = ap (λ l. z ∷ l) (set_twice xs i x y)

set_same : {A : Type 0} (xs : List A) (i : ℕ) (x : A) → slice_get xs i ≡ Some x → set xs i x ≡ xs
set_same [] i x e = refl
set_same (z ∷ xs) zero x e = cc
set_same (z ∷ xs) (suc i) x e = ap (λ l. z ∷ l) (set_same xs i x e)

pub no_more : {A : Type 0} (xs : List A) → xs ++ [] ≡ xs
no_more [] = refl
no_more (x ∷ xs) = ap (λ l. x ∷ l) (no_more xs)

-- ---- an event sets its server's standing, and no other's

abbrev Moves : {C : Type 0} → World C → ℕ → World C × Answer → Type 0
Moves w n next = (stands : ProcessState) × (next.0.servers ≡ set w.servers (n - 1) stands)

stays : {C : Type 0} (w : World C) (n : ℕ) (it : ProcessState) (answer : Answer) → server_at w.servers n ≡ Some it → Moves w n (w, answer)
stays w n it answer is = (it, sym (set_same w.servers (n - 1) it (found w.servers n it is).get))

pub by_test : {A : Type 0} (P : A → Type 0) (b : Bool) (x y : A) → P x → P y → P (cond b x y)
by_test P true x y p q = p
by_test P false x y p q = q

told_moves : {C : Type 0} (w : World C) (n : ℕ) (stands : ProcessState) (r : Result (List (Message C)) WorldFault) → Moves w n (told (with_server w n stands) r)
told_moves w n stands (Ok messages) = (stands, refl)
told_moves w n stands (Err fault) = (stands, refl)

acts_moves : {C : Type 0} (w : World C) (n : ℕ) (it : ProcessState) (rule : State → rules.Acts C) (r : Result ProcessState WorldFault) → server_at w.servers n ≡ Some it → Moves w n (acts w n rule r)
acts_moves w n it rule (Ok stands) is = told_moves w n (standing stands.up (rule stands.state).0) (said (rule stands.state).1)
acts_moves w n it rule (Err fault) is = stays w n it (Err fault) is

spends_moves : {C : Type 0} (w : World C) (n tag : ℕ) (next : World C × Answer) → Moves w n next → Moves w n (spends tag next)
spends_moves w n tag (v, Ok numbers) m = m
spends_moves w n tag (v, Err fault) m = m

spends_sync_moves : {C : Type 0} (w : World C) (n tag : ℕ) (next : World C × Answer) → Moves w n next → Moves w n (spends_sync tag next)
spends_sync_moves w n tag (v, Ok numbers) m = m
spends_sync_moves w n tag (v, Err fault) m = m

arrives_moves : {C : Type 0} (setting : Setting C) (w : World C) (it : ProcessState) (m : Option (Message C)) → server_at w.servers (addressee_of m) ≡ Some it → Moves w (addressee_of m) (arrives setting w m)
arrives_moves setting w it None is = absurd cc
arrives_moves setting w it (Some m) is = acts_moves w m.addressee it (receives setting m.sender m.body) (running w.servers m.addressee) is

submits_moves : {C : Type 0} (setting : Setting C) (w : World C) (n : ℕ) (call : C) (it : ProcessState) (r : Result ProcessState WorldFault) → server_at w.servers n ≡ Some it → Moves w n (submits setting w n call r)
submits_moves setting w n call it (Err fault) is = stays w n it (Err fault) is
submits_moves {C} setting w n call it (Ok stands) is =
    by_test (λ (q : World C × Answer). Moves w n q) (rules.is_serving stands.state.peer.role) _ _
    (by_test (λ (q : World C × Answer). Moves w n q) (is_taken (setting.tag call) w.tags.calls) _ _
    (stays w n it (Err faults.DuplicateCall) is)
    (spends_moves w n (setting.tag call) (acts w n (λ state. rules.submit setting state call) (Ok stands))
    (acts_moves w n it (λ state. rules.submit setting state call) (Ok stands) is)))
    (stays w n it (Err faults.NotServing) is)

syncs_moves : {C : Type 0} (w : World C) (n tag : ℕ) (it : ProcessState) (r : Result ProcessState WorldFault) → server_at w.servers n ≡ Some it → Moves w n (syncs w n tag r)
syncs_moves w n tag it (Err fault) is = stays w n it (Err fault) is
syncs_moves {C} w n tag it (Ok stands) is =
    by_test (λ (q : World C × Answer). Moves w n q) (rules.is_serving stands.state.peer.role) _ _
    (by_test (λ (q : World C × Answer). Moves w n q) (is_taken tag w.tags.syncs) _ _
    (stays w n it (Err faults.DuplicateCall) is)
    (spends_sync_moves w n tag (acts w n (λ state. rules.sync state tag) (Ok stands))
    (acts_moves w n it (λ state. rules.sync state tag) (Ok stands) is)))
    (stays w n it (Err faults.NotServing) is)

crashes_moves : {C : Type 0} (w : World C) (n : ℕ) (it : ProcessState) (r : Result ProcessState WorldFault) → server_at w.servers n ≡ Some it → Moves w n (crashes w n r)
crashes_moves w n it (Ok stands) is = (standing false (crashed stands.state), refl)
crashes_moves w n it (Err fault) is = stays w n it (Err fault) is

restarts_moves : {C : Type 0} (w : World C) (n : ℕ) (it : ProcessState) (r : Result ProcessState WorldFault) → server_at w.servers n ≡ Some it → Moves w n (restarts w n r)
restarts_moves w n it (Ok stands) is = (standing true stands.state, refl)
restarts_moves w n it (Err fault) is = stays w n it (Err fault) is

moves : {C : Type 0} (profile : Profile C) (w : World C) (event : Event C) (it : ProcessState) → server_at w.servers (mover w event) ≡ Some it → Moves w (mover w event) (happens profile w event)
moves profile w (events.Lead n) it is = acts_moves w n it rules.lead (running w.servers n) is
moves {C} profile w (events.Follow n leader) it is =
    by_test (λ (q : World C × Answer). Moves w n q) (is_server (length w.servers) leader && not (n == leader)) _ _
    (acts_moves w n it (λ state. rules.follow state leader) (running w.servers n) is) (stays w n it (Err faults.NoServer) is)
moves profile w (events.Arrive number) it is = arrives_moves profile.setting w it (message_at w.messages number) is
moves profile w (events.Submit n call) it is = submits_moves profile.setting w n call it (running w.servers n) is
moves profile w (events.Expire n tag session now) it is =
    submits_moves profile.setting w n (profile.closing tag session now) it (running w.servers n) is
moves profile w (events.Sync n tag) it is = syncs_moves w n tag it (running w.servers n) is
moves profile w (events.Crash n) it is = crashes_moves w n it (running w.servers n) is
moves profile w (events.Restart n) it is = restarts_moves w n it (resting w.servers n) is

-- ---- what the server kept

kept_by : (b : Bool) (before now : List Entry) → (b ≡ false → take (length before) now ≡ before) → kept_before (length before) (cond b (Some before) None) now ≡ before
kept_by true before now front = refl
kept_by false before now front = front refl

kept_back : {C : Type 0} (profile : Profile C) (w : World C) (event : Event C) (it stands : ProcessState) → server_at w.servers (mover w event) ≡ Some it → (happens profile w event).0.servers ≡ set w.servers (mover w event - 1) stands → replaces w event ≡ false → take (length it.state.peer.stable.history) stands.state.peer.stable.history ≡ it.state.peer.stable.history
kept_back profile w event it stands is sets quiet =
    let n = mover w event in
    let before : history_of w n ≡ it.state.peer.stable.history = ap history_list is in
    let now : history_of (happens profile w event).0 n ≡ stands.state.peer.stable.history =
    ap (λ l. history_list (server_at l n)) sets ∙ ap history_list (same_place w.servers n it stands (found w.servers n it is)) in
    ap (λ l. take (length l) stands.state.peer.stable.history) (sym before)
    ∙ ap (λ l. take (length (history_of w n)) l) (sym now)
    ∙ happens_front profile w event n quiet
    ∙ before

-- ---- back

abbrev some : {C : Type 0} → World C → Option (World C)
some w = Some w

crash_at : {C : Type 0} (profile : Profile C) (w : World C) (n : ℕ) (it : ProcessState) → running w.servers n ≡ Ok it → (happens profile w (events.Crash n)).0 ≡ world (set w.servers (n - 1) (standing false (crashed it.state))) w.messages w.tags
crash_at profile w n it is =
    ap (λ r. (crashes w n r).0) is ∙ ap (λ l. world (set w.servers (n - 1) (standing false (crashed it.state))) l w.tags) (no_more w.messages)

back_is : (replaced : Bool) (state : State) (now : List Entry) → kept_before (length state.peer.stable.history) (cond replaced (Some state.peer.stable.history) None) now ≡ state.peer.stable.history → back_of (kept_at replaced state) now ≡ standing false (crashed state)
back_is replaced state now is =
    ap (λ h. standing false (rules.restored state.peer.servers state.peer.me (record { promised = state.peer.stable.promised; current = state.peer.stable.current; history = h }))) is

abbrev pub fallen_world : {C : Type 0} → World C → ℕ → ProcessState → World C
fallen_world w n it = world (set w.servers (n - 1) it) w.messages w.tags

goes_back : {C : Type 0} (w : World C) (n : ℕ) (it : ProcessState) (messages : List (Message C)) (tags : UsedTags) → Goes w.messages w.tags messages tags → world (set w.servers (n - 1) it) (take (length w.messages) messages) (spent (take (length w.tags.calls) tags.calls) (take (length w.tags.syncs) tags.syncs)) ≡ fallen_world w n it
goes_back w n it messages tags g =
    ap (λ l. world (set w.servers (n - 1) it) l (spent (take (length w.tags.calls) tags.calls) (take (length w.tags.syncs) tags.syncs))) g.messages
    ∙ ap (λ l. world (set w.servers (n - 1) it) w.messages (spent l (take (length w.tags.syncs) tags.syncs))) g.calls
    ∙ ap (λ l. world (set w.servers (n - 1) it) w.messages (spent w.tags.calls l)) g.syncs

one_back : {C : Type 0} (profile : Profile C) (w : World C) (event : Event C) (it : ProcessState) (messages : List (Message C)) (tags : UsedTags) → running w.servers (mover w event) ≡ Ok it → Goes w.messages w.tags messages tags → Moves w (mover w event) (happens profile w event) → fallen_by (happens profile w event).0.servers messages tags (Some (note_at w event it)) ≡ Some (happens profile w (events.Crash (mover w event))).0
one_back {C} profile w event it messages tags is g m =
    let n = mover w event in
    let there = up_is (server_at w.servers n) it is in
    let stands = m.0 in
    let note : Rollback = note_at w event it in
    let hist : kept_before (length it.state.peer.stable.history) (cond (replaces w event) (Some it.state.peer.stable.history) None) stands.state.peer.stable.history ≡ it.state.peer.stable.history =
    kept_by (replaces w event) it.state.peer.stable.history stands.state.peer.stable.history (kept_back profile w event it stands there m.1) in
    ap (λ l. fallen_by l messages tags (Some note)) m.1
    ∙ ap (fallen_at (set w.servers (n - 1) stands) messages tags note) (same_place w.servers n it stands (found w.servers n it there))
    ∙ ap (λ l. some (world l (take (length w.messages) messages) (spent (take (length w.tags.calls) tags.calls) (take (length w.tags.syncs) tags.syncs))))
    (set_twice w.servers (n - 1) stands (back_of note.kept stands.state.peer.stable.history))
    ∙ ap (λ u. some (world (set w.servers (n - 1) u) (take (length w.messages) messages) (spent (take (length w.tags.calls) tags.calls) (take (length w.tags.syncs) tags.syncs))))
    (back_is (replaces w event) it.state stands.state.peer.stable.history hist)
    ∙ ap some (goes_back w n (standing false (crashed it.state)) messages tags g)
    ∙ ap some (sym (crash_at profile w n it is))

-- ---- who runs

pub runs_by : (o : Option ProcessState) → is_up o ≡ true → (it : ProcessState) × (if_up o ≡ Ok it)
runs_by None up = absurd cc
runs_by (Some it) up = (it, by_up it.up up)
  where
    by_up : (b : Bool) → b ≡ true → (let r : Result ProcessState WorldFault = cond b (Ok it) (Err faults.Down) in r ≡ Ok it)
    by_up true e = refl
    by_up false e = absurd cc

up_by : (o : Option ProcessState) (it : ProcessState) → if_up o ≡ Ok it → is_up o ≡ true
up_by None it is = absurd cc
up_by (Some other) it is = by_up other.up is
  where
    by_up : (b : Bool) → (let r : Result ProcessState WorldFault = cond b (Ok other) (Err faults.Down) in r ≡ Ok it) → b ≡ true
    by_up true is = refl
    by_up false is = absurd cc

-- the note of an event, where its server runs
pub record IsNoted {C : Type 0} (w : World C) (event : Event C) (note : Rollback) : Type 0 where
  pub server : note.server ≡ mover w event
  pub ran : is_running w (mover w event) ≡ true

noted_by : {C : Type 0} (w : World C) (event : Event C) (note : Rollback) (r : Result ProcessState WorldFault) → running w.servers (mover w event) ≡ r → Some note ≡ note_if w event r → IsNoted w event note
noted_by {C} w event note (Ok it) is e =
    let one : note ≡ note_at w event it = cc in
    record { server = ap (λ (k : Rollback). k.server) one; ran = up_by (server_at w.servers (mover w event)) it is }
noted_by w event note (Err fault) is e = absurd cc

pub noted : {C : Type 0} (w : World C) (event : Event C) (note : Rollback) → Some note ≡ note_of w event → IsNoted w event note
noted w event note e = noted_by w event note (running w.servers (mover w event)) refl e

-- the note of an event leads back to before it, and to its server's crash
pub leads_back : {C : Type 0} (profile : Profile C) (w : World C) (event : Event C) (servers : List ProcessState) (messages : List (Message C)) (tags : UsedTags) (made : Option Rollback) → made ≡ note_of w event → is_running w (mover w event) ≡ true → servers ≡ (happens profile w event).0.servers → Goes w.messages w.tags messages tags → fallen_by servers messages tags made ≡ Some (happens profile w (events.Crash (mover w event))).0
leads_back profile w event servers messages tags made is ran acted g =
    let r = runs_by (server_at w.servers (mover w event)) ran in
    ap (fallen_by servers messages tags) is
    ∙ ap (λ o. fallen_by servers messages tags (note_if w event o)) r.1
    ∙ ap (λ l. fallen_by l messages tags (Some (note_at w event r.0))) acted
    ∙ one_back profile w event r.0 messages tags r.1 g (moves profile w event r.0 (up_is (server_at w.servers (mover w event)) r.0 r.1))

-- what a server of a note is put back to
pub is_it : {C : Type 0} (w v : World C) (f : Option (World C)) → f ≡ Some w → IfSome f (λ u. v ≡ u) → v ≡ w
is_it {C} w v f e is = subst (λ (o : Option (World C)). IfSome o (λ u. v ≡ u)) e is
