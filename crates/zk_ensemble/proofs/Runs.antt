-- The code's ensembles are those of runs.
use Rattle.std.proofs.Common.{◌≡◌, ◌≢◌, ℕ, ◌≤◌, ◌<◌, inl, inr, Bool, true, false, List, [], ◌∷◌, ◌++◌, length, cond, int_lt, ℤ, Option, Some, None, Result, Ok, Err, OnOk, OnErr, refl, sym, ap, subst, ◌∙◌, arith}
use Rattle.std.specs.Result.{is_err}
use Rattle.zab_epoch.specs.Shares.{heavy_share}
use Rattle.zab_epoch.specs.Quorums.{is_heavy}
use Rattle.std.proofs.lemmas.List.{length-append}
use Rattle.zab_laws.specs.Prefixes.{IsPrefix}
use Rattle.zab_agreement_laws.proofs.Deliveries.{down_after_crash}
use Rattle.zab_model.specs.declared.event.Event.{Event as WorldEvent}
use Rattle.zab_model.specs.declared.event.Event.TheVariants as world_events
use Rattle.zab_model.specs.declared.event.Moved.{Moved}
use Rattle.zab_model.specs.declared.fault.WorldFault.{WorldFault}
use Rattle.zab_model.specs.declared.fault.WorldFault.TheVariants as world_faults
use Rattle.zab_model.specs.Counting as zab_counting
use Rattle.zab_model.specs.Counting.{HasDied, IsNoRestart}
use Rattle.zab_model.specs.Movers.{mover}
use Rattle.zab_model.specs.Running.{is_running, is_up, if_running}
use Rattle.zab_model.specs.ProcessStates.{ProcessState}
use Rattle.zab_model.specs.Runs as zab_model
use Rattle.zab_model.specs.Runs.{delivered_of}
use Rattle.zab_model.specs.Worlds as zab
use Rattle.zab_model.specs.Worlds.{World, Profile, is_server, server_at, running, if_up, if_down, restarts}
use Rattle.zk_requests.specs.declared.call.Call.{Call}
use Rattle.zab_epoch.specs.Entries.{txns_of}
use Rattle.zk_model.specs.Entries.{entry_zxid}
use Rattle.zk_model.specs.declared.answer.Answer.{Answer}
use Rattle.zk_model.specs.declared.event.Event.{Event}
use Rattle.zk_model.specs.declared.event.Event.TheVariants as events
use Rattle.zk_model.specs.declared.event.Question.{Question}
use Rattle.zk_model.specs.declared.fault.EnsembleFault.{EnsembleFault}
use Rattle.zk_model.specs.declared.fault.EnsembleFault.TheVariants as faults
use Rattle.zk_headline_laws.specs.Consequences.{FitsEvent, FitEvents}
use Rattle.zk_model.specs.Counting.{counted, IsAnswered}
use Rattle.zk_model.specs.Ensembles.{Ensemble, ReplicaView, Told, fresh, ensemble, new_ensemble, happens, moves, looks, reads, at_server, shown_then, replica_at, of_world}
use Rattle.zk_headline_laws.specs.Headline.{ReplicaMatches, IsNextInRun, IsReached}
use Rattle.zk_model.specs.Runs.{after, run, answered_of}
use Rattle.zk_headline_laws.proofs.Following.{follows}
use Rattle.zk_model.proofs.Lists.{is_there}
use Rattle.zk_headline_laws.proofs.Standing.{Stands, stands_in_run, grows}
use Rattle.zk_model.proofs.Worlds.{goes_on}
use Rattle.zk_table.specs.Histories.{tree_of}
use Rattle.zab_world.specs.Adoptions.{MayFall}
use Rattle.zk_ensemble.specs.Views.{Below, EnsembleView, state_of, profile_in, IsOfRun, answers_in, tree_in}
use Rattle.zk_ensemble.proofs.Quiet.{refused_is_quiet, resting_is_quiet}

-- ---- how it stands

pub stands : (below : Below) (shown : List ReplicaView) → IsOfRun below shown → Stands (profile_in below) below.servers (ensemble below.world shown)
stands below shown r =
    subst (Stands (profile_in below) below.servers) (sym r.reached)
    (stands_in_run (profile_in below) entry_zxid (heavy_share below.quorums) below.servers r.events)

record IsShownAs (below : Below) (shown : List ReplicaView) (number : ℕ) : Type 0 where
  pub it : ReplicaView
  pub is : replica_at shown number ≡ Some it
  pub shows : ReplicaMatches (delivered_of below.world number) it

shown_as : (below : Below) (shown : List ReplicaView) (number : ℕ) → IsOfRun below shown → is_server below.servers number ≡ true → IsShownAs below shown number
shown_as below shown number r one =
    let s = stands below shown r in
    let there = is_there shown number (ap (λ n. is_server n number) s.count ∙ one) in
    record { it = there.it; is = there.is; shows = s.shows number there.it there.is }

-- the results and the tree are the table's over the delivered list
pub answers_of_table : (below : Below) (shown : List ReplicaView) (number : ℕ) → IsOfRun below shown → is_server below.servers number ≡ true → answers_in (replica_at shown number) ≡ answered_of (delivered_of below.world number)
answers_of_table below shown number r one = let s = shown_as below shown number r one in ap answers_in s.is ∙ s.shows.answers

pub tree_of_table : (below : Below) (shown : List ReplicaView) (number : ℕ) → IsOfRun below shown → is_server below.servers number ≡ true → tree_in (replica_at shown number) ≡ tree_of (txns_of (delivered_of below.world number))
tree_of_table below shown number r one = let s = shown_as below shown number r one in ap tree_in s.is ∙ s.shows.tree

-- ---- how an event of the world counts

-- without a failed allocation it counts as one, at its server
pub record CountsAs (w : World Call) (event : WorldEvent Call) (answer : Result Moved WorldFault) : Type 0 where
  pub it : WorldEvent Call
  pub one : zab_counting.counted event answer ≡ it ∷ []
  pub same : counted (events.World event) (of_world answer) ≡ events.World it ∷ []
  pub at : mover w it ≡ mover w event

as_itself : (w : World Call) (event : WorldEvent Call) (answer : Result Moved WorldFault) → zab_counting.counted event answer ≡ event ∷ [] → counted (events.World event) (of_world answer) ≡ events.World event ∷ [] → CountsAs w event answer
as_itself w event answer one same = record { it = event; one = one; same = same; at = refl }

pub counts_as : (profile : Profile Call) (w : World Call) (event : WorldEvent Call) (answer : Result Moved WorldFault) → zab_counting.IsAnswered profile w event answer → answer ≢ Err world_faults.NoMemory → CountsAs w event answer
counts_as profile w event (Ok moved) is kept = as_itself w event (Ok moved) refl refl
counts_as profile w event (Err world_faults.NoServer) is kept = as_itself w event _ refl refl
counts_as profile w event (Err world_faults.NoMessage) is kept = as_itself w event _ refl refl
counts_as profile w event (Err world_faults.Down) is kept = as_itself w event _ refl refl
counts_as profile w event (Err world_faults.NotDown) is kept = as_itself w event _ refl refl
counts_as profile w event (Err world_faults.NotServing) is kept = as_itself w event _ refl refl
counts_as profile w event (Err world_faults.DuplicateCall) is kept = as_itself w event _ refl refl
counts_as profile w event (Err world_faults.EpochFull) is kept = as_itself w event _ refl refl
counts_as profile w event (Err world_faults.NoMemory) is kept = absurd (kept refl)
counts_as profile w event (Err (world_faults.Died number)) is kept = record { it = world_events.Crash number; one = refl; same = refl; at = is.is }

-- its answer is the ensemble's
pub answered_on : (profile : Profile Call) (w : World Call) (shown : List ReplicaView) (event : WorldEvent Call) (answer : Result Moved WorldFault) → zab_counting.IsAnswered profile w event answer → IsAnswered profile (ensemble w shown) (events.World event) (of_world answer)
answered_on profile w shown event (Ok moved) is = ap of_world is
answered_on profile w shown event (Err world_faults.NoServer) is = ap of_world is
answered_on profile w shown event (Err world_faults.NoMessage) is = ap of_world is
answered_on profile w shown event (Err world_faults.Down) is = ap of_world is
answered_on profile w shown event (Err world_faults.NotDown) is = ap of_world is
answered_on profile w shown event (Err world_faults.NotServing) is = ap of_world is
answered_on profile w shown event (Err world_faults.DuplicateCall) is = ap of_world is
answered_on profile w shown event (Err world_faults.EpochFull) is = ap of_world is
answered_on profile w shown event (Err world_faults.NoMemory) is = tt
answered_on profile w shown event (Err (world_faults.Died number)) is = is

-- sessions of 64 bits stay so
pub fit_counted : (event : Event) (told : Told) → FitsEvent event → FitEvents (counted event told)
fit_counted event (Ok answer) fits = (fits, tt)
fit_counted event (Err (faults.Behind seen at)) fits = (fits, tt)
fit_counted event (Err faults.NoServer) fits = (fits, tt)
fit_counted event (Err faults.NoMessage) fits = (fits, tt)
fit_counted event (Err faults.Down) fits = (fits, tt)
fit_counted event (Err faults.NotDown) fits = (fits, tt)
fit_counted event (Err faults.NotServing) fits = (fits, tt)
fit_counted event (Err faults.DuplicateCall) fits = (fits, tt)
fit_counted event (Err faults.EpochFull) fits = (fits, tt)
fit_counted event (Err faults.NoMemory) fits = tt
fit_counted event (Err (faults.Died number)) fits = (tt, tt)

-- ---- an event of the world more

prefix_length : {X : Type 0} (a b : List X) → IsPrefix a b → length a ≤ length b
prefix_length a b p = grind (arith, length-append a p.rest, p.is)

-- a server that runs has delivered at least what it had
longer : (below : Below) (shown : List ReplicaView) (event : WorldEvent Call) (next : World Call) (number : ℕ) → IsOfRun below shown → next ≡ (zab.happens (profile_in below) below.world event).0 → is_running next number ≡ true → length (delivered_of below.world number) ≤ length (delivered_of next number)
longer below shown event next number r same runs =
    let s = stands below shown r in
    let more = grows (profile_in below) entry_zxid (heavy_share below.quorums) below.servers s.es event below.world number s.world (ap (λ w. is_running w number) (sym same) ∙ runs) in
    prefix_length (delivered_of below.world number) (delivered_of next number) (subst (λ w. IsPrefix (delivered_of below.world number) (delivered_of w number)) (sym same) more)

-- what a step of the world leaves
pub record IsStepped (profile : Profile Call) (w : World Call) (event : WorldEvent Call) (answer : Result Moved WorldFault) (next : World Call) : Type 0 where
  pub counts : next ≡ zab_model.after profile w (zab_counting.counted event answer)
  pub answers : zab_counting.IsAnswered profile w event answer
  pub kept : answer ≢ Err world_faults.NoMemory

pub happened : (profile : Profile Call) (w : World Call) (event : WorldEvent Call) (answer : Result Moved WorldFault) (next : World Call) (s : IsStepped profile w event answer next) → next ≡ (zab.happens profile w (counts_as profile w event answer s.answers s.kept).it).0
happened profile w event answer next s = s.counts ∙ ap (zab_model.after profile w) (counts_as profile w event answer s.answers s.kept).one

pub no_shorter : (below : Below) (shown : List ReplicaView) (event : WorldEvent Call) (answer : Result Moved WorldFault) (next : World Call) (number : ℕ) → IsOfRun below shown → IsStepped (profile_in below) below.world event answer next → is_running next number ≡ true → length (delivered_of below.world number) ≤ length (delivered_of next number)
no_shorter below shown event answer next number r s runs =
    longer below shown (counts_as (profile_in below) below.world event answer s.answers s.kept).it next number r (happened (profile_in below) below.world event answer next s) runs

-- what the code does is what happens
moved : (profile : Profile Call) (w : World Call) (shown news : List ReplicaView) (it : WorldEvent Call) (next : World Call) (number : ℕ) → number ≡ mover w it → next ≡ (zab.happens profile w it).0 → news ≡ at_server (shown_then (is_running next number) (length (delivered_of w number)) (delivered_of next number)) shown number → ensemble next news ≡ (happens profile (ensemble w shown) (events.World it)).0
moved profile w shown news it next number at is shows =
    ap (ensemble next) shows
    ∙ ap (λ v. (moves (ensemble w shown) number (v, (zab.happens profile w it).1)).0) is
    ∙ ap (λ n. (moves (ensemble w shown) n (zab.happens profile w it)).0) at

-- the server caught up, as its answer says
pub went_on : (profile : Profile Call) (w : World Call) (shown given news items : List ReplicaView) (event : WorldEvent Call) (answer : Result Moved WorldFault) (next : World Call) (number before : ℕ) (said : Told) → given ≡ shown → number ≡ mover w event → before ≡ length (delivered_of w number) → IsStepped profile w event answer next → news ≡ at_server (shown_then (is_running next number) before (delivered_of next number)) given number → items ≡ news → said ≡ of_world answer → ensemble next items ≡ after profile (ensemble w shown) (counted (events.World event) said)
went_on profile w shown given news items event answer next number before said all at had s shows keeps tells =
    let c = counts_as profile w event answer s.answers s.kept in
    moved profile w shown items c.it next number (at ∙ sym c.at) (happened profile w event answer next s)
    (keeps ∙ shows
    ∙ ap (λ l. at_server (shown_then (is_running next number) before (delivered_of next number)) l number) all
    ∙ ap (λ n. at_server (shown_then (is_running next number) n (delivered_of next number)) shown number) had)
    ∙ sym (ap (after profile (ensemble w shown)) c.same)
    ∙ ap (λ t. after profile (ensemble w shown) (counted (events.World event) t)) (sym tells)

-- ---- a server that has something to deliver

-- it ran, and its event was accepted
pub record HasActed (w : World Call) (event : WorldEvent Call) (answer : Result Moved WorldFault) : Type 0 where
  pub ran : is_running w (mover w event) ≡ true
  pub numbers : Moved
  pub is : answer ≡ Ok numbers

not_longer : (a b n : ℕ) → a ≡ n → n < b → b ≡ a → ⊥
not_longer a b n had more same = omega (arith, had, more, same)

by_running : (b : Bool) → (b ≡ false → ⊥) → b ≡ true
by_running true never = refl
by_running false never = absurd (never refl)

module _ (profile : Profile Call) (w : World Call) (event : WorldEvent Call) (next : World Call) (before : ℕ) (had : before ≡ length (delivered_of w (mover w event))) (runs : is_running next (mover w event) ≡ true) (more : before < length (delivered_of next (mover w event))) where
  is_longer : (next ≡ (zab.happens profile w event).0) → delivered_of (zab.happens profile w event).0 (mover w event) ≡ delivered_of w (mover w event) → ⊥
  is_longer is same = not_longer _ _ before (sym had) more (ap (λ v. length (delivered_of v (mover w event))) is ∙ ap length same)

  acted_ok : (numbers : Moved) → (next ≡ (zab.happens profile w event).0) → HasActed w event (Ok numbers)
  acted_ok numbers is = record {
    ran = by_running (is_running w (mover w event)) (λ down. is_longer is (resting_is_quiet profile w event down));
    numbers = numbers;
    is = refl;
  }

  refused : {A : Type 0} (fault : WorldFault) → (next ≡ (zab.happens profile w event).0) → (zab.happens profile w event).1 ≡ Err fault → A
  refused fault is answers = absurd (is_longer is (refused_is_quiet profile w event fault answers))

  died : {A : Type 0} (number : ℕ) → (next ≡ (zab.happens profile w (world_events.Crash number)).0) → number ≡ mover w event → A
  died number is at =
      absurd (cc (runs, ap (λ v. is_running v (mover w event)) is, ap (λ n. is_running (zab.happens profile w (world_events.Crash number)).0 n) at, down_after_crash profile w number))

  acted_by : (answer : Result Moved WorldFault) → IsStepped profile w event answer next → HasActed w event answer
  acted_by (Ok numbers) s = acted_ok numbers s.counts
  acted_by (Err world_faults.NoServer) s = refused world_faults.NoServer s.counts s.answers
  acted_by (Err world_faults.NoMessage) s = refused world_faults.NoMessage s.counts s.answers
  acted_by (Err world_faults.Down) s = refused world_faults.Down s.counts s.answers
  acted_by (Err world_faults.NotDown) s = refused world_faults.NotDown s.counts s.answers
  acted_by (Err world_faults.NotServing) s = refused world_faults.NotServing s.counts s.answers
  acted_by (Err world_faults.DuplicateCall) s = refused world_faults.DuplicateCall s.counts s.answers
  acted_by (Err world_faults.EpochFull) s = refused world_faults.EpochFull s.counts s.answers
  acted_by (Err world_faults.NoMemory) s = absurd (s.kept refl)
  acted_by (Err (world_faults.Died number)) s = died number s.counts s.answers.is

pub acted : (profile : Profile Call) (w : World Call) (event : WorldEvent Call) (answer : Result Moved WorldFault) (next : World Call) (number before : ℕ) → number ≡ mover w event → before ≡ length (delivered_of w number) → IsStepped profile w event answer next → is_running next number ≡ true → before < length (delivered_of next number) → HasActed w event answer
acted profile w event answer next number before at had s runs more =
    acted_by profile w event next before
    (had ∙ ap (λ n. length (delivered_of w n)) at)
    (ap (λ n. is_running next n) (sym at) ∙ runs)
    (subst (λ n. before < length (delivered_of next n)) at more)
    answer s

-- ---- an allocation fails there

-- the world that its crash leaves: it has delivered more
pub fallen_is : (profile : Profile Call) (w : World Call) (event : WorldEvent Call) (answer : Result Moved WorldFault) (next : World Call) (number before : ℕ) (fallen : Option (World Call)) → number ≡ mover w event → before ≡ length (delivered_of w number) → before < length (delivered_of next number) → HasActed w event answer → OnOk answer (is_running w (mover w event) ≡ true → MayFall profile w event next fallen) → fallen ≡ Some (zab.happens profile w (world_events.Crash (mover w event))).0
fallen_is profile w event answer next number before fallen at had more a falls =
    let grown : length (delivered_of w (mover w event)) < length (delivered_of next (mover w event)) =
    subst (λ n. length (delivered_of w n) < length (delivered_of next n)) at (subst (λ n. n < length (delivered_of next number)) had more) in
    elim ((subst (λ r. OnOk r (is_running w (mover w event) ≡ true → MayFall profile w event next fallen)) a.is falls) a.ran) [
      | inl is ↦ is.1
      | inr none ↦ absurd (omega (arith, none.1.1, grown))
    ]

pub is_some : {A : Type 0} (o : Option A) (x : A) → o ≡ Some x → o ≢ None
is_some o x is none = absurd (cc (is, none))

same_world : (a b : World Call) → (let o : Option (World Call) = Some a in o ≡ Some b) → a ≡ b
same_world a b e = cc

-- the ensemble that it leaves
pub fell : (profile : Profile Call) (w : World Call) (shown given news items : List ReplicaView) (event : WorldEvent Call) (fallen : Option (World Call)) (next : World Call) (number : ℕ) → given ≡ shown → number ≡ mover w event → fallen ≡ Some (zab.happens profile w (world_events.Crash (mover w event))).0 → fallen ≡ Some next → news ≡ at_server (λ _. fresh) given number → items ≡ news → ensemble next items ≡ after profile (ensemble w shown) (events.World (world_events.Crash number) ∷ [])
fell profile w shown given news items event fallen next number all at is left shows keeps =
    let here : next ≡ (zab.happens profile w (world_events.Crash number)).0 = same_world _ _ (sym left ∙ is) ∙ ap (λ n. (zab.happens profile w (world_events.Crash n)).0) (sym at) in
    let down : is_running next number ≡ false = ap (λ v. is_running v number) here ∙ down_after_crash profile w number in
    moved profile w shown items (world_events.Crash number) next number refl here
    (keeps ∙ shows
    ∙ ap (λ l. at_server (λ _. fresh) l number) all
    ∙ ap (λ b. at_server (shown_then b (length (delivered_of w number)) (delivered_of next number)) shown number) (sym down))

-- a server that runs is not started
starts_none : (w : World Call) (n : ℕ) (o : Option ProcessState) (numbers : Moved) → is_up o ≡ true → (restarts w n (if_down o)).1 ≡ Ok numbers → ⊥
starts_none w n None numbers up is = absurd cc
starts_none w n (Some it) numbers up is = absurd (by_up it.up up is)
  where
    by_up : (b : Bool) → b ≡ true → (restarts w n (cond b (Err world_faults.NotDown) (Ok it))).1 ≡ Ok numbers → ⊥
    by_up true up is = absurd cc
    by_up false up is = absurd cc

no_restart : (profile : Profile Call) (w : World Call) (event : WorldEvent Call) (numbers : Moved) → is_running w (mover w event) ≡ true → (zab.happens profile w event).1 ≡ Ok numbers → IsNoRestart event
no_restart profile w (world_events.Lead n) numbers ran is = tt
no_restart profile w (world_events.Follow n leader) numbers ran is = tt
no_restart profile w (world_events.Arrive n) numbers ran is = tt
no_restart profile w (world_events.Submit n call) numbers ran is = tt
no_restart profile w (world_events.Expire n tag session now) numbers ran is = tt
no_restart profile w (world_events.Sync n tag) numbers ran is = tt
no_restart profile w (world_events.Crash n) numbers ran is = tt
no_restart profile w (world_events.Restart n) numbers ran is = starts_none w n (server_at w.servers n) numbers ran is

pub has_died : (profile : Profile Call) (w : World Call) (event : WorldEvent Call) (answer : Result Moved WorldFault) (number : ℕ) → number ≡ mover w event → zab_counting.IsAnswered profile w event answer → HasActed w event answer → HasDied w event number
has_died profile w event answer number at answers a = record {
  is = at;
  ran = ap (is_running w) at ∙ a.ran;
  no_restart = no_restart profile w event a.numbers a.ran (subst (zab_counting.IsAnswered profile w event) a.is answers);
}

-- ---- the run goes on

abbrev pub IsViewOfRun : EnsembleView → Type 0
IsViewOfRun v = IsReached (profile_in v.below) v.below.servers (state_of v)

pub view_of_run : (below : Below) (shown : List ReplicaView) → IsOfRun below shown → IsViewOfRun (record { below = below; shown = shown })
view_of_run below shown r = record { some = r.events; fit = r.fit; reached = r.reached }

pub next_in_run : (v : EnsembleView) (more : List Event) (y : Ensemble) → IsViewOfRun v → FitEvents more → y ≡ after (profile_in v.below) (state_of v) more → IsNextInRun (profile_in v.below) v.below.servers (state_of v) more y
next_in_run v more y reached fits is =
    follows (is_heavy v.below.quorums) (heavy_share v.below.quorums) v.below.servers (state_of v) more y reached fits is

-- and so it is that of a run again
pub reached_more : (below next : Below) (shown news : List ReplicaView) (more : List Event) (r : IsOfRun below shown) → next.quorums ≡ below.quorums → next.servers ≡ below.servers → ensemble next.world news ≡ after (profile_in below) (ensemble below.world shown) more → ensemble next.world news ≡ (run (profile_in next) next.servers (r.events ++ more)).0
reached_more below next shown news more r quorums servers is =
    goes_on (profile_in below) (new_ensemble below.servers) (ensemble below.world shown) (ensemble next.world news) r.events more r.reached is
    ∙ ap (λ (q : List ℕ). (run (profile_in (record { quorums = q; servers = below.servers; world = next.world })) below.servers (r.events ++ more)).0) (sym quorums)
    ∙ ap (λ n. (run (profile_in next) n (r.events ++ more)).0) (sym servers)

-- a new one
pub new_of_run : (below : Below) (shown : List ReplicaView) → ensemble below.world shown ≡ new_ensemble below.servers → IsOfRun below shown
new_of_run below shown is = record { events = []; fit = tt; reached = is }

pub ok_of : {T E P : Type 0} (r : Result T E) → OnOk r P → is_err r ≡ false → P
ok_of (Ok x) p is = p
ok_of (Err e) p is = absurd cc

pub err_of : {T E P : Type 0} (r : Result T E) → OnErr r P → is_err r ≡ true → P
err_of (Ok x) p is = absurd cc
err_of (Err e) p is = p

-- ---- reads

-- a read at a server that runs
pub reads_running : (x : Ensemble) (question : Question) (r : Result ProcessState WorldFault) → if_running r ≡ Ok tt → reads x question r ≡ looks x question (replica_at x.shown question.server)
reads_running x question (Ok it) is = refl
reads_running x question (Err fault) is = absurd cc

pub looked_on : (w : World Call) (shown given news : List ReplicaView) (question : Question) (told : Told) (said : Result (Unit {0}) WorldFault) → given ≡ shown → said ≡ if_running (running w.servers question.server) → said ≡ Ok tt → (ensemble w news, told) ≡ looks (ensemble w given) question (replica_at given question.server) → (ensemble w news, told) ≡ reads (ensemble w shown) question (running w.servers question.server)
looked_on w shown given news question told said all was runs is =
    is
    ∙ ap (λ l. looks (ensemble w l) question (replica_at l question.server)) all
    ∙ sym (reads_running (ensemble w shown) question (running w.servers question.server) (sym was ∙ runs))

-- the reply to a read
pub peeked : (w : World Call) (shown given : List ReplicaView) (question : Question) (told : Told) (said : Result (Unit {0}) WorldFault) → given ≡ shown → said ≡ if_running (running w.servers question.server) → said ≡ Ok tt → told ≡ (looks (ensemble w given) question (replica_at given question.server)).1 → told ≡ (reads (ensemble w shown) question (running w.servers question.server)).1
peeked w shown given question told said all was runs is =
    is
    ∙ ap (λ l. (looks (ensemble w l) question (replica_at l question.server)).1) all
    ∙ ap (λ (p : Ensemble × Told). p.1) (sym (reads_running (ensemble w shown) question (running w.servers question.server) (sym was ∙ runs)))

-- no server dies of a read
not_died : (fault : EnsembleFault) (number : ℕ) → fault ≢ faults.Died number → (let told : Told = Err fault in told ≡ Err (faults.Died number)) → ⊥
not_died fault number other is = other cc

not_died_ok : (answer : Answer) (number : ℕ) → (let told : Told = Ok answer in told ≡ Err (faults.Died number)) → ⊥
not_died_ok answer number is = absurd cc

lives_by : (x next : Ensemble) (b : Bool) (seen at : ℤ) (answer : Answer) (number : ℕ) → (let one : Ensemble × Told = (x, Err (faults.Behind seen at)) in let other : Ensemble × Told = (next, Ok answer) in (cond b one other).1 ≡ Err (faults.Died number)) → ⊥
lives_by x next true seen at answer number is = not_died (faults.Behind seen at) number (λ e. absurd cc) is
lives_by x next false seen at answer number is = not_died_ok answer number is

looks_alive : (x : Ensemble) (question : Question) (o : Option ReplicaView) (number : ℕ) → (looks x question o).1 ≡ Err (faults.Died number) → ⊥
looks_alive x question None number is = not_died faults.NoServer number (λ e. absurd cc) is
looks_alive x question (Some it) number is = lives_by x _ (int_lt it.tree.last question.seen) question.seen it.tree.last _ number is

reads_alive : (x : Ensemble) (question : Question) (o : Option ProcessState) (number : ℕ) → (reads x question (if_up o)).1 ≡ Err (faults.Died number) → ⊥
reads_alive x question None number is = not_died faults.NoServer number (λ e. absurd cc) is
reads_alive x question (Some it) number is = by_up it.up is
  where
    by_up : (b : Bool) → (reads x question (cond b (Ok it) (Err world_faults.Down))).1 ≡ Err (faults.Died number) → ⊥
    by_up true is = looks_alive x question (replica_at x.shown question.server) number is
    by_up false is = not_died faults.Down number (λ e. absurd cc) is

abbrev HasRead : Profile Call → Ensemble → Question → Ensemble → Told → Type 0
HasRead profile x question next told = told ≢ Err faults.NoMemory → (next, told) ≡ happens profile x (events.Read question)

read_on : (profile : Profile Call) (x next : Ensemble) (question : Question) (told : Told) → HasRead profile x question next told → told ≢ Err faults.NoMemory → next ≡ (happens profile x (events.Read question)).0
read_on profile x next question told acts kept = ap (λ (p : Ensemble × Told). p.0) (acts kept)

told_on : (profile : Profile Call) (x next : Ensemble) (question : Question) (told : Told) → HasRead profile x question next told → told ≢ Err faults.NoMemory → (happens profile x (events.Read question)).1 ≡ told
told_on profile x next question told acts kept = sym (ap (λ (p : Ensemble × Told). p.1) (acts kept))

none_dies : {A : Type 0} (profile : Profile Call) (x next : Ensemble) (question : Question) (number : ℕ) → HasRead profile x question next (Err (faults.Died number)) → A
none_dies profile x next question number acts =
    absurd (reads_alive x question (server_at x.world.servers question.server) number (told_on profile x next question (Err (faults.Died number)) acts (λ e. absurd cc)))

-- how a read counts
pub read_counts : (profile : Profile Call) (x next : Ensemble) (question : Question) (told : Told) → HasRead profile x question next told → (told ≡ Err faults.NoMemory → next ≡ x) → next ≡ after profile x (counted (events.Read question) told)
read_counts profile x next question (Ok answer) acts same = read_on profile x next question _ acts (λ e. absurd cc)
read_counts profile x next question (Err (faults.Behind seen at)) acts same = read_on profile x next question _ acts (λ e. absurd cc)
read_counts profile x next question (Err faults.NoServer) acts same = read_on profile x next question _ acts (λ e. absurd cc)
read_counts profile x next question (Err faults.NoMessage) acts same = read_on profile x next question _ acts (λ e. absurd cc)
read_counts profile x next question (Err faults.Down) acts same = read_on profile x next question _ acts (λ e. absurd cc)
read_counts profile x next question (Err faults.NotDown) acts same = read_on profile x next question _ acts (λ e. absurd cc)
read_counts profile x next question (Err faults.NotServing) acts same = read_on profile x next question _ acts (λ e. absurd cc)
read_counts profile x next question (Err faults.DuplicateCall) acts same = read_on profile x next question _ acts (λ e. absurd cc)
read_counts profile x next question (Err faults.EpochFull) acts same = read_on profile x next question _ acts (λ e. absurd cc)
read_counts profile x next question (Err faults.NoMemory) acts same = same refl
read_counts profile x next question (Err (faults.Died number)) acts same = none_dies profile x next question number acts

pub read_answers : (profile : Profile Call) (x next : Ensemble) (question : Question) (told : Told) → HasRead profile x question next told → IsAnswered profile x (events.Read question) told
read_answers profile x next question (Ok answer) acts = told_on profile x next question _ acts (λ e. absurd cc)
read_answers profile x next question (Err (faults.Behind seen at)) acts = told_on profile x next question _ acts (λ e. absurd cc)
read_answers profile x next question (Err faults.NoServer) acts = told_on profile x next question _ acts (λ e. absurd cc)
read_answers profile x next question (Err faults.NoMessage) acts = told_on profile x next question _ acts (λ e. absurd cc)
read_answers profile x next question (Err faults.Down) acts = told_on profile x next question _ acts (λ e. absurd cc)
read_answers profile x next question (Err faults.NotDown) acts = told_on profile x next question _ acts (λ e. absurd cc)
read_answers profile x next question (Err faults.NotServing) acts = told_on profile x next question _ acts (λ e. absurd cc)
read_answers profile x next question (Err faults.DuplicateCall) acts = told_on profile x next question _ acts (λ e. absurd cc)
read_answers profile x next question (Err faults.EpochFull) acts = told_on profile x next question _ acts (λ e. absurd cc)
read_answers profile x next question (Err faults.NoMemory) acts = tt
read_answers profile x next question (Err (faults.Died number)) acts = none_dies profile x next question number acts
