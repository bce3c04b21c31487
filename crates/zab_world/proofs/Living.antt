-- What a step's answers say.
use Rattle.std.proofs.Common.{◌≡◌, ◌≢◌, ℕ, Bool, true, false, cond, [], ◌∷◌, ◌++◌, Option, Some, None, Result, Ok, Err, IfSome, refl, sym, ap, subst, ◌∙◌}
use Rattle.zab_model.specs.declared.event.Event.{Event}
use Rattle.zab_model.specs.declared.event.Event.TheVariants as events
use Rattle.zab_model.specs.declared.fault.WorldFault.{WorldFault}
use Rattle.zab_model.specs.declared.fault.WorldFault.TheVariants as faults
use Rattle.zab_model.specs.Counting.{counted, IsAnswered, IsNoRestart}
use Rattle.zab_model.specs.Movers.{mover}
use Rattle.zab_model.specs.Running.{is_up, is_running}
use Rattle.zab_model.specs.Runs.{after, IsOfRun}
use Rattle.zab_model.specs.ProcessStates.{ProcessState}
use Rattle.zab_model.specs.Worlds.{World, Profile, Answer, server_at, if_down, restarts, happens, new_world}
use Rattle.zab_model.proofs.RunLaws.{after_more}
use Rattle.zab_world.specs.declared.output.Output.{Output}
use Rattle.zab_world.specs.Outputs.{IsPlainAnswer, sent}

-- what is said happens
pub acted_by : {C : Type 0} (profile : Profile C) (w v : World C) (event : Event C) (saying : Output C) (answer : Result (Output C) WorldFault) → answer ≡ Ok saying → (answer ≢ Err faults.NoMemory → sent v answer ≡ happens profile w event) → sent v (Ok saying) ≡ happens profile w event
acted_by {C} profile w v event saying (Ok other) e acts =
    let one : other ≡ saying = cc in
    subst (λ (s : Output C). sent v (Ok s) ≡ happens profile w event) one (acts (λ h. absurd cc))
acted_by profile w v event saying (Err fault) e acts = absurd cc

-- and what is sent of it
pub happened : {C : Type 0} (profile : Profile C) (w v : World C) (event : Event C) (saying : Output C) (next : World C × Answer) → next ≡ sent v (Ok saying) → sent v (Ok saying) ≡ happens profile w event → next ≡ happens profile w event
happened profile w v event saying next is acted = is ∙ acted

-- a server that runs is not restarted
pub no_restart : {C : Type 0} (profile : Profile C) (w v : World C) (event : Event C) (saying : Output C) → is_running w (mover w event) ≡ true → sent v (Ok saying) ≡ happens profile w event → IsNoRestart event
no_restart profile w v (events.Lead n) saying ran e = tt
no_restart profile w v (events.Follow n leader) saying ran e = tt
no_restart profile w v (events.Arrive number) saying ran e = tt
no_restart profile w v (events.Submit n call) saying ran e = tt
no_restart profile w v (events.Expire n tag session now) saying ran e = tt
no_restart profile w v (events.Sync n tag) saying ran e = tt
no_restart profile w v (events.Crash n) saying ran e = tt
no_restart {C} profile w v (events.Restart n) saying ran e = by_place (server_at w.servers n) ran (ap (λ (p : World C × Answer). p.1) e)
  where
    by_place : (o : Option ProcessState) → is_up o ≡ true → (sent v (Ok saying)).1 ≡ (restarts w n (if_down o)).1 → ⊥
    by_place None up e = absurd cc
    by_place (Some it) up e =
        let clash : (sent v (Ok saying)).1 ≡ Err faults.NotDown = e ∙ ap (λ b. (restarts w n (cond b (Err faults.NotDown) (Ok it))).1) up in
        absurd cc

-- ---- runs

pair : {C : Type 0} {v : World C} {answer : Answer} {next : World C × Answer} → v ≡ next.0 → next.1 ≡ answer → (v, answer) ≡ next
pair {C} {v} {answer} {next} is told = ap (λ (u : World C). (u, answer)) is ∙ ap (λ (a : Answer). (next.0, a)) (sym told)

-- a step without a failed allocation is one of the run
pub plain_step : {C : Type 0} (profile : Profile C) (w v : World C) (event : Event C) (answer : Answer) → IsPlainAnswer answer → IsAnswered profile w event answer → v ≡ after profile w (counted event answer) → (v, answer) ≡ happens profile w event
plain_step profile w v event (Ok numbers) plain told is = pair is told
plain_step profile w v event (Err faults.NoServer) plain told is = pair is told
plain_step profile w v event (Err faults.NoMessage) plain told is = pair is told
plain_step profile w v event (Err faults.Down) plain told is = pair is told
plain_step profile w v event (Err faults.NotDown) plain told is = pair is told
plain_step profile w v event (Err faults.NotServing) plain told is = pair is told
plain_step profile w v event (Err faults.DuplicateCall) plain told is = pair is told
plain_step profile w v event (Err faults.EpochFull) plain told is = pair is told
plain_step profile w v event (Err faults.NoMemory) plain told is = absurd plain
plain_step profile w v event (Err (faults.Died number)) plain told is = absurd plain

one_more : {C : Type 0} (profile : Profile C) (servers : ℕ) (w : World C) (event : Event C) → IsOfRun profile servers w → IsOfRun profile servers (happens profile w event).0
one_more profile servers w event r =
    (r.0 ++ event ∷ [], ap (λ u. (happens profile u event).0) r.1 ∙ sym (after_more profile (new_world servers) r.0 event))

-- the world of a crash is of a run
pub fell : {C : Type 0} (profile : Profile C) (servers : ℕ) (w : World C) (event : Event C) (ran : Bool) (fallen : Option (World C)) → (ran ≡ true → fallen ≡ Some (happens profile w event).0) → (ran ≡ false → fallen ≡ None) → IsOfRun profile servers w → IfSome fallen (IsOfRun profile servers)
fell {C} profile servers w event true fallen falls rests r = subst (λ (o : Option (World C)). IfSome o (IsOfRun profile servers)) (sym (falls refl)) (one_more profile servers w event r)
fell {C} profile servers w event false fallen falls rests r = subst (λ (o : Option (World C)). IfSome o (IsOfRun profile servers)) (sym (rests refl)) tt
