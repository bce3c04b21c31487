-- Servers that crash and start again, one after the other.
use Rattle.std.proofs.Common.{◌≡◌, ℕ, suc, ◌+◌, ◌-◌, Bool, true, false, if◌then◌else◌, List, [], ◌∷◌, ◌++◌, length, map, set, Option, Some, None, refl, sym, ap, ap₂, ◌∙◌, append_assoc, arith, length-append, slice_get}
use Rattle.std.proofs.lemmas.List.{append-nil, set_at}
use Rattle.std.proofs.lemmas.Bool.Decides.{nat_tests}
use Rattle.zab_epoch.specs.declared.message.Message.{Message}
use Rattle.zab_broadcast.specs.declared.state.State.{State}
use Rattle.zab_model.specs.declared.event.Event.{Event}
use Rattle.zab_model.specs.declared.event.Event.TheVariants.{Crash, Restart}
use Rattle.zab_model.specs.declared.used_tags.UsedTags.{UsedTags}
use Rattle.zab_model.specs.ProcessStates.{ProcessState, standing}
use Rattle.zab_model.specs.Worlds.{World, Profile, world, is_server, server_at, if_up, if_down, crashed, crashes, restarts, happens}
use Rattle.zab_model.specs.Runs.{after}
use Rattle.zab_host_laws.specs.Recovery.{restart_events, restart_events_from, recover_server, RecoveryContinuesTheRun}

get_at : (xs ys : List ProcessState) (it : ProcessState) → slice_get (xs ++ it ∷ ys) (length xs) ≡ Some it
get_at [] ys it = refl
get_at (x ∷ xs) ys it = get_at xs ys it

place : (xs ys : List ProcessState) (it : ProcessState) → server_at (xs ++ it ∷ ys) (suc (length xs)) ≡ Some it
place xs ys it = by_test (is_server (length (xs ++ it ∷ ys)) (suc (length xs))) (grind (arith, nat_tests, length-append xs (it ∷ ys)))
  where
    by_test : (b : Bool) → b ≡ true → (if b then slice_get (xs ++ it ∷ ys) (suc (length xs) - 1) else None) ≡ Some it
    by_test true is = let back : suc (length xs) - 1 ≡ length xs = omega arith in ap (slice_get (xs ++ it ∷ ys)) back ∙ get_at xs ys it
    by_test false is = absurd cc

replaced : (xs ys : List ProcessState) (it other : ProcessState) → set (xs ++ it ∷ ys) (suc (length xs) - 1) other ≡ xs ++ other ∷ ys
replaced xs ys it other = set_at xs it ys other (suc (length xs) - 1) (omega arith)

module _ {C : Type 0} (profile : Profile C) (messages : List (Message C)) (tags : UsedTags) where
  abbrev among : List ProcessState → ProcessState → List ProcessState → World C
  among xs it ys = world (xs ++ it ∷ ys) messages tags

  silent_change : (xs ys : List ProcessState) (it other : ProcessState) → world (set (xs ++ it ∷ ys) (suc (length xs) - 1) other) (messages ++ []) tags ≡ among xs other ys
  silent_change xs ys it other = ap₂ (λ (s : List ProcessState) (m : List (Message C)). world s m tags) (replaced xs ys it other) (append-nil messages)

  crash_up : (xs ys : List ProcessState) (state : State) → (happens profile (among xs (standing true state) ys) (Crash (suc (length xs)))).0 ≡ among xs (standing false (crashed state)) ys
  crash_up xs ys state =
      ap (λ (o : Option ProcessState). (crashes (among xs (standing true state) ys) (suc (length xs)) (if_up o)).0) (place xs ys (standing true state)) ∙ silent_change xs ys (standing true state) (standing false (crashed state))

  restart_down : (xs ys : List ProcessState) (state : State) → (happens profile (among xs (standing false state) ys) (Restart (suc (length xs)))).0 ≡ among xs (standing true state) ys
  restart_down xs ys state =
      ap (λ (o : Option ProcessState). (restarts (among xs (standing false state) ys) (suc (length xs)) (if_down o)).0) (place xs ys (standing false state)) ∙ silent_change xs ys (standing false state) (standing true state)

  restart_any : (xs ys : List ProcessState) (up : Bool) (state : State) → (happens profile (among xs (standing up state) ys) (Restart (suc (length xs)))).0 ≡ among xs (standing true state) ys
  restart_any xs ys true state = ap (λ (o : Option ProcessState). (restarts (among xs (standing true state) ys) (suc (length xs)) (if_down o)).0) (place xs ys (standing true state))
  restart_any xs ys false state = restart_down xs ys state

  bounce : (xs ys : List ProcessState) (it : ProcessState) (rest : List (Event C)) → after profile (among xs it ys) (restart_events (suc (length xs)) ++ rest) ≡ after profile (among xs (recover_server it) ys) rest
  bounce xs ys it rest =
      let n = suc (length xs) in
      ap (λ (w : World C). after profile (happens profile (happens profile w (Crash n)).0 (Restart n)).0 rest) (restart_any xs ys it.up it.state)
      ∙ ap (λ (w : World C). after profile (happens profile w (Restart n)).0 rest) (crash_up xs ys it.state)
      ∙ ap (λ (w : World C). after profile w rest) (restart_down xs ys (crashed it.state))

  all_reborn : (xs ys : List ProcessState) → after profile (world (xs ++ ys) messages tags) (restart_events_from (length xs) (length ys)) ≡ world (xs ++ map recover_server ys) messages tags
  all_reborn xs [] = refl
  all_reborn xs (it ∷ ys) =
      let behind : xs ++ recover_server it ∷ ys ≡ (xs ++ recover_server it ∷ []) ++ ys = sym (append_assoc xs (recover_server it ∷ []) ys) in
      let many : suc (length xs) ≡ length (xs ++ recover_server it ∷ []) = omega (arith, length-append xs (recover_server it ∷ [])) in
      bounce xs ys it (restart_events_from (suc (length xs)) (length ys))
      ∙ ap₂ (λ (s : List ProcessState) (k : ℕ). after profile (world s messages tags) (restart_events_from k (length ys))) behind many
      ∙ all_reborn (xs ++ recover_server it ∷ []) ys
      ∙ ap (λ (s : List ProcessState). world s messages tags) (append_assoc xs (recover_server it ∷ []) (map recover_server ys))

pub goes_on : {C : Type 0} (profile : Profile C) → RecoveryContinuesTheRun profile
goes_on profile w =
    all_reborn profile w.messages w.tags [] w.servers
    ∙ ap₂ (λ m t. world (map recover_server w.servers) m t) (sym (append-nil w.messages)) (ap₂ (λ c s. record { calls = c; syncs = s }) (sym (append-nil w.tags.calls)) (sym (append-nil w.tags.syncs)))
