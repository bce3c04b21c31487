-- No step changes how many servers there are.
use Rattle.std.proofs.Common.{◌≡◌, ℕ, suc, zero, ◌-◌, ◌<◌, ◌==◌, ◌&&◌, not, Bool, true, false, if◌then◌else◌, List, [], ◌∷◌, ◌++◌, length, slice_get, Some, None, Result, Ok, Err, refl, sym, ap, ◌∙◌, subst, arith}
use Rattle.std.proofs.lemmas.Bool.Decides.{nat_tests}
use Rattle.std.proofs.lemmas.List.{length-set}
use Rattle.zab_epoch.specs.declared.message.Message.{Message}
use Rattle.zab_broadcast.specs.declared.state.State.{State}
use Rattle.zab_broadcast.specs.Rules as rules
use Rattle.zab_broadcast.specs.Rules.{Acts, is_serving}
use Rattle.zab_model.specs.declared.fault.WorldFault.{WorldFault}
use Rattle.zab_model.specs.declared.fault.WorldFault.TheVariants as faults
use Rattle.zab_model.specs.ProcessStates.{ProcessState, standing, new_server, new_servers}
use Rattle.zab_model.specs.Worlds.{World, Profile, is_server, server_at, running, resting, told, said, with_server, acts, receives, crashed, crashes, restarts, happens}
use Rattle.zab_model.specs.declared.event.Event.TheVariants.{Crash, Restart}
use Rattle.zab_host_laws.specs.Hosts as steps
use Rattle.zab_host_laws.specs.Hosts.{Network, Step, new_network, submits_at, syncs_at, after_step, after_steps}

told_servers : {C : Type 0} (w : World C) (said : Result (List (Message C)) WorldFault) → (told w said).0.servers ≡ w.servers
told_servers w (Ok messages) = refl
told_servers w (Err fault) = refl

module _ {C : Type 0} where
  abbrev Long : Network C → Network C → Type 0
  Long c next = length next.servers ≡ length c.servers

  acts_long : (c : Network C) (number : ℕ) (rule : State → Acts C) (r : Result ProcessState WorldFault) → Long c (acts c number rule r).0
  acts_long c number rule (Ok it) =
      ap length (told_servers (with_server c number (standing it.up (rule it.state).0)) (said (rule it.state).1))
      ∙ length-set c.servers (number - 1) (standing it.up (rule it.state).0)
  acts_long c number rule (Err fault) = refl

  long_if : (c : Network C) (b : Bool) (x : Network C) → Long c x → Long c (if b then x else c)
  long_if c true x p = p
  long_if c false x p = refl

  crashes_long : (c : Network C) (number : ℕ) (r : Result ProcessState WorldFault) → Long c (crashes c number r).0
  crashes_long c number (Ok it) = length-set c.servers (number - 1) (standing false (crashed it.state))
  crashes_long c number (Err fault) = refl

  restarts_long : (c : Network C) (number : ℕ) (r : Result ProcessState WorldFault) → Long c (restarts c number r).0
  restarts_long c number (Ok it) = length-set c.servers (number - 1) (standing true it.state)
  restarts_long c number (Err fault) = refl

  submits_long : (profile : Profile C) (c : Network C) (number : ℕ) (call : C) (r : Result ProcessState WorldFault) → Long c (submits_at profile c number call r)
  submits_long profile c number call (Ok it) = long_if c (is_serving it.state.peer.role) _ (acts_long c number (λ state. rules.submit profile.setting state call) (Ok it))
  submits_long profile c number call (Err fault) = refl

  syncs_long : (c : Network C) (number tag : ℕ) (r : Result ProcessState WorldFault) → Long c (syncs_at c number tag r)
  syncs_long c number tag (Ok it) = long_if c (is_serving it.state.peer.role) _ (acts_long c number (λ state. rules.sync state tag) (Ok it))
  syncs_long c number tag (Err fault) = refl

  follows_long : (c : Network C) (number leader : ℕ) (may : Bool) → Long c (if may then acts c number (λ state. rules.follow state leader) (running c.servers number) else (c, Err faults.NoServer)).0
  follows_long c number leader true = acts_long c number (λ state. rules.follow state leader) (running c.servers number)
  follows_long c number leader false = refl

  step_long : (profile : Profile C) (c : Network C) (step : Step C) → Long c (after_step profile c step)
  step_long profile c (steps.Receives message) = acts_long c message.addressee (receives profile.setting message.sender message.body) (running c.servers message.addressee)
  step_long profile c (steps.Submits number call) = submits_long profile c number call (running c.servers number)
  step_long profile c (steps.Syncs number tag) = syncs_long c number tag (running c.servers number)
  step_long profile c (steps.Leads number) = acts_long c number rules.lead (running c.servers number)
  step_long profile c (steps.Follows number leader) = follows_long c number leader (is_server (length c.servers) leader && not (number == leader))
  step_long profile c (steps.Restarts number) =
      let one = (happens profile c (Restart number)).0 in
      let two = (happens profile one (Crash number)).0 in
      restarts_long two number (resting two.servers number) ∙ crashes_long one number (running one.servers number) ∙ restarts_long c number (resting c.servers number)

  steps_long : (profile : Profile C) (c : Network C) (some : List (Step C)) → Long c (after_steps profile c some)
  steps_long profile c [] = refl
  steps_long profile c (step ∷ some) = steps_long profile (after_step profile c step) some ∙ step_long profile c step

-- ---- new servers

length_push : {A : Type 0} (xs : List A) (x : A) → length (xs ++ x ∷ []) ≡ suc (length xs)
length_push [] x = refl
length_push (z ∷ xs) x = ap suc (length_push xs x)

pub length_new : (servers more : ℕ) → length (new_servers servers more) ≡ more
length_new servers zero = refl
length_new servers (suc more) = length_push (new_servers servers more) (new_server servers (suc more)) ∙ ap suc (length_new servers more)

pub long_after : {C : Type 0} (profile : Profile C) (servers : ℕ) (some : List (Step C)) → length (after_steps profile (new_network servers) some).servers ≡ servers
long_after profile servers some = steps_long profile (new_network servers) some ∙ length_new servers servers

get_push : {A : Type 0} (xs : List A) (x : A) (i : ℕ) → i < length xs → slice_get (xs ++ x ∷ []) i ≡ slice_get xs i
get_push [] x i below = absurd (omega arith)
get_push (z ∷ xs) x zero below = refl
get_push (z ∷ xs) x (suc i) below = get_push xs x i (omega arith)

get_last : {A : Type 0} (xs : List A) (x : A) → slice_get (xs ++ x ∷ []) (length xs) ≡ Some x
get_last [] x = refl
get_last (z ∷ xs) x = get_last xs x

new_get : (servers more i : ℕ) → i < more → slice_get (new_servers servers more) i ≡ Some (new_server servers (suc i))
new_get servers zero i below = absurd (omega arith)
new_get servers (suc more) i below = by_test (λ less. new_get servers more i less) (i == more) refl
  where
    by_test : (i < more → slice_get (new_servers servers more) i ≡ Some (new_server servers (suc i))) → (b : Bool) → (i == more) ≡ b → slice_get (new_servers servers (suc more)) i ≡ Some (new_server servers (suc i))
    by_test fewer true is =
        (let same : i ≡ more = grind (arith, nat_tests) in
        let long : length (new_servers servers more) ≡ i = length_new servers more ∙ sym same in
        subst (λ n. slice_get (new_servers servers (suc more)) n ≡ Some (new_server servers (suc i))) long
        (get_last (new_servers servers more) (new_server servers (suc more)) ∙ ap (λ n. Some (new_server servers (suc n))) (sym same)))
    by_test fewer false is =
        (let less : i < more = grind (arith, nat_tests) in
        let low : i < length (new_servers servers more) = subst (λ n. i < n) (sym (length_new servers more)) less in
        get_push (new_servers servers more) (new_server servers (suc more)) i low ∙ fewer less)

pub new_at : (servers number : ℕ) → is_server servers number ≡ true → server_at (new_servers servers servers) number ≡ Some (new_server servers number)
new_at servers number is =
    let above : 0 < number = grind (arith, nat_tests) in
    let within : number - 1 < servers = grind (arith, nat_tests) in
    let one : suc (number - 1) ≡ number = omega arith in
    let is_one : is_server (length (new_servers servers servers)) number ≡ true = subst (λ n. is_server n number ≡ true) (sym (length_new servers servers)) is in
    ap (λ b. if b then slice_get (new_servers servers servers) (number - 1) else None) is_one
    ∙ new_get servers servers (number - 1) within
    ∙ ap (λ n. Some (new_server servers n)) one
