-- The servers of hosts keep their numbers.
use Rattle.std.proofs.Common.{◌≡◌, ◌≢◌, ℕ, suc, zero, ◌-◌, ◌<◌, ◌≤◌, ◌==◌, ◌&&◌, not, nat_lt, nat_le, Bool, true, false, if◌then◌else◌, List, [], ◌∷◌, ◌++◌, length, map, set, slice_get, ◌⊎◌, Option, Some, None, Result, Ok, Err, refl, sym, ap, ◌∙◌, subst, inl, inr, arith, eq-eqb}
use Rattle.std.proofs.lemmas.Bool.{cases_eq}
use Rattle.std.proofs.lemmas.Bool.Decides.{nat_tests}
use Rattle.std.proofs.lemmas.List.{length-set}
use Rattle.zab_epoch.specs.declared.message.Message.{Message}
use Rattle.zab_broadcast.specs.declared.state.State.{State}
use Rattle.zab_broadcast.specs.Calls.{Setting}
use Rattle.zab_broadcast.specs.Rules as rules
use Rattle.zab_broadcast.specs.Rules.{Acts, is_serving}
use Rattle.zab_model.specs.declared.fault.WorldFault.{WorldFault}
use Rattle.zab_model.specs.declared.fault.WorldFault.TheVariants as faults
use Rattle.zab_model.specs.ProcessStates.{ProcessState, standing, new_server, new_servers}
use Rattle.zab_model.specs.Worlds.{World, Profile, world, is_server, server_at, running, resting, if_down, told, said, with_server, acts, receives, crashed, crashes, restarts, happens}
use Rattle.zab_model.specs.declared.event.Event.TheVariants.{Crash, Restart}
use Rattle.zab_model.proofs.ServerLists.{found, same_place, other_place, up_is, down_is}
use Rattle.zab_host_laws.specs.Hosts as steps
use Rattle.zab_host_laws.specs.Hosts.{Network, Step, new_network, submits_at, syncs_at, after_step, after_steps}
use Rattle.zab_host.specs.Hosts.{Input, Receives, Submits, Syncs, Leads, Follows, IsFor, acts_of}
use Rattle.zab_host_laws.specs.Composition.{Fits, AllFit, AreSteps, RestartsFrom}
use Rattle.zab_host_laws.specs.Fits.{AllFor, IsNumbered, HostsKeepTheirNumbers, AcceptedInputsAreSteps}
use Rattle.zab_host_laws.proofs.Composition.{all_are, restarts_from}
use Rattle.zab_host_laws.proofs.Numbers.{Same, received, keeps_number}

-- ---- each server of a list

abbrev AllAre : (ℕ → ProcessState → Type 0) → List ProcessState → Type 0
AllAre P servers = (number : ℕ) (it : ProcessState) → server_at servers number ≡ Some it → P number it

same_some : (x y : ProcessState) → (let o : Option ProcessState = Some x in o ≡ Some y) → x ≡ y
same_some x y e = cc

set_all : (P : ℕ → ProcessState → Type 0) (servers : List ProcessState) (number : ℕ) (it stands : ProcessState) → server_at servers number ≡ Some it → P number stands → AllAre P servers → AllAre P (set servers (number - 1) stands)
set_all P servers number it stands is p all other at is_at =
    let f = found servers number it is in
    elim (cases_eq other number) [
      | inl same ↦
          (let here : server_at (set servers (number - 1) stands) number ≡ Some stands = same_place servers number it stands f in
          let there : server_at (set servers (number - 1) stands) number ≡ Some at = subst (λ n. server_at (set servers (number - 1) stands) n ≡ Some at) same is_at in
          subst (λ n. P n at) (sym same) (subst (P number) (same_some stands at (sym here ∙ there)) p))
      | inr differs ↦ all other at (other_place servers number other stands at f.above differs is_at)
    ]

told_servers : {C : Type 0} (w : World C) (said : Result (List (Message C)) WorldFault) → (told w said).0.servers ≡ w.servers
told_servers w (Ok messages) = refl
told_servers w (Err fault) = refl

abbrev KeepsNumber : {C : Type 0} → (State → Acts C) → Type 0
KeepsNumber rule = (state : State) → Same state.peer (rule state).0.peer

-- ---- a property that no rule changes

module _ {C : Type 0} (P : ℕ → ProcessState → Type 0) (keeps : (number : ℕ) (it : ProcessState) (next : State) → Same it.state.peer next.peer → P number it → P number (standing it.up next)) where
  acts_all : (c : Network C) (number : ℕ) (rule : State → Acts C) (r : Result ProcessState WorldFault) → running c.servers number ≡ r → KeepsNumber rule → AllAre P c.servers → AllAre P (acts c number rule r).0.servers
  acts_all c number rule (Ok it) is same all =
      let at = up_is (server_at c.servers number) it is in
      subst (AllAre P) (sym (told_servers (with_server c number (standing it.up (rule it.state).0)) (said (rule it.state).1)))
      (set_all P c.servers number it (standing it.up (rule it.state).0) at (keeps number it (rule it.state).0 (same it.state) (all number it at)) all)
  acts_all c number rule (Err fault) is same all = all

  by_if : (b : Bool) (x y : Network C) → AllAre P x.servers → AllAre P y.servers → AllAre P (if b then x else y).servers
  by_if true x y p q = p
  by_if false x y p q = q

  module _ (profile : Profile C) (c : Network C) (all : AllAre P c.servers) where
    submits_all : (number : ℕ) (call : C) (r : Result ProcessState WorldFault) → running c.servers number ≡ r → AllAre P (submits_at profile c number call r).servers
    submits_all number call (Ok it) is =
        by_if (is_serving it.state.peer.role) _ c
        (acts_all c number (λ state. rules.submit profile.setting state call) (Ok it) is (λ state. keeps_number profile.setting state (Submits call)) all) all
    submits_all number call (Err fault) is = all

    syncs_all : (number tag : ℕ) (r : Result ProcessState WorldFault) → running c.servers number ≡ r → AllAre P (syncs_at c number tag r).servers
    syncs_all number tag (Ok it) is =
        by_if (is_serving it.state.peer.role) _ c
        (acts_all c number (λ state. rules.sync state tag) (Ok it) is (λ state. keeps_number profile.setting state (Syncs tag)) all) all
    syncs_all number tag (Err fault) is = all

    follows_all : (number leader : ℕ) (may : Bool) → AllAre P (if may then acts c number (λ state. rules.follow state leader) (running c.servers number) else (c, Err faults.NoServer)).0.servers
    follows_all number leader true = acts_all c number (λ state. rules.follow state leader) (running c.servers number) refl (λ state. keeps_number profile.setting state (Follows leader)) all
    follows_all number leader false = all

    step_all : (step : Step C) → ((number : ℕ) → step ≡ steps.Restarts number → AllAre P (after_step profile c (steps.Restarts number)).servers) → AllAre P (after_step profile c step).servers
    step_all (steps.Receives message) restarted =
        acts_all c message.addressee (receives profile.setting message.sender message.body) (running c.servers message.addressee) refl
        (λ state. received profile.setting state message.sender message.body) all
    step_all (steps.Submits number call) restarted = submits_all number call (running c.servers number) refl
    step_all (steps.Syncs number tag) restarted = syncs_all number tag (running c.servers number) refl
    step_all (steps.Leads number) restarted = acts_all c number rules.lead (running c.servers number) refl (λ state. keeps_number profile.setting state Leads) all
    step_all (steps.Follows number leader) restarted = follows_all number leader (is_server (length c.servers) leader && not (number == leader))
    step_all (steps.Restarts number) restarted = restarted number refl

-- ---- the number of servers

module _ {C : Type 0} where
  abbrev Long : Network C → Network C → Type 0
  Long c next = length next.servers ≡ length c.servers

  acts_long : (c : Network C) (number : ℕ) (rule : State → Acts C) (r : Result ProcessState WorldFault) → Long c (acts c number rule r).0
  acts_long c number rule (Ok it) =
      ap length (told_servers (with_server c number (standing it.up (rule it.state).0)) (said (rule it.state).1))
      ∙ length-set c.servers (number - 1) (standing it.up (rule it.state).0)
  acts_long c number rule (Err fault) = refl

  long_if : (c : Network C) (b : Bool) (x : Network C) → Long c x → Long c (if b then x else c)
  long_if c true x p = p
  long_if c false x p = refl

  crashes_long : (c : Network C) (number : ℕ) (r : Result ProcessState WorldFault) → Long c (crashes c number r).0
  crashes_long c number (Ok it) = length-set c.servers (number - 1) (standing false (crashed it.state))
  crashes_long c number (Err fault) = refl

  restarts_long : (c : Network C) (number : ℕ) (r : Result ProcessState WorldFault) → Long c (restarts c number r).0
  restarts_long c number (Ok it) = length-set c.servers (number - 1) (standing true it.state)
  restarts_long c number (Err fault) = refl

  submits_long : (profile : Profile C) (c : Network C) (number : ℕ) (call : C) (r : Result ProcessState WorldFault) → Long c (submits_at profile c number call r)
  submits_long profile c number call (Ok it) = long_if c (is_serving it.state.peer.role) _ (acts_long c number (λ state. rules.submit profile.setting state call) (Ok it))
  submits_long profile c number call (Err fault) = refl

  syncs_long : (c : Network C) (number tag : ℕ) (r : Result ProcessState WorldFault) → Long c (syncs_at c number tag r)
  syncs_long c number tag (Ok it) = long_if c (is_serving it.state.peer.role) _ (acts_long c number (λ state. rules.sync state tag) (Ok it))
  syncs_long c number tag (Err fault) = refl

  follows_long : (c : Network C) (number leader : ℕ) (may : Bool) → Long c (if may then acts c number (λ state. rules.follow state leader) (running c.servers number) else (c, Err faults.NoServer)).0
  follows_long c number leader true = acts_long c number (λ state. rules.follow state leader) (running c.servers number)
  follows_long c number leader false = refl

  step_long : (profile : Profile C) (c : Network C) (step : Step C) → Long c (after_step profile c step)
  step_long profile c (steps.Receives message) = acts_long c message.addressee (receives profile.setting message.sender message.body) (running c.servers message.addressee)
  step_long profile c (steps.Submits number call) = submits_long profile c number call (running c.servers number)
  step_long profile c (steps.Syncs number tag) = syncs_long c number tag (running c.servers number)
  step_long profile c (steps.Leads number) = acts_long c number rules.lead (running c.servers number)
  step_long profile c (steps.Follows number leader) = follows_long c number leader (is_server (length c.servers) leader && not (number == leader))
  step_long profile c (steps.Restarts number) =
      let one = (happens profile c (Restart number)).0 in
      let two = (happens profile one (Crash number)).0 in
      restarts_long two number (resting two.servers number) ∙ crashes_long one number (running one.servers number) ∙ restarts_long c number (resting c.servers number)

-- ---- numbers

pub record IsPlaced (servers number : ℕ) (it : ProcessState) : Type 0 where
  pub me : it.state.peer.me ≡ number
  pub servers_are : it.state.peer.servers ≡ servers

placed_on : (servers number : ℕ) (it : ProcessState) (next : State) → Same it.state.peer next.peer → IsPlaced servers number it → IsPlaced servers number (standing it.up next)
placed_on servers number it next same p = record { me = same.me ∙ p.me; servers_are = same.servers ∙ p.servers_are }

restarts_placed : {C : Type 0} (servers : ℕ) (c : Network C) (number : ℕ) (r : Result ProcessState WorldFault) → resting c.servers number ≡ r → AllAre (IsPlaced servers) c.servers → AllAre (IsPlaced servers) (restarts c number r).0.servers
restarts_placed servers c number (Ok it) is all =
    let at = down_is (server_at c.servers number) it is in
    let p = all number it at in
    set_all (IsPlaced servers) c.servers number it (standing true it.state) at (record { me = p.me; servers_are = p.servers_are }) all
restarts_placed servers c number (Err fault) is all = all

crashes_placed : {C : Type 0} (servers : ℕ) (c : Network C) (number : ℕ) (r : Result ProcessState WorldFault) → running c.servers number ≡ r → AllAre (IsPlaced servers) c.servers → AllAre (IsPlaced servers) (crashes c number r).0.servers
crashes_placed servers c number (Ok it) is all =
    let at = up_is (server_at c.servers number) it is in
    let p = all number it at in
    set_all (IsPlaced servers) c.servers number it (standing false (crashed it.state)) at (record { me = p.me; servers_are = p.servers_are }) all
crashes_placed servers c number (Err fault) is all = all

step_placed : {C : Type 0} (profile : Profile C) (servers : ℕ) (c : Network C) (step : Step C) → AllAre (IsPlaced servers) c.servers → AllAre (IsPlaced servers) (after_step profile c step).servers
step_placed profile servers c step all =
    step_all (IsPlaced servers) (placed_on servers) profile c all step
    (λ number is.
    let one = (happens profile c (Restart number)).0 in
    let two = (happens profile one (Crash number)).0 in
    restarts_placed servers two number (resting two.servers number) refl
    (crashes_placed servers one number (running one.servers number) refl
    (restarts_placed servers c number (resting c.servers number) refl all)))

-- ---- up

abbrev IsUp : ℕ → ProcessState → Type 0
IsUp number it = it.up ≡ true

-- all but one are up
abbrev AreUpBut : ℕ → List ProcessState → Type 0
AreUpBut number servers = (other : ℕ) (it : ProcessState) → other ≢ number → server_at servers other ≡ Some it → it.up ≡ true

not_resting : (o : Option ProcessState) (it : ProcessState) (fault : WorldFault) → o ≡ Some it → if_down o ≡ Err fault → it.up ≡ true
not_resting None it fault is down = absurd cc
not_resting (Some other) it fault is down = ap (λ s. s.up) (same_some it other (sym is)) ∙ by_up other.up refl
  where
    by_up : (b : Bool) → other.up ≡ b → other.up ≡ true
    by_up true up = up
    by_up false down_now =
        absurd (let wrong : (let r : Result ProcessState WorldFault = Ok other in r ≡ Err fault) = sym (ap (λ b. (let r : Result ProcessState WorldFault = (if b then Err faults.NotDown else Ok other) in r)) down_now) ∙ down in cc)

restarts_up : {C : Type 0} (c : Network C) (number : ℕ) (r : Result ProcessState WorldFault) → resting c.servers number ≡ r → AreUpBut number c.servers → AllAre IsUp (restarts c number r).0.servers
restarts_up c number (Ok it) is but other at is_at =
    let here = down_is (server_at c.servers number) it is in
    let f = found c.servers number it here in
    elim (cases_eq other number) [
      | inl same ↦
          (let there : server_at (set c.servers (number - 1) (standing true it.state)) number ≡ Some at = subst (λ n. server_at (set c.servers (number - 1) (standing true it.state)) n ≡ Some at) same is_at in
          sym (ap (λ s. s.up) (same_some (standing true it.state) at (sym (same_place c.servers number it (standing true it.state) f) ∙ there))))
      | inr differs ↦ but other at differs (other_place c.servers number other (standing true it.state) at f.above differs is_at)
    ]
restarts_up c number (Err fault) is but other at is_at = elim (cases_eq other number) [
  | inl same ↦ not_resting (server_at c.servers number) at fault (subst (λ n. server_at c.servers n ≡ Some at) same is_at) is
  | inr differs ↦ but other at differs is_at
]

crashes_up : {C : Type 0} (c : Network C) (number : ℕ) (r : Result ProcessState WorldFault) → running c.servers number ≡ r → AllAre IsUp c.servers → AreUpBut number (crashes c number r).0.servers
crashes_up c number (Ok it) is all other at differs is_at =
    let f = found c.servers number it (up_is (server_at c.servers number) it is) in
    all other at (other_place c.servers number other (standing false (crashed it.state)) at f.above differs is_at)
crashes_up c number (Err fault) is all other at differs is_at = all other at is_at

step_up : {C : Type 0} (profile : Profile C) (c : Network C) (step : Step C) → AllAre IsUp c.servers → AllAre IsUp (after_step profile c step).servers
step_up profile c step all =
    step_all IsUp (λ number it next same up. up) profile c all step
    (λ number is.
    let one = (happens profile c (Restart number)).0 in
    let two = (happens profile one (Crash number)).0 in
    restarts_up two number (resting two.servers number) refl
    (crashes_up one number (running one.servers number) refl
    (restarts_up c number (resting c.servers number) refl (λ other it differs is_at. all other it is_at))))

-- ---- the first network

get_last : {A : Type 0} (xs : List A) (x y : A) (i : ℕ) → slice_get (xs ++ x ∷ []) i ≡ Some y → (slice_get xs i ≡ Some y) ⊎ ((i ≡ length xs) × (x ≡ y))
get_last [] x y zero e = inr (refl, (let f : Some x ≡ Some y = e in cc))
get_last [] x y (suc i) e = absurd cc
get_last (z ∷ xs) x y zero e = inl e
get_last (z ∷ xs) x y (suc i) e = elim (get_last xs x y i e) [
  | inl in_front ↦ inl in_front
  | inr here ↦ inr (ap suc here.0, here.1)
]

length_push : {A : Type 0} (xs : List A) (x : A) → length (xs ++ x ∷ []) ≡ suc (length xs)
length_push [] x = refl
length_push (z ∷ xs) x = ap suc (length_push xs x)

length_new : (servers more : ℕ) → length (new_servers servers more) ≡ more
length_new servers zero = refl
length_new servers (suc more) = length_push (new_servers servers more) (new_server servers (suc more)) ∙ ap suc (length_new servers more)

new_at : (servers more i : ℕ) (it : ProcessState) → slice_get (new_servers servers more) i ≡ Some it → new_server servers (suc i) ≡ it
new_at servers zero i it e = absurd cc
new_at servers (suc more) i it e = elim (get_last (new_servers servers more) (new_server servers (suc more)) it i e) [
  | inl in_front ↦ new_at servers more i it in_front
  | inr here ↦ ap (λ n. new_server servers (suc n)) (here.0 ∙ length_new servers more) ∙ here.1
]

new_is : (servers number : ℕ) (it : ProcessState) → server_at (new_servers servers servers) number ≡ Some it → new_server servers number ≡ it
new_is servers number it is =
    let f = found (new_servers servers servers) number it is in
    let low : 0 < number = f.above in
    let at : suc (number - 1) ≡ number = omega arith in
    subst (λ n. new_server servers n ≡ it) at (new_at servers servers (number - 1) it f.get)

-- ---- the law

module _ {C : Type 0} (profile : Profile C) (servers : ℕ) where
  pub record Knows (c : Network C) : Type 0 where
    pub long : length c.servers ≡ servers
    pub placed : AllAre (IsPlaced servers) c.servers
    pub up : AllAre IsUp c.servers

  knows_new : Knows (new_network servers)
  knows_new = record {
    long = length_new servers servers;
    placed = λ number it is. (let e = new_is servers number it is in
        record { me = ap (λ s. s.state.peer.me) (sym e); servers_are = ap (λ s. s.state.peer.servers) (sym e) });
    up = λ number it is. ap (λ s. s.up) (sym (new_is servers number it is));
  }

  knows_after : (c : Network C) (steps : List (Step C)) → Knows c → Knows (after_steps profile c steps)
  knows_after c [] k = k
  knows_after c (step ∷ rest) k = knows_after (after_step profile c step) rest (record {
    long = step_long profile c step ∙ k.long;
    placed = step_placed profile servers c step k.placed;
    up = step_up profile c step k.up;
  })

  pub knows : (steps : List (Step C)) → Knows (after_steps profile (new_network servers) steps)
  knows steps = knows_after (new_network servers) steps knows_new

pub numbers_stay : {C : Type 0} (profile : Profile C) → HostsKeepTheirNumbers profile
numbers_stay profile servers steps number it is =
    let k = knows profile servers steps in
    let p = k.placed number it is in
    record { me = p.me; servers = p.servers_are ∙ sym k.long; up = k.up number it is }

-- ---- inputs

may_follow : (servers number leader : ℕ) → 0 < leader → leader ≤ servers → leader ≢ number → (is_server servers leader && not (number == leader)) ≡ true
may_follow servers number leader low high other = by_test (nat_lt 0 leader) (nat_le leader servers) (number == leader) refl refl refl
  where
    by_test : (a b d : Bool) → nat_lt 0 leader ≡ a → nat_le leader servers ≡ b → (number == leader) ≡ d → ((a && b) && not d) ≡ true
    by_test true true false p q r = refl
    by_test true true true p q r = absurd (other (let e : number ≡ leader = grind (arith, nat_tests) in sym e))
    by_test true false d p q r = absurd (grind (arith, nat_tests))
    by_test false b d p q r = absurd (grind (arith, nat_tests))

fits : {C : Type 0} (servers number : ℕ) (state : State) (input : Input C) → state.peer.me ≡ number → state.peer.servers ≡ servers → IsFor state input → Fits servers number input
fits servers number state (Receives message) me are mine = mine ∙ me
fits servers number state (Submits call) me are mine = tt
fits servers number state (Syncs tag) me are mine = tt
fits servers number state Leads me are mine = tt
fits servers number state (Follows leader) me are mine =
    may_follow servers number leader mine.0 (subst (λ n. leader ≤ n) are mine.1.0) (subst (λ n. leader ≢ n) me mine.1.1)

all_fit : {C : Type 0} (setting : Setting C) (servers number : ℕ) (state : State) (inputs : List (Input C)) → state.peer.me ≡ number → state.peer.servers ≡ servers → AllFor setting state inputs → AllFit servers number inputs
all_fit setting servers number state [] me are mine = tt
all_fit setting servers number state (input ∷ inputs) me are mine =
    let same = keeps_number setting state input in
    (fits servers number state input me are mine.0, all_fit setting servers number (acts_of setting state input).0 inputs (same.me ∙ me) (same.servers ∙ are) mine.1)

pub accepted_are_steps : {C : Type 0} (profile : Profile C) → AcceptedInputsAreSteps profile
accepted_are_steps profile servers steps number it inputs is mine =
    let c = after_steps profile (new_network servers) steps in
    let n = numbers_stay profile servers steps number it is in (
      all_are profile c number it inputs is n.up (all_fit profile.setting (length c.servers) number it.state inputs n.me n.servers mine),
      restarts_from profile c number it is n.up,
    )
