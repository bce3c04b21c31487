-- Servers in a list.
use Rattle.std.proofs.Common.{◌≡◌, ◌≢◌, ℕ, suc, zero, ◌-◌, ◌<◌, Bool, true, false, cond, List, [], ◌∷◌, length, set, Option, Some, None, Result, Ok, Err, refl, sym, ap, ◌∙◌, arith, slice_get, length-set}
use Rattle.std.proofs.lemmas.Bool.Decides.{nat_tests}
use Rattle.zab_model.specs.declared.fault.WorldFault.{WorldFault}
use Rattle.zab_model.specs.declared.fault.WorldFault.TheVariants as faults
use Rattle.zab_model.specs.ProcessStates.{ProcessState, standing}
use Rattle.zab_model.specs.Worlds.{World, is_server, server_at, if_up, running, if_down, resting, with_server, crashed, crashes, restarts}
use Rattle.zab_model.specs.Runs.{kept, stable_of}

get_set_same : {A : Type 0} (xs : List A) (i : ℕ) (x y : A) → slice_get xs i ≡ Some x → slice_get (set xs i y) i ≡ Some y
get_set_same [] i x y e = absurd cc
get_set_same (z ∷ xs) zero x y e = refl
get_set_same (z ∷ xs) (suc i) x y e = get_set_same xs i x y e

get_set_other : {A : Type 0} (xs : List A) (i j : ℕ) (y : A) → i ≢ j → slice_get (set xs i y) j ≡ slice_get xs j
get_set_other [] i j y n = refl
get_set_other (z ∷ xs) zero zero y n = absurd (n refl)
get_set_other (z ∷ xs) zero (suc j) y n = refl
get_set_other (z ∷ xs) (suc i) zero y n = refl
get_set_other (z ∷ xs) (suc i) (suc j) y n = get_set_other xs i j y (λ e. n (ap suc e))

-- a server that there is
pub record IsFound (servers : List ProcessState) (n : ℕ) (it : ProcessState) : Type 0 where
  pub one : is_server (length servers) n ≡ true
  pub above : 0 < n
  pub get : slice_get servers (n - 1) ≡ Some it

found_by : (servers : List ProcessState) (n : ℕ) (it : ProcessState) (b : Bool) → is_server (length servers) n ≡ b → cond b (slice_get servers (n - 1)) None ≡ Some it → IsFound servers n it
found_by servers n it true one is = record { one = one; above = grind (arith, nat_tests); get = is }
found_by servers n it false one is = absurd cc

pub found : (servers : List ProcessState) (n : ℕ) (it : ProcessState) → server_at servers n ≡ Some it → IsFound servers n it
found servers n it is = found_by servers n it (is_server (length servers) n) refl is

pub same_place : (servers : List ProcessState) (n : ℕ) (it stands : ProcessState) → IsFound servers n it → server_at (set servers (n - 1) stands) n ≡ Some stands
same_place servers n it stands f =
    ap (λ k. cond (is_server k n) (slice_get (set servers (n - 1) stands) (n - 1)) None) (length-set servers (n - 1) stands)
    ∙ ap (λ b. cond b (slice_get (set servers (n - 1) stands) (n - 1)) None) f.one
    ∙ get_set_same servers (n - 1) it stands f.get

pub other_place : (servers : List ProcessState) (n k : ℕ) (stands it : ProcessState) → 0 < n → k ≢ n → server_at (set servers (n - 1) stands) k ≡ Some it → server_at servers k ≡ Some it
other_place servers n k stands it above other is =
    let f = found (set servers (n - 1) stands) k it is in
    let low : 0 < k = f.above in
    let differs : n - 1 ≢ k - 1 = (λ e. other (omega arith)) in
    sym (ap (λ o. cond (is_server (length servers) k) o None) (get_set_other servers (n - 1) (k - 1) stands differs))
    ∙ ap (λ l. cond (is_server l k) (slice_get (set servers (n - 1) stands) (k - 1)) None) (sym (length-set servers (n - 1) stands))
    ∙ is

pub other_same : (servers : List ProcessState) (n k : ℕ) (stands : ProcessState) → 0 < n → k ≢ n → server_at (set servers (n - 1) stands) k ≡ server_at servers k
other_same servers n zero stands above other = refl
other_same servers n (suc k) stands above other =
    let differs : n - 1 ≢ suc k - 1 = (λ e. other (omega arith)) in
    ap (λ l. cond (is_server l (suc k)) (slice_get (set servers (n - 1) stands) (suc k - 1)) None) (length-set servers (n - 1) stands)
    ∙ ap (λ o. cond (is_server (length servers) (suc k)) o None) (get_set_other servers (n - 1) (suc k - 1) stands differs)

pub up_is : (o : Option ProcessState) (it : ProcessState) → if_up o ≡ Ok it → o ≡ Some it
up_is None it is = absurd cc
up_is (Some other) it is = by_up other.up is
  where
    by_up : (b : Bool) → (let r : Result ProcessState WorldFault = cond b (Ok other) (Err faults.Down) in r ≡ Ok it) → Some other ≡ Some it
    by_up true is = cc
    by_up false is = absurd cc

pub down_is : (o : Option ProcessState) (it : ProcessState) → if_down o ≡ Ok it → o ≡ Some it
down_is None it is = absurd cc
down_is (Some other) it is = by_up other.up is
  where
    by_up : (b : Bool) → (let r : Result ProcessState WorldFault = cond b (Err faults.NotDown) (Ok other) in r ≡ Ok it) → Some other ≡ Some it
    by_up true is = absurd cc
    by_up false is = cc

-- ---- a crash and a restart leave the stable part

stable_at : {C : Type 0} (w : World C) (n : ℕ) (it stands : ProcessState) → server_at w.servers n ≡ Some it → stands.state.peer.stable ≡ it.state.peer.stable → stable_of (with_server w n stands) n ≡ stable_of w n
stable_at w n it stands is same =
    ap kept (same_place w.servers n it stands (found w.servers n it is)) ∙ (ap Some same ∙ sym (ap kept is))

crash_by : {C : Type 0} (w : World C) (n : ℕ) (o : Option ProcessState) → server_at w.servers n ≡ o → stable_of (crashes w n (if_up o)).0 n ≡ stable_of w n
crash_by w n None is = refl
crash_by {C} w n (Some it) is = by_up it.up
  where
    by_up : (b : Bool) → stable_of {C = C} (crashes w n (cond b (Ok it) (Err faults.Down))).0 n ≡ stable_of w n
    by_up true = stable_at w n it (standing false (crashed it.state)) is refl
    by_up false = refl

pub stable_after_crash : {C : Type 0} (w : World C) (n : ℕ) → stable_of (crashes w n (running w.servers n)).0 n ≡ stable_of w n
stable_after_crash w n = crash_by w n (server_at w.servers n) refl

restart_by : {C : Type 0} (w : World C) (n : ℕ) (o : Option ProcessState) → server_at w.servers n ≡ o → stable_of (restarts w n (if_down o)).0 n ≡ stable_of w n
restart_by w n None is = refl
restart_by {C} w n (Some it) is = by_up it.up
  where
    by_up : (b : Bool) → stable_of {C = C} (restarts w n (cond b (Err faults.NotDown) (Ok it))).0 n ≡ stable_of w n
    by_up true = refl
    by_up false = stable_at w n it (standing true it.state) is refl

pub stable_after_restart : {C : Type 0} (w : World C) (n : ℕ) → stable_of (restarts w n (resting w.servers n)).0 n ≡ stable_of w n
stable_after_restart w n = restart_by w n (server_at w.servers n) refl
