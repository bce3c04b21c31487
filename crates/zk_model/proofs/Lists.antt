-- What servers show, in a list.
use Rattle.std.proofs.Common.{◌≡◌, ◌≢◌, ℕ, zero, suc, ◌-◌, ◌<◌, Bool, true, false, cond, List, [], ◌∷◌, length, replicate, set, slice_get, Option, Some, None, refl, sym, ap, ◌∙◌, arith, length-set}
use Rattle.std.proofs.lemmas.Bool.Decides.{nat_tests}
use Rattle.zab_model.specs.Worlds.{is_server}
use Rattle.zk_model.specs.Ensembles.{ReplicaView, fresh, replica_at, changed_at, at_server}

-- ---- lists

pub get_set_same : {A : Type 0} (xs : List A) (i : ℕ) (x y : A) → slice_get xs i ≡ Some x → slice_get (set xs i y) i ≡ Some y
get_set_same [] i x y e = absurd cc
get_set_same (z ∷ xs) zero x y e = refl
get_set_same (z ∷ xs) (suc i) x y e = get_set_same xs i x y e

pub get_set_other : {A : Type 0} (xs : List A) (i j : ℕ) (y : A) → i ≢ j → slice_get (set xs i y) j ≡ slice_get xs j
get_set_other [] i j y n = refl
get_set_other (z ∷ xs) zero zero y n = absurd (n refl)
get_set_other (z ∷ xs) zero (suc j) y n = refl
get_set_other (z ∷ xs) (suc i) zero y n = refl
get_set_other (z ∷ xs) (suc i) (suc j) y n = get_set_other xs i j y (λ e. n (ap suc e))

pub record IsThere {A : Type 0} (o : Option A) : Type 0 where
  pub it : A
  pub is : o ≡ Some it

pub get_within : {A : Type 0} (xs : List A) (i : ℕ) → i < length xs → IsThere (slice_get xs i)
get_within [] i low = absurd (omega arith)
get_within (x ∷ xs) zero low = record { it = x; is = refl }
get_within (x ∷ xs) (suc i) low = get_within xs i (omega arith)

get_replicate : {A : Type 0} (n i : ℕ) (x y : A) → slice_get (replicate n x) i ≡ Some y → x ≡ y
get_replicate zero i x y e = absurd cc
get_replicate (suc n) zero x y e = (let f : Some x ≡ Some y = e in cc)
get_replicate (suc n) (suc i) x y e = get_replicate n i x y e

pub length_replicate : {A : Type 0} (n : ℕ) (x : A) → length (replicate n x) ≡ n
length_replicate zero x = refl
length_replicate (suc n) x = ap suc (length_replicate n x)

-- ---- a server by its number

pub record IsPlace (servers : List ReplicaView) (number : ℕ) (it : ReplicaView) : Type 0 where
  pub one : is_server (length servers) number ≡ true
  pub above : 0 < number
  pub get : slice_get servers (number - 1) ≡ Some it

place_by : (servers : List ReplicaView) (number : ℕ) (it : ReplicaView) (b : Bool) → is_server (length servers) number ≡ b → cond b (slice_get servers (number - 1)) None ≡ Some it → IsPlace servers number it
place_by servers number it true one is = record { one = one; above = grind (arith, nat_tests); get = is }
place_by servers number it false one is = absurd cc

pub position_of : (servers : List ReplicaView) (number : ℕ) (it : ReplicaView) → replica_at servers number ≡ Some it → IsPlace servers number it
position_of servers number it is = place_by servers number it (is_server (length servers) number) refl is

-- there is one for each number
pub is_there : (servers : List ReplicaView) (number : ℕ) → is_server (length servers) number ≡ true → IsThere (replica_at servers number)
is_there servers number one =
    let there = get_within servers (number - 1) (grind (arith, nat_tests)) in
    record { it = there.it; is = ap (λ b. cond b (slice_get servers (number - 1)) None) one ∙ there.is }

-- ---- one is changed

same_set : (servers : List ReplicaView) (number : ℕ) (it new : ReplicaView) → IsPlace servers number it → replica_at (set servers (number - 1) new) number ≡ Some new
same_set servers number it new place =
    ap (λ k. cond (is_server k number) (slice_get (set servers (number - 1) new) (number - 1)) None) (length-set servers (number - 1) new)
    ∙ ap (λ b. cond b (slice_get (set servers (number - 1) new) (number - 1)) None) place.one
    ∙ get_set_same servers (number - 1) it new place.get

other_set : (servers : List ReplicaView) (number p : ℕ) (new : ReplicaView) → 0 < number → p ≢ number → replica_at (set servers (number - 1) new) p ≡ replica_at servers p
other_set servers number zero new above other = refl
other_set servers number (suc p) new above other =
    let differs : number - 1 ≢ suc p - 1 = (λ e. other (omega arith)) in
    ap (λ k. cond (is_server k (suc p)) (slice_get (set servers (number - 1) new) (suc p - 1)) None) (length-set servers (number - 1) new)
    ∙ ap (λ o. cond (is_server (length servers) (suc p)) o None) (get_set_other servers (number - 1) (suc p - 1) new differs)

-- what a change leaves of this server
pub record IsChanged (change : ReplicaView → ReplicaView) (servers : List ReplicaView) (number : ℕ) (new : ReplicaView) : Type 0 where
  pub old : ReplicaView
  pub was : replica_at servers number ≡ Some old
  pub is : new ≡ change old

same_some : {A : Type 0} (x y : A) → (let o : Option A = Some x in o ≡ Some y) → x ≡ y
same_some x y e = cc

changed_by : (change : ReplicaView → ReplicaView) (servers : List ReplicaView) (number : ℕ) (new : ReplicaView) (o : Option ReplicaView) → replica_at servers number ≡ o → replica_at (changed_at change servers number o) number ≡ Some new → IsChanged change servers number new
changed_by change servers number new None was is = absurd (let f : None ≡ Some new = sym was ∙ is in cc)
changed_by change servers number new (Some old) was is =
    let place = position_of servers number old was in
    record { old = old; was = was; is = same_some new (change old) (sym is ∙ same_set servers number old (change old) place) }

pub changed_here : (change : ReplicaView → ReplicaView) (servers : List ReplicaView) (number : ℕ) (new : ReplicaView) → replica_at (at_server change servers number) number ≡ Some new → IsChanged change servers number new
changed_here change servers number new is = changed_by change servers number new (replica_at servers number) refl is

other_by : (change : ReplicaView → ReplicaView) (servers : List ReplicaView) (number p : ℕ) (o : Option ReplicaView) → replica_at servers number ≡ o → p ≢ number → replica_at (changed_at change servers number o) p ≡ replica_at servers p
other_by change servers number p None was other = refl
other_by change servers number p (Some old) was other = other_set servers number p (change old) (position_of servers number old was).above other

pub changed_elsewhere : (change : ReplicaView → ReplicaView) (servers : List ReplicaView) (number p : ℕ) → p ≢ number → replica_at (at_server change servers number) p ≡ replica_at servers p
changed_elsewhere change servers number p other = other_by change servers number p (replica_at servers number) refl other

length_by : (change : ReplicaView → ReplicaView) (servers : List ReplicaView) (number : ℕ) (o : Option ReplicaView) → length (changed_at change servers number o) ≡ length servers
length_by change servers number None = refl
length_by change servers number (Some old) = length-set servers (number - 1) (change old)

pub length_changed : (change : ReplicaView → ReplicaView) (servers : List ReplicaView) (number : ℕ) → length (at_server change servers number) ≡ length servers
length_changed change servers number = length_by change servers number (replica_at servers number)

-- ---- all are fresh at first

pub fresh_at : (servers number : ℕ) (it : ReplicaView) → replica_at (replicate servers fresh) number ≡ Some it → fresh ≡ it
fresh_at servers number it is = get_replicate servers (number - 1) fresh it (position_of (replicate servers fresh) number it is).get
