-- Reading elements in order, as a loop does.
use Rattle.std.proofs.Common.{◌≡◌, ℕ, suc, ◌-◌, ◌+◌, ◌≤◌, ◌<◌, List, [], ◌∷◌, ◌++◌, Result, Ok, Err, refl, sym, ap, ◌∙◌, append_assoc, arith}
use Rattle.std.proofs.lemmas.List.{append-nil}
use Rattle.zk_jute.specs.declared.fault.JuteFault.{JuteFault}
use Rattle.zk_jute.specs.declared.fault.JuteFault.TheVariants as faults
use Rattle.zk_jute.specs.Reading.{◌>>=◌, Fails, many_at}

-- the elements read before, and those still to be read
abbrev pub with_front : {A : Type 0} → List A → Result (List A × List ℕ) JuteFault → Result (List A × List ℕ) JuteFault
with_front front read = read >>= λ x. Ok (front ++ x.0, x.1)

regroup : {A : Type 0} (front : List A) (x : A) (read : Result (List A × List ℕ) JuteFault) → with_front front (read >>= λ y. Ok (x ∷ y.0, y.1)) ≡ with_front (front ++ x ∷ []) read
regroup {A} front x (Ok y) = ap (λ (xs : List A). Ok (xs, y.1)) (simp append_assoc)
regroup front x (Err fault) = refl

-- a fault of a part is the fault of the whole
Fails-then : {X Y : Type 0} (fault : JuteFault) (part : Result X JuteFault) (whole : Result Y JuteFault) → ((f : JuteFault) → part ≡ Err f → whole ≡ Err f) → Fails fault part → Fails fault whole
Fails-then faults.NoMemory part whole same fails = tt
Fails-then fault part whole same fails = same fault fails

pub goes_on : {A : Type 0} (read : List ℕ → Result (A × List ℕ) JuteFault) (front : List A) (count i : ℕ) (bytes : List ℕ) (x : A) (after : List ℕ) (total : Result (List A × List ℕ) JuteFault) → i < count → read bytes ≡ Ok (x, after)
    → with_front front (many_at read (count - i) bytes) ≡ total → with_front (front ++ x ∷ []) (many_at read (count - (i + 1)) after) ≡ total
unfolding many_at
goes_on read front count i bytes x after total lt h so_far =
    let k : count - i ≡ suc (count - (i + 1)) = omega arith in
    let one : with_front front (many_at read (count - i) bytes) ≡ with_front (front ++ x ∷ []) (many_at read (count - (i + 1)) after) = rw (k, h) (regroup front x (many_at read (count - (i + 1)) after)) in
    sym one ∙ so_far

pub ends : {A : Type 0} (read : List ℕ → Result (A × List ℕ) JuteFault) (fault : JuteFault) (front : List A) (count i : ℕ) (bytes : List ℕ) (total : Result (List A × List ℕ) JuteFault) → i < count → Fails fault (read bytes)
    → with_front front (many_at read (count - i) bytes) ≡ total → Fails fault total
unfolding many_at
ends read fault front count i bytes total lt fails so_far =
    Fails-then fault (read bytes) total (λ f h.
    let k : count - i ≡ suc (count - (i + 1)) = omega arith in
    let one : with_front front (many_at read (count - i) bytes) ≡ Err f = rw (k, h) refl in
    sym so_far ∙ one) fails

pub is_done : {A : Type 0} (read : List ℕ → Result (A × List ℕ) JuteFault) (front : List A) (count i : ℕ) (bytes : List ℕ) (total : Result (List A × List ℕ) JuteFault) → count ≤ i → with_front front (many_at read (count - i) bytes) ≡ total → total ≡ Ok (front, bytes)
unfolding many_at
is_done {A} read front count i bytes total le so_far =
    let k : count - i ≡ 0 = omega arith in
    let one : with_front front (many_at read (count - i) bytes) ≡ Ok (front, bytes) = rw k (ap (λ (xs : List A). Ok (xs, bytes)) (append-nil front)) in
    sym so_far ∙ one
