-- Reading nodes in order, as a loop does.
use Rattle.std.proofs.Common.{◌≡◌, ℕ, suc, ◌-◌, ◌+◌, ◌≤◌, ◌<◌, List, [], ◌∷◌, ◌++◌, Option, Some, None, Result, Ok, Err, refl, sym, ap, ◌∙◌, append_assoc, arith}
use Rattle.std.proofs.lemmas.List.{append-nil}
use Rattle.zk_jute.specs.declared.fault.JuteFault.{JuteFault}
use Rattle.zk_jute.specs.declared.fault.JuteFault.TheVariants as faults
use Rattle.zk_jute.specs.Reading.{◌>>=◌, Fails}
use Rattle.zk_jute.proofs.Turns.{with_front}
use Rattle.zk_snapshot.specs.declared.snapshot.Stored.{Stored}
use Rattle.zk_snapshot.specs.Reading.{next_at, some_at}

regroup : (front : List Stored) (x : Stored) (read : Result (List Stored × List ℕ) JuteFault) → with_front front (read >>= λ y. Ok (x ∷ y.0, y.1)) ≡ with_front (front ++ x ∷ []) read
regroup front x (Ok y) = ap (λ (xs : List Stored). Ok (xs, y.1)) (simp append_assoc)
regroup front x (Err fault) = refl

Fails-then : {X Y : Type 0} (fault : JuteFault) (part : Result X JuteFault) (whole : Result Y JuteFault) → ((f : JuteFault) → part ≡ Err f → whole ≡ Err f) → Fails fault part → Fails fault whole
Fails-then faults.NoMemory part whole same fails = tt
Fails-then fault part whole same fails = same fault fails

pub node_goes_on : (front : List Stored) (count i : ℕ) (bytes : List ℕ) (x : Stored) (after : List ℕ) (total : Result (List Stored × List ℕ) JuteFault) → i < count → next_at bytes ≡ Ok (Some x, after)
    → with_front front (some_at (count - i) bytes) ≡ total → with_front (front ++ x ∷ []) (some_at (count - (i + 1)) after) ≡ total
unfolding some_at
node_goes_on front count i bytes x after total lt h so_far =
    let k : count - i ≡ suc (count - (i + 1)) = omega arith in
    let one : with_front front (some_at (count - i) bytes) ≡ with_front (front ++ x ∷ []) (some_at (count - (i + 1)) after) = rw (k, h) (regroup front x (some_at (count - (i + 1)) after)) in
    sym one ∙ so_far

pub node_fails : (fault : JuteFault) (front : List Stored) (count i : ℕ) (bytes : List ℕ) (total : Result (List Stored × List ℕ) JuteFault) → i < count → Fails fault (next_at bytes)
    → with_front front (some_at (count - i) bytes) ≡ total → Fails fault total
unfolding some_at
node_fails fault front count i bytes total lt fails so_far =
    Fails-then fault (next_at bytes) total (λ f h.
    let k : count - i ≡ suc (count - (i + 1)) = omega arith in
    let one : with_front front (some_at (count - i) bytes) ≡ Err f = rw (k, h) refl in
    sym so_far ∙ one) fails

pub nodes_end : (front : List Stored) (count i : ℕ) (bytes after : List ℕ) (total : Result (List Stored × List ℕ) JuteFault) → i < count → next_at bytes ≡ Ok (None, after)
    → with_front front (some_at (count - i) bytes) ≡ total → total ≡ Ok (front, after)
unfolding some_at
nodes_end front count i bytes after total lt h so_far =
    let k : count - i ≡ suc (count - (i + 1)) = omega arith in
    let one : with_front front (some_at (count - i) bytes) ≡ Ok (front, after) = rw (k, h) (ap (λ (xs : List Stored). Ok (xs, after)) (append-nil front)) in
    sym so_far ∙ one

pub nodes_run_out : (front : List Stored) (count i : ℕ) (bytes : List ℕ) (total : Result (List Stored × List ℕ) JuteFault) → count ≤ i → with_front front (some_at (count - i) bytes) ≡ total → total ≡ Err faults.Short
unfolding some_at
nodes_run_out front count i bytes total le so_far =
    let k : count - i ≡ 0 = omega arith in
    let one : with_front front (some_at (count - i) bytes) ≡ Err faults.Short = rw k refl in
    sym so_far ∙ one
