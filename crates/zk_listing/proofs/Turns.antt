-- Reading elements in order, as a loop does.
use Rattle.std.proofs.Common.{◌≡◌, ℕ, suc, ◌-◌, ◌+◌, ◌≤◌, ◌<◌, List, [], ◌∷◌, ◌++◌, Option, Some, None, refl, sym, ap, ◌∙◌, arith}
use Rattle.std.proofs.lemmas.List.{append-nil}
use Rattle.zk_listing.specs.declared.list_fault.ListCause.{ListCause}
use Rattle.zk_listing.specs.Reading.{Fails, behind, many_at}
use Rattle.zk_listing.proofs.InsideQuotes.{behind-behind, Fails-then}

pub goes_on : {A : Type 0} (read : List ℕ → Option (A × List ℕ)) (front : List A) (count i : ℕ) (bytes : List ℕ) (x : A) (after : List ℕ) (total : Option (List A × List ℕ)) → i < count → read bytes ≡ Some (x, after)
    → behind front (many_at read (count - i) bytes) ≡ total → behind (front ++ x ∷ []) (many_at read (count - (i + 1)) after) ≡ total
unfolding many_at
goes_on read front count i bytes x after total lt h so_far =
    let k : count - i ≡ suc (count - (i + 1)) = omega arith in
    let one : behind front (many_at read (count - i) bytes) ≡ behind (front ++ x ∷ []) (many_at read (count - (i + 1)) after) = rw (k, h) (behind-behind front (x ∷ []) (many_at read (count - (i + 1)) after)) in
    sym one ∙ so_far

pub ends : {A : Type 0} (read : List ℕ → Option (A × List ℕ)) (cause : ListCause) (front : List A) (count i : ℕ) (bytes : List ℕ) (total : Option (List A × List ℕ)) → i < count → Fails cause (read bytes)
    → behind front (many_at read (count - i) bytes) ≡ total → Fails cause total
unfolding many_at
ends read cause front count i bytes total lt fails so_far =
    Fails-then cause (read bytes) total (λ h.
    let k : count - i ≡ suc (count - (i + 1)) = omega arith in
    let one : behind front (many_at read (count - i) bytes) ≡ None = rw (k, h) refl in
    sym so_far ∙ one) fails

pub is_done : {A : Type 0} (read : List ℕ → Option (A × List ℕ)) (front : List A) (count i : ℕ) (bytes : List ℕ) (total : Option (List A × List ℕ)) → count ≤ i → behind front (many_at read (count - i) bytes) ≡ total → total ≡ Some (front, bytes)
unfolding many_at
is_done {A} read front count i bytes total le so_far =
    let k : count - i ≡ 0 = omega arith in
    let one : behind front (many_at read (count - i) bytes) ≡ Some (front, bytes) = rw k (ap (λ (xs : List A). Some (xs, bytes)) (append-nil front)) in
    sym so_far ∙ one
