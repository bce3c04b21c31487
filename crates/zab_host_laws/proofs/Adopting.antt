-- Truncating a log above what is kept, and appending to it, leaves what is kept.
use Rattle.std.proofs.Common.{◌≡◌, ℕ, zero, suc, ◌+◌, ◌-◌, ◌≤◌, min, ℤ, int_lt, ◌&&◌, Bool, true, false, if◌then◌else◌, List, [], ◌∷◌, ◌++◌, length, take, Some, None, refl, sym, ap, ◌∙◌, inl, inr, arith}
use Rattle.std.proofs.Math.Seq.{take-append-add}
use Rattle.std.proofs.lemmas.Bool.{and_parts}
use Rattle.std.specs.Ordering.{int_eq}
use Rattle.zab_epoch.specs.declared.history.Entry.{Entry}
use Rattle.zab_epoch.specs.Entries.{up_to, rises_above, last_zxid}
use Rattle.zab_epoch.specs.Rules.{goes_on}
use Rattle.zab_host_laws.specs.Adoptions.{files, Moment, WritesRest, Marks, Truncates, Appends, Completes, IsAllowed, left_at, IsUnderWay, AdoptionsAreAtomic, AdoptionsAreRepeatable}

-- a prefix that has what is kept
up_to_take : (keep : ℤ) (log : List Entry) (count : ℕ) → length (up_to keep log) ≤ count → up_to keep (take count log) ≡ up_to keep log
up_to_take keep [] zero long = refl
up_to_take keep [] (suc count) long = refl
up_to_take keep (entry ∷ log) zero long = by_test (int_lt keep entry.txn.zxid) long
  where
    by_test : (b : Bool) → length (if b then [] else (entry ∷ up_to keep log)) ≤ 0 → [] ≡ (if b then [] else (entry ∷ up_to keep log))
    by_test true long = refl
    by_test false long = absurd (omega (arith, long))
up_to_take keep (entry ∷ log) (suc count) long = by_test (int_lt keep entry.txn.zxid) (λ short. up_to_take keep log count short) long
  where
    by_test : (b : Bool) → (length (up_to keep log) ≤ count → up_to keep (take count log) ≡ up_to keep log) → length (if b then [] else (entry ∷ up_to keep log)) ≤ suc count
        → (if b then [] else (entry ∷ up_to keep (take count log))) ≡ (if b then [] else (entry ∷ up_to keep log))
    by_test true go long = refl
    by_test false go long = ap (λ (l : List Entry). entry ∷ l) (go (omega (arith, long)))

-- what rises from above is not kept
up_to_none : (keep : ℤ) (rest : List Entry) → rises_above keep rest ≡ true → up_to keep rest ≡ []
up_to_none keep [] rises = refl
up_to_none keep (entry ∷ rest) rises = by_test (int_lt keep entry.txn.zxid) rises
  where
    by_test : (b : Bool) → (b && rises_above entry.txn.zxid rest) ≡ true → (if b then [] else (entry ∷ up_to keep rest)) ≡ []
    by_test true rises = refl
    by_test false rises = absurd cc

up_to_both : (keep : ℤ) (log rest : List Entry) → up_to keep rest ≡ [] → up_to keep (up_to keep log ++ rest) ≡ up_to keep log
up_to_both keep [] rest none = none
up_to_both keep (entry ∷ log) rest none = by_test (int_lt keep entry.txn.zxid) refl (up_to_both keep log rest none)
  where
    by_test : (b : Bool) → int_lt keep entry.txn.zxid ≡ b → up_to keep (up_to keep log ++ rest) ≡ up_to keep log
        → up_to keep ((if b then [] else (entry ∷ up_to keep log)) ++ rest) ≡ (if b then [] else (entry ∷ up_to keep log))
    by_test true is go = none
    by_test false is go = ap (λ (b : Bool). if b then [] else (entry ∷ up_to keep (up_to keep log ++ rest))) is ∙ ap (λ (l : List Entry). entry ∷ l) go

none_of_front : (keep : ℤ) (rest : List Entry) (count : ℕ) → rises_above keep rest ≡ true → up_to keep (take count rest) ≡ []
none_of_front keep rest zero rises = refl
none_of_front keep [] (suc count) rises = refl
none_of_front keep (entry ∷ rest) (suc count) rises = by_test (int_lt keep entry.txn.zxid) rises
  where
    by_test : (b : Bool) → (b && rises_above entry.txn.zxid rest) ≡ true → (if b then [] else (entry ∷ up_to keep (take count rest))) ≡ []
    by_test true rises = refl
    by_test false rises = absurd cc

rises_of : (log : List Entry) (keep : ℤ) (rest : List Entry) → goes_on log keep rest ≡ true → rises_above keep rest ≡ true
rises_of log keep rest goes = (and_parts (int_eq (last_zxid (up_to keep log)) keep) (rises_above keep rest) goes).1

pub at_once : AdoptionsAreAtomic
at_once log keep rest (WritesRest joining) goes allowed = inl refl
at_once log keep rest Marks goes allowed = inr refl
at_once log keep rest (Truncates count) goes allowed = inr (ap (λ (l : List Entry). l ++ rest) (up_to_take keep log count allowed))
at_once log keep rest (Appends count) goes allowed = inr (ap (λ (l : List Entry). l ++ rest) (up_to_both keep log (take count rest) (none_of_front keep rest count (rises_of log keep rest goes))))
at_once log keep rest (Completes joining) goes allowed = inr refl

-- what is kept stays, at each moment of an adoption in progress
kept : (log : List Entry) (keep : ℤ) (rest : List Entry) (first : Moment) → goes_on log keep rest ≡ true → IsAllowed log keep first → IsUnderWay first → up_to keep (left_at log keep rest first).log ≡ up_to keep log
kept log keep rest (WritesRest joining) goes allowed under = absurd under
kept log keep rest Marks goes allowed under = refl
kept log keep rest (Truncates count) goes allowed under = up_to_take keep log count allowed
kept log keep rest (Appends count) goes allowed under = up_to_both keep log (take count rest) (none_of_front keep rest count (rises_of log keep rest goes))
kept log keep rest (Completes joining) goes allowed under = absurd under

take_both : {A : Type 0} (m n : ℕ) (xs : List A) → take m (take n xs) ≡ take (min m n) xs
take_both zero n xs = let none : min 0 n ≡ 0 = omega arith in ap (λ (k : ℕ). take k xs) (sym none)
take_both (suc m) zero xs = let none : min (suc m) 0 ≡ 0 = omega arith in ap (λ (k : ℕ). take k xs) (sym none)
take_both (suc m) (suc n) [] = let next : min (suc m) (suc n) ≡ suc (min m n) = omega arith in ap (λ (k : ℕ). take k []) (sym next)
take_both (suc m) (suc n) (x ∷ xs) =
    let next : min (suc m) (suc n) ≡ suc (min m n) = omega arith in
    ap (λ l. x ∷ l) (take_both m n xs) ∙ ap (λ (k : ℕ). take k (x ∷ xs)) (sym next)

-- a cut of the log that is found is a cut, or an append, of the log that was
cut_again : (log : List Entry) (keep : ℤ) (rest : List Entry) (first : Moment) (count : ℕ) → goes_on log keep rest ≡ true → IsAllowed log keep first → IsUnderWay first → length (up_to keep (left_at log keep rest first).log) ≤ count
    → (other : Moment) × IsAllowed log keep other × (files (take count (left_at log keep rest first).log) rest (Some keep) ≡ left_at log keep rest other)
cut_again log keep rest (WritesRest joining) count goes allowed under long = absurd under
cut_again log keep rest (Completes joining) count goes allowed under long = absurd under
cut_again log keep rest Marks count goes allowed under long = (Truncates count, long, refl)
cut_again log keep rest (Truncates before) count goes allowed under long =
    let enough : length (up_to keep log) ≤ count = omega (arith, long, ap length (up_to_take keep log before allowed)) in
    (Truncates (min count before), omega (arith, enough, allowed), ap (λ (l : List Entry). files l rest (Some keep)) (take_both count before log))
cut_again log keep rest (Appends some) count goes allowed under long =
    let front = up_to keep log in
    let same = kept log keep rest (Appends some) goes allowed under in
    let enough : length front ≤ count = omega (arith, long, ap length same) in
    let is : count ≡ length front + (count - length front) = omega (arith, enough) in
    let cut : take count (front ++ take some rest) ≡ front ++ take (min (count - length front) some) rest =
    ap (λ (k : ℕ). take k (front ++ take some rest)) is ∙ take-append-add front (take some rest) (count - length front) ∙ ap (λ (l : List Entry). front ++ l) (take_both (count - length front) some rest) in
    (Appends (min (count - length front) some), tt, ap (λ (l : List Entry). files l rest (Some keep)) cut)

-- recovery on the log that it finds leaves the files of some moment of the adoption
told_again : (log : List Entry) (keep : ℤ) (rest : List Entry) (first : Moment) → IsAllowed log keep first → IsUnderWay first
    → (other : Moment) × IsAllowed log keep other × (files (left_at log keep rest first).log rest (Some keep) ≡ left_at log keep rest other)
told_again log keep rest (WritesRest joining) allowed under = absurd under
told_again log keep rest (Completes joining) allowed under = absurd under
told_again log keep rest Marks allowed under = (Marks, tt, refl)
told_again log keep rest (Truncates count) allowed under = (Truncates count, allowed, refl)
told_again log keep rest (Appends count) allowed under = (Appends count, tt, refl)

pub repeated : AdoptionsAreRepeatable
repeated log keep rest first again goes allowed under (inl tells) =
    let other = told_again log keep rest first allowed under in
    (other.0, other.1, ap (λ (m : Moment). left_at (left_at log keep rest first).log keep rest m) tells ∙ other.2)
repeated log keep rest first again goes allowed under (inr (inl cuts)) =
    let other = cut_again log keep rest first cuts.0 goes allowed under cuts.2 in
    (other.0, other.1, ap (λ (m : Moment). left_at (left_at log keep rest first).log keep rest m) cuts.1 ∙ other.2)
repeated log keep rest first again goes allowed under (inr (inr (inl appends))) = (
  Appends appends.0,
  tt,
  ap (λ (m : Moment). left_at (left_at log keep rest first).log keep rest m) appends.1
      ∙ ap (λ (l : List Entry). files (l ++ take appends.0 rest) rest (Some keep)) (kept log keep rest first goes allowed under),
)
repeated log keep rest first again goes allowed under (inr (inr (inr ends))) = (
  Completes ends.0,
  tt,
  ap (λ (m : Moment). left_at (left_at log keep rest first).log keep rest m) ends.1 ∙ ap (λ (l : List Entry). files (l ++ rest) ends.0 None) (kept log keep rest first goes allowed under),
)
