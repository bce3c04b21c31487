-- What keeps sessions in the order of their numbers, and where a search among them ends.
use Rattle.std.proofs.Common.{◌≡◌, ℕ, ℤ, zero, suc, ◌<◌, ◌≤◌, Bool, true, false, ltb, not, List, [], ◌∷◌, filter, find, length, get_or, set, insert, Option, Some, None, Result, Ok, Err, if◌then◌else◌, refl, sym, ap, ◌∙◌, subst, arith, Less, Equal, Greater, is_eq}
use Rattle.std.proofs.lemmas.Bool.{cond_both, false≢true}
use Rattle.std.proofs.lemmas.Bool.Decides.{Decides-int_eq}
use Rattle.std.proofs.lemmas.Cmp.{int_cmp_total, on_total, tied_back, tied_itself, alike_right}
use Rattle.std.proofs.lemmas.List.Kept.{IsStrictlySortedBy-filter}
use Rattle.std.proofs.lemmas.List.Sorted.{IsNonDecreasingBy-from_default}
use Rattle.std.proofs.lemmas.Map.Lookups.{exact_signed}
use Rattle.std.specs.Cmp.{IsTotalOrder}
use Rattle.std.specs.List.{AllByRecursion}
use Rattle.std.specs.List.Sorted.{IsSearchInRange, IsBinarySearchResult, IsNonDecreasingBy, IsPartitionPoint, IsStrictlySortedBy}
use Rattle.std.specs.Ordering.{int_cmp, int_eq, match_ordering, ordering_index, ordering_reverse}
use Rattle.std.specs.declared.cmp.Ordering.{Ordering}
use borrow.Author.Tests.{ltb-true, ltb-false}
use Rattle.zk_connections.specs.Sessions.{has_id, session_cmp, with_first, with_opened, without_session, IsSessionPlace}
use Rattle.zk_connections.specs.declared.session.Session.{Session}

pub session_cmp_total : IsTotalOrder session_cmp
session_cmp_total = on_total (λ it. it.id) int_cmp_total

by_ordering : {X : Type 0} (r : Ordering) (x y z : X) (P : X → Type 0) → (r ≡ Less → P x) → (r ≡ Equal → P y) → (r ≡ Greater → P z) → P (match_ordering r x y z)
by_ordering Less x y z P less equal greater = less refl
by_ordering Equal x y z P less equal greater = equal refl
by_ordering Greater x y z P less equal greater = greater refl

-- ---- the order is kept

pub none_ordered : IsStrictlySortedBy session_cmp []
unfolding IsStrictlySortedBy
none_ordered = tt

pub removed_ordered : (id : ℤ) (its : List Session) → IsStrictlySortedBy session_cmp its → IsStrictlySortedBy session_cmp (without_session id its)
removed_ordered id its h = IsStrictlySortedBy-filter session_cmp (λ it. not (has_id id it)) its h

module _ (test : Session → Bool) (change : Session → Session) (keeps : (it : Session) → (change it).id ≡ it.id) where
  above_changed : (one : Session) (its : List Session) → AllByRecursion (λ it. session_cmp one it ≡ Less) its → AllByRecursion (λ it. session_cmp one it ≡ Less) (with_first test change its)
  above_changed one [] h = tt
  above_changed one (it ∷ its) h =
      cond_both (test it) (change it ∷ its) (it ∷ with_first test change its) (AllByRecursion (λ x. session_cmp one x ≡ Less))
      (λ _. (ap (int_cmp one.id) (keeps it) ∙ h.0, h.1)) (λ _. (h.0, above_changed one its h.1))

  above_same : (it : Session) (its : List Session) → AllByRecursion (λ x. session_cmp it x ≡ Less) its → AllByRecursion (λ x. session_cmp (change it) x ≡ Less) its
  above_same it [] h = tt
  above_same it (x ∷ its) h = (ap (λ id. int_cmp id x.id) (keeps it) ∙ h.0, above_same it its h.1)

  pub changed_ordered : (its : List Session) → IsStrictlySortedBy session_cmp its → IsStrictlySortedBy session_cmp (with_first test change its)
  unfolding IsStrictlySortedBy
  changed_ordered [] h = h
  changed_ordered (it ∷ its) h =
      cond_both (test it) (change it ∷ its) (it ∷ with_first test change its) (IsStrictlySortedBy session_cmp)
      (λ _. (above_same it its h.0, h.1)) (λ _. (above_changed it its h.0, changed_ordered its h.1))

above_opened : (one new : Session) (its : List Session) → session_cmp one new ≡ Less → AllByRecursion (λ it. session_cmp one it ≡ Less) its → AllByRecursion (λ it. session_cmp one it ≡ Less) (with_opened new its)
above_opened one new [] less h = (less, tt)
above_opened one new (it ∷ its) less h =
    by_ordering (session_cmp new it) _ _ _ (AllByRecursion (λ x. session_cmp one x ≡ Less))
    (λ _. (less, h)) (λ _. h) (λ _. (h.0, above_opened one new its less h.1))

above_all : (one it : Session) (its : List Session) → session_cmp one it ≡ Less → AllByRecursion (λ x. session_cmp it x ≡ Less) its → AllByRecursion (λ x. session_cmp one x ≡ Less) its
above_all one it [] less h = tt
above_all one it (x ∷ its) less h = (session_cmp_total.trans one it x less h.0, above_all one it its less h.1)

pub opened_ordered : (new : Session) (its : List Session) → IsStrictlySortedBy session_cmp its → IsStrictlySortedBy session_cmp (with_opened new its)
unfolding IsStrictlySortedBy
opened_ordered new [] h = (tt, tt)
opened_ordered new (it ∷ its) h =
    by_ordering (session_cmp new it) _ _ _ (IsStrictlySortedBy session_cmp)
    (λ less. ((less, above_all new it its less h.0), h))
    (λ _. h)
    (λ greater. (above_opened it new its (session_cmp_total.antisymm it new ∙ ap ordering_reverse greater) h.0, opened_ordered new its h.1))

-- ---- along the sessions the answers rise

rising : (a b new : Session) → session_cmp a b ≡ Less → ordering_index (session_cmp a new) ≤ ordering_index (session_cmp b new)
rising a b new less = by_later _ refl
  where
    at_most : (r : Ordering) → ordering_index r ≤ 2
    at_most Less = omega arith
    at_most Equal = omega arith
    at_most Greater = omega arith

    by_later : (r : Ordering) → session_cmp b new ≡ r → ordering_index (session_cmp a new) ≤ ordering_index r
    by_later Less e = rw (session_cmp_total.trans a b new less e) (omega arith)
    by_later Equal e = rw (sym (alike_right session_cmp_total b new a e) ∙ less) (omega arith)
    by_later Greater e = at_most (session_cmp a new)

above_at : (one : Session) (its : List Session) (j : ℕ) (d : Session) → AllByRecursion (λ it. session_cmp one it ≡ Less) its → j < length its → session_cmp one (get_or its j d) ≡ Less
above_at one [] j d h lt = absurd (omega arith)
above_at one (it ∷ its) zero d h lt = h.0
above_at one (it ∷ its) (suc j) d h lt = above_at one its j d h.1 (omega arith)

ordered_at : (its : List Session) (i j : ℕ) (d : Session) → IsStrictlySortedBy session_cmp its → i < j → j < length its → session_cmp (get_or its i d) (get_or its j d) ≡ Less
unfolding IsStrictlySortedBy
ordered_at [] i j d h lt in_range = absurd (omega arith)
ordered_at (it ∷ its) i zero d h lt in_range = absurd (omega arith)
ordered_at (it ∷ its) zero (suc j) d h lt in_range = above_at it its j d h.0 (omega arith)
ordered_at (it ∷ its) (suc i) (suc j) d h lt in_range = ordered_at its i j d h.1 (omega arith) (omega arith)

rises : (its : List Session) (new d : Session) → IsStrictlySortedBy session_cmp its → IsNonDecreasingBy (λ it. ordering_index (session_cmp it new)) its
rises its new d sorted = IsNonDecreasingBy-from_default (λ it. ordering_index (session_cmp it new)) its d (λ i j le lt. in_order i j le lt)
  where
    in_order : (i j : ℕ) → i ≤ j → j < length its → ordering_index (session_cmp (get_or its i d) new) ≤ ordering_index (session_cmp (get_or its j d) new)
    in_order i j le lt = elim (ltb i j) as (λ b. ltb i j ≡ b → ordering_index (session_cmp (get_or its i d) new) ≤ ordering_index (session_cmp (get_or its j d) new)) [
      | true ↦ λ e. rising (get_or its i d) (get_or its j d) new (ordered_at its i j d sorted (ltb-true i j e) lt)
      | false ↦ λ e. let same : i ≡ j = omega (arith, ltb-false i j e) in at_one same
    ] refl
      where
        at_one : i ≡ j → ordering_index (session_cmp (get_or its i d) new) ≤ ordering_index (session_cmp (get_or its j d) new)
        at_one same = rw same (omega arith)

-- ---- where a search ends

-- a session whose number does not tie with another is not that one
apart : (it new : Session) (r : Ordering) → session_cmp it new ≡ r → (r ≡ Equal → ⊥) → has_id new.id it ≡ false
apart it new r e other = by_test _ refl
  where
    by_test : (b : Bool) → has_id new.id it ≡ b → b ≡ false
    by_test false same = refl
    by_test true same =
        absurd (other (sym e ∙ ap (λ id. int_cmp id new.id) ((Decides-int_eq it.id new.id).0 same) ∙ tied_itself session_cmp_total new))

is_less : Less ≡ Equal → ⊥
is_less e = false≢true (ap is_eq e)

is_greater : Greater ≡ Equal → ⊥
is_greater e = false≢true (ap is_eq e)

goes_there : (new : Session) (its : List Session) (i : ℕ) (d : Session) → i ≤ length its → ((j : ℕ) → j < i → session_cmp (get_or its j d) new ≡ Less) → ((j : ℕ) → i ≤ j → j < length its → session_cmp (get_or its j d) new ≡ Greater) → with_opened new its ≡ insert its i new
goes_there new [] zero d le before behind = refl
goes_there new [] (suc i) d le before behind = absurd (omega arith)
goes_there new (it ∷ its) zero d le before behind = ap (λ r. match_ordering r (new ∷ it ∷ its) (it ∷ its) (it ∷ with_opened new its)) (session_cmp_total.antisymm new it ∙ ap ordering_reverse (behind 0 (omega arith) (omega arith)))
goes_there new (it ∷ its) (suc i) d le before behind =
    ap (λ r. match_ordering r (new ∷ it ∷ its) (it ∷ its) (it ∷ with_opened new its)) (session_cmp_total.antisymm new it ∙ ap ordering_reverse (before 0 (omega arith)))
    ∙ ap (λ l. it ∷ l) (goes_there new its i d (omega arith) (λ j lt. before (suc j) (omega arith)) (λ j le lt. behind (suc j) (omega arith) (omega arith)))

-- what a session at a position is
abbrev StandsAt : ℤ → List Session → (Session → Session) → ℕ → Session → Type 0
StandsAt id its change i it = (find (has_id id) its ≡ Some it) × (with_first (has_id id) change its ≡ set its i (change it))

stands_first : (id : ℤ) (it : Session) (its : List Session) (change : Session → Session) → has_id id it ≡ true → StandsAt id (it ∷ its) change 0 it
stands_first id it its change is = (
  ap (λ (b : Bool). if b then Some it else find (has_id id) its) is,
  ap (λ (b : Bool). if b then change it ∷ its else it ∷ with_first (has_id id) change its) is,
)

stands_later : (id : ℤ) (it : Session) (its : List Session) (change : Session → Session) (i : ℕ) (one : Session) → has_id id it ≡ false → StandsAt id its change i one → StandsAt id (it ∷ its) change (suc i) one
stands_later id it its change i one other later = (
  ap (λ (b : Bool). if b then Some it else find (has_id id) its) other ∙ later.0,
  ap (λ (b : Bool). if b then change it ∷ its else it ∷ with_first (has_id id) change its) other ∙ ap (λ l. it ∷ l) later.1,
)

stands_there : (id : ℤ) (its : List Session) (i : ℕ) (d : Session) (change : Session → Session) → IsStrictlySortedBy session_cmp its → i < length its → int_cmp (get_or its i d).id id ≡ Equal → StandsAt id its change i (get_or its i d)
unfolding IsStrictlySortedBy
stands_there id [] i d change h lt e = absurd (omega arith)
stands_there id (it ∷ its) zero d change h lt e = stands_first id it its change ((Decides-int_eq it.id id).1 (exact_signed it.id id e))
stands_there id (it ∷ its) (suc i) d change h lt e =
    let same : (get_or its i d).id ≡ id = exact_signed (get_or its i d).id id e in
    let other : has_id id it ≡ false = subst (λ (number : ℤ). has_id number it ≡ false) same (apart it (get_or its i d) Less (above_at it its i d h.0 (omega arith)) is_less) in
    stands_later id it its change i (get_or its i d) other (stands_there id its i d change h.1 (omega arith) e)

-- a session that is there is not opened again
stays_there : (new : Session) (its : List Session) (i : ℕ) (d : Session) → IsStrictlySortedBy session_cmp its → i < length its → session_cmp (get_or its i d) new ≡ Equal → with_opened new its ≡ its
unfolding IsStrictlySortedBy
stays_there new [] i d h lt e = absurd (omega arith)
stays_there new (it ∷ its) zero d h lt e = ap (λ r. match_ordering r (new ∷ it ∷ its) (it ∷ its) (it ∷ with_opened new its)) (tied_back session_cmp_total it new e)
stays_there new (it ∷ its) (suc i) d h lt e =
    let less : session_cmp it new ≡ Less = sym (alike_right session_cmp_total (get_or its i d) new it e) ∙ above_at it its i d h.0 (omega arith) in
    ap (λ r. match_ordering r (new ∷ it ∷ its) (it ∷ its) (it ∷ with_opened new its)) (session_cmp_total.antisymm new it ∙ ap ordering_reverse less)
    ∙ ap (λ l. it ∷ l) (stays_there new its i d h.1 (omega arith) e)

none_there : (id : ℤ) (its : List Session) (change : Session → Session) (d : Session) → ((j : ℕ) → j < length its → has_id id (get_or its j d) ≡ false) → (find (has_id id) its ≡ None) × (with_first (has_id id) change its ≡ its)
none_there id [] change d none = (refl, refl)
none_there id (it ∷ its) change d none =
    let later = none_there id its change d (λ j lt. none (suc j) (omega arith)) in (
      ap (λ (b : Bool). if b then Some it else find (has_id id) its) (none 0 (omega arith)) ∙ later.0,
      ap (λ (b : Bool). if b then change it ∷ its else it ∷ with_first (has_id id) change its) (none 0 (omega arith)) ∙ ap (λ l. it ∷ l) later.1,
    )

-- a session with this number
abbrev with_number : ℤ → Session → Session
with_number id it = record it { id = id }

pub searched : (id : ℤ) (its : List Session) → IsStrictlySortedBy session_cmp its → (r : Result ℕ ℕ) → IsSearchInRange r (length its) → IsBinarySearchResult (λ it. int_cmp it.id id) its r → IsSessionPlace id its r
searched id its sorted (Ok at) in_range equal = λ change d. (
  (stands_there id its at d change sorted in_range (equal d)).0,
  (stands_there id its at d change sorted in_range (equal d)).1,
  λ new same. stays_there new its at d sorted in_range (subst (λ (number : ℤ). int_cmp (get_or its at d).id number ≡ Equal) (sym same) (equal d)),
)
searched id its sorted (Err at) in_range parted = λ change new. (
  (none_there id its change new (alone new)).0,
  (none_there id its change new (alone new)).1,
  λ same. goes_there new its at new in_range
      (λ j lt. subst (λ (number : ℤ). int_cmp (get_or its j new).id number ≡ Less) (sym same) (before new j new lt))
      (λ j le lt. subst (λ (number : ℤ). int_cmp (get_or its j new).id number ≡ Greater) (sym same) (behind new j new le lt)),
)
  where
    ends : (new : Session) → IsPartitionPoint (λ it. int_cmp it.id id ≡ Less) (λ it. int_cmp it.id id ≡ Greater) its at
    ends new = parted (rises its (with_number id new) new sorted)

    before : (new : Session) (j : ℕ) (d : Session) → j < at → int_cmp (get_or its j d).id id ≡ Less
    before new j d lt = (ends new).0 j d (omega arith) lt

    behind : (new : Session) (j : ℕ) (d : Session) → at ≤ j → j < length its → int_cmp (get_or its j d).id id ≡ Greater
    behind new j d le lt = (ends new).1 j d le lt

    alone : (new : Session) (j : ℕ) → j < length its → has_id id (get_or its j new) ≡ false
    alone new j lt = elim (ltb j at) as (λ b. ltb j at ≡ b → has_id id (get_or its j new) ≡ false) [
      | true ↦ λ e. apart (get_or its j new) (with_number id new) Less (before new j new (ltb-true j at e)) is_less
      | false ↦ λ e. apart (get_or its j new) (with_number id new) Greater (behind new j new (ltb-false j at e) lt) is_greater
    ] refl
