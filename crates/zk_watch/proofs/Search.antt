-- What a binary search finds among watches in order.
use Rattle.std.proofs.Common.{◌≡◌, ℕ, zero, suc, ◌<◌, ◌≤◌, Bool, true, false, ltb, ◌&&◌, ◌==◌, List, [], ◌∷◌, length, get_or, set, insert, Result, Ok, Err, refl, sym, ap, ap₂, ◌∙◌, arith, Less, Equal, Greater, is_eq}
use Rattle.std.proofs.lemmas.Bool.{false≢true, and_parts, eqb-true}
use Rattle.std.proofs.lemmas.Cmp.{tied_back, tied_itself, alike_right}
use Rattle.std.proofs.lemmas.Slice.Eq.{bytes_eq-Decides}
use Rattle.std.proofs.lemmas.List.Folds.{list_any_none}
use Rattle.std.proofs.lemmas.List.Sorted.{IsNonDecreasingBy-from_default}
use Rattle.std.specs.declared.cmp.Ordering.{Ordering}
use Rattle.std.specs.List.{AllByRecursion}
use Rattle.std.specs.List.Sorted.{IsSearchInRange, IsBinarySearchResult, IsNonDecreasingBy, IsPartitionPoint, IsStrictlySortedBy}
use Rattle.std.specs.Ordering.{match_ordering, ordering_index, ordering_reverse}
use Rattle.std.specs.Str.{bytes_eq}
use borrow.Author.Tests.{ltb-true, ltb-false}
use Rattle.zk_watch.proofs.Kept.{watch_cmp_total}
use Rattle.zk_watch.specs.declared.watch.Watch.{Watch}
use Rattle.zk_watch.specs.declared.watch.WatchKind.{WatchKind}
use Rattle.zk_watch.specs.declared.watch.WatchKind.TheVariants.{Content}
use Rattle.zk_watch.specs.Places.{IsPlace, place_cmp}
use Rattle.zk_watch.specs.Watching.{watch_cmp, first_watch, joined, put}

-- ---- along watches in order the answers rise

turned : (v w : Watch) (r : Ordering) → watch_cmp v w ≡ r → watch_cmp w v ≡ ordering_reverse r
turned v w r e = watch_cmp_total.antisymm w v ∙ ap ordering_reverse e

rising : (v w new : Watch) → watch_cmp v w ≡ Less → ordering_index (watch_cmp v new) ≤ ordering_index (watch_cmp w new)
rising v w new less = by_later _ refl
  where
    at_most : (r : Ordering) → ordering_index r ≤ 2
    at_most Less = omega arith
    at_most Equal = omega arith
    at_most Greater = omega arith

    by_later : (r : Ordering) → watch_cmp w new ≡ r → ordering_index (watch_cmp v new) ≤ ordering_index r
    by_later Less e = rw (watch_cmp_total.trans v w new less e) (omega arith)
    by_later Equal e = rw (sym (alike_right watch_cmp_total w new v e) ∙ less) (omega arith)
    by_later Greater e = at_most (watch_cmp v new)

above_at : (v : Watch) (ws : List Watch) (j : ℕ) (d : Watch) → AllByRecursion (λ w. watch_cmp v w ≡ Less) ws → j < length ws → watch_cmp v (get_or ws j d) ≡ Less
above_at v [] j d h lt = absurd (omega arith)
above_at v (w ∷ ws) zero d h lt = h.0
above_at v (w ∷ ws) (suc j) d h lt = above_at v ws j d h.1 (omega arith)

pub ordered_at : (ws : List Watch) (i j : ℕ) (d : Watch) → IsStrictlySortedBy watch_cmp ws → i < j → j < length ws → watch_cmp (get_or ws i d) (get_or ws j d) ≡ Less
unfolding IsStrictlySortedBy
ordered_at [] i j d h lt in_range = absurd (omega arith)
ordered_at (w ∷ ws) i zero d h lt in_range = absurd (omega arith)
ordered_at (w ∷ ws) zero (suc j) d h lt in_range = above_at w ws j d h.0 (omega arith)
ordered_at (w ∷ ws) (suc i) (suc j) d h lt in_range = ordered_at ws i j d h.1 (omega arith) (omega arith)

rises : (ws : List Watch) (new d : Watch) → IsStrictlySortedBy watch_cmp ws → IsNonDecreasingBy (λ w. ordering_index (watch_cmp w new)) ws
rises ws new d sorted = IsNonDecreasingBy-from_default (λ w. ordering_index (watch_cmp w new)) ws d (λ i j le lt. in_order i j le lt)
  where
    in_order : (i j : ℕ) → i ≤ j → j < length ws → ordering_index (watch_cmp (get_or ws i d) new) ≤ ordering_index (watch_cmp (get_or ws j d) new)
    in_order i j le lt = elim (ltb i j) as (λ b. ltb i j ≡ b → ordering_index (watch_cmp (get_or ws i d) new) ≤ ordering_index (watch_cmp (get_or ws j d) new)) [
      | true ↦ λ e. rising (get_or ws i d) (get_or ws j d) new (ordered_at ws i j d sorted (ltb-true i j e) lt)
      | false ↦ λ e. let same : i ≡ j = omega (arith, ltb-false i j e) in at_one same
    ] refl
      where
        at_one : i ≡ j → ordering_index (watch_cmp (get_or ws i d) new) ≤ ordering_index (watch_cmp (get_or ws j d) new)
        at_one same = rw same (omega arith)

-- ---- what is set goes where the search ends

goes_there : (new : Watch) (ws : List Watch) (i : ℕ) (d : Watch) → i ≤ length ws → ((j : ℕ) → j < i → watch_cmp (get_or ws j d) new ≡ Less) → ((j : ℕ) → i ≤ j → j < length ws → watch_cmp (get_or ws j d) new ≡ Greater) → put new ws ≡ insert ws i new
goes_there new [] zero d le before behind = refl
goes_there new [] (suc i) d le before behind = absurd (omega arith)
goes_there new (w ∷ ws) zero d le before behind = ap (λ r. match_ordering r (new ∷ w ∷ ws) (joined new w ∷ ws) (w ∷ put new ws)) (turned w new Greater (behind 0 (omega arith) (omega arith)))
goes_there new (w ∷ ws) (suc i) d le before behind =
    ap (λ r. match_ordering r (new ∷ w ∷ ws) (joined new w ∷ ws) (w ∷ put new ws)) (turned w new Less (before 0 (omega arith)))
    ∙ ap (λ l. w ∷ l) (goes_there new ws i d (omega arith) (λ j lt. before (suc j) (omega arith)) (λ j le lt. behind (suc j) (omega arith) (omega arith)))

stands_there : (new : Watch) (ws : List Watch) (i : ℕ) (d : Watch) → IsStrictlySortedBy watch_cmp ws → i < length ws → watch_cmp (get_or ws i d) new ≡ Equal → put new ws ≡ set ws i (joined new (get_or ws i d))
unfolding IsStrictlySortedBy
stands_there new [] i d h lt e = absurd (omega arith)
stands_there new (w ∷ ws) zero d h lt e = ap (λ r. match_ordering r (new ∷ w ∷ ws) (joined new w ∷ ws) (w ∷ put new ws)) (tied_back watch_cmp_total w new e)
stands_there new (w ∷ ws) (suc i) d h lt e =
    let less : watch_cmp w new ≡ Less = sym (alike_right watch_cmp_total (get_or ws i d) new w e) ∙ above_at w ws i d h.0 (omega arith) in
    ap (λ r. match_ordering r (new ∷ w ∷ ws) (joined new w ∷ ws) (w ∷ put new ws)) (turned w new Less less)
    ∙ ap (λ l. w ∷ l) (stands_there new ws i d h.1 (omega arith) e)

-- ---- a watch that ties with no other is the only one of its session at its path

apart : (session : ℕ) (path : List ℕ) (w : Watch) (r : Ordering) → place_cmp w.path w.session path session ≡ r → is_eq r ≡ false → (bytes_eq w.path path && w.session == session) ≡ false
apart session path w r e other = by_test _ refl
  where
    by_test : (b : Bool) → (bytes_eq w.path path && w.session == session) ≡ b → b ≡ false
    by_test false same = refl
    by_test true same =
        let paths : w.path ≡ path = (bytes_eq-Decides w.path path).0 (and_parts _ _ same).0 in
        let sessions : w.session ≡ session = eqb-true _ _ (and_parts _ _ same).1 in
        absurd (false≢true (sym other ∙ ap is_eq (sym e ∙ sym (ap₂ (λ p s. place_cmp w.path w.session p s) paths sessions) ∙ tied_itself watch_cmp_total w)))

pub searched : (session : ℕ) (path : List ℕ) (ws : List Watch) → IsStrictlySortedBy watch_cmp ws → (r : Result ℕ ℕ) → IsSearchInRange r (length ws) → IsBinarySearchResult (λ w. place_cmp w.path w.session path session) ws r → IsPlace session path ws r
searched session path ws sorted (Ok at) in_range equal = λ kind d. stands_there (first_watch session kind path) ws at d sorted in_range (equal d)
searched session path ws sorted (Err at) in_range parted = (
  λ kind. goes_there (first_watch session kind path) ws at (none kind) in_range (λ j lt. before j (none kind) lt) (λ j le lt. behind j (none kind) le lt),
  list_any_none _ ws (λ j d lt. alone j d lt),
)
  where
    none : WatchKind → Watch
    none kind = first_watch session kind path

    ends : IsPartitionPoint (λ w. place_cmp w.path w.session path session ≡ Less) (λ w. place_cmp w.path w.session path session ≡ Greater) ws at
    ends = parted (rises ws (none Content) (none Content) sorted)

    before : (j : ℕ) (d : Watch) → j < at → place_cmp (get_or ws j d).path (get_or ws j d).session path session ≡ Less
    before j d lt = ends.0 j d (omega arith) lt

    behind : (j : ℕ) (d : Watch) → at ≤ j → j < length ws → place_cmp (get_or ws j d).path (get_or ws j d).session path session ≡ Greater
    behind j d le lt = ends.1 j d le lt

    alone : (j : ℕ) (d : Watch) → j < length ws → (bytes_eq (get_or ws j d).path path && (get_or ws j d).session == session) ≡ false
    alone j d lt = elim (ltb j at) as (λ b. ltb j at ≡ b → (bytes_eq (get_or ws j d).path path && (get_or ws j d).session == session) ≡ false) [
      | true ↦ λ e. apart session path (get_or ws j d) Less (before j d (ltb-true j at e)) refl
      | false ↦ λ e. apart session path (get_or ws j d) Greater (behind j d (ltb-false j at e) lt) refl
    ] refl
