-- The watches at a path stand side by side.
use Rattle.std.proofs.Common.{◌≡◌, ℕ, zero, suc, ◌+◌, ◌-◌, ◌<◌, ◌≤◌, Bool, true, false, cond, ltb, ◌&&◌, ◌||◌, List, [], ◌∷◌, ◌++◌, length, get_or, take, drop, map, filter, append-nil, length-drop, refl, sym, ap, ap₂, ◌∙◌, arith, Less, Equal, Greater, is_eq, is_lt}
use Rattle.std.proofs.lemmas.Bool.{false≢true}
use Rattle.std.proofs.lemmas.Cmp.{nat_list_cmp_total}
use Rattle.std.proofs.lemmas.Map.Text.{is_eq-slice_cmp}
use Rattle.std.proofs.lemmas.List.{get_or-drop}
use Rattle.std.specs.declared.cmp.Ordering.{Ordering}
use Rattle.std.specs.Cmp.{upto}
use Rattle.std.specs.List.{list_any, slice_range}
use Rattle.std.specs.List.Sorted.{IsPartitionedBy, IsStrictlySortedBy}
use Rattle.std.specs.Ordering.{is_gt, is_le, nat_cmp, ordering_then}
use borrow.Author.Tests.{ltb-true, ltb-false}
use Rattle.zk_machine.specs.declared.change.Change.{Change}
use Rattle.zk_table.specs.States.{path_cmp}
use Rattle.zk_watch.proofs.Search.{ordered_at}
use Rattle.zk_watch.specs.declared.watch.Watch.{Watch}
use Rattle.zk_watch.specs.declared.watch.WatchKind.TheVariants.{Content}
use Rattle.zk_watch.specs.Places.{IsPartedBy, is_below, is_upto}
use Rattle.zk_watch.specs.Watching.{first_watch, watch_cmp, waits_for, is_at, is_hit, told, told_by}

-- ---- a part of a list, by a test

module _ {X : Type 0} (p : X → Bool) where
  filter_before : (xs : List X) (n : ℕ) → n ≤ length xs → ((k : ℕ) (d : X) → k < n → p (get_or xs k d) ≡ false) → filter p xs ≡ filter p (drop n xs)
  filter_before xs zero le fails = refl
  filter_before [] (suc n) le fails = absurd (omega arith)
  filter_before (x ∷ xs) (suc n) le fails =
      ap (λ b. cond b (x ∷ filter p xs) (filter p xs)) (fails 0 x (omega arith))
      ∙ filter_before xs n (omega arith) (λ k d lt. fails (suc k) d (omega arith))

  filter_there : (xs : List X) (n : ℕ) → n ≤ length xs → ((k : ℕ) (d : X) → k < n → p (get_or xs k d) ≡ true) → filter p xs ≡ take n xs ++ filter p (drop n xs)
  filter_there xs zero le passes = refl
  filter_there [] (suc n) le passes = absurd (omega arith)
  filter_there (x ∷ xs) (suc n) le passes =
      ap (λ b. cond b (x ∷ filter p xs) (filter p xs)) (passes 0 x (omega arith))
      ∙ ap (λ l. x ∷ l) (filter_there xs n (omega arith) (λ k d lt. passes (suc k) d (omega arith)))

  filter_behind : (xs : List X) → ((k : ℕ) (d : X) → k < length xs → p (get_or xs k d) ≡ false) → filter p xs ≡ []
  filter_behind [] fails = refl
  filter_behind (x ∷ xs) fails =
      ap (λ b. cond b (x ∷ filter p xs) (filter p xs)) (fails 0 x (omega arith))
      ∙ filter_behind xs (λ k d lt. fails (suc k) d (omega arith))

module _ {X : Type 0} (f : X → X) where
  map_before : (g : X → X) (xs : List X) (n : ℕ) → n ≤ length xs → ((k : ℕ) (d : X) → k < n → f (get_or xs k d) ≡ g (get_or xs k d)) → map f xs ≡ map g (take n xs) ++ map f (drop n xs)
  map_before g xs zero le same = refl
  map_before g [] (suc n) le same = absurd (omega arith)
  map_before g (x ∷ xs) (suc n) le same = ap₂ (λ y ys. y ∷ ys) (same 0 x (omega arith)) (map_before g xs n (omega arith) (λ k d lt. same (suc k) d (omega arith)))

  map_behind : (xs : List X) → ((k : ℕ) (d : X) → k < length xs → f (get_or xs k d) ≡ get_or xs k d) → map f xs ≡ xs
  map_behind [] same = refl
  map_behind (x ∷ xs) same = ap₂ (λ y ys. y ∷ ys) (same 0 x (omega arith)) (map_behind xs (λ k d lt. same (suc k) d (omega arith)))

-- ---- tests that fall along watches in order

lt_is : (r : Ordering) → is_lt r ≡ true → r ≡ Less
lt_is Less e = refl
lt_is Equal e = absurd (false≢true e)
lt_is Greater e = absurd (false≢true e)

le_not_gt : (r : Ordering) → is_le r ≡ true → is_gt r ≡ false
le_not_gt Less e = refl
le_not_gt Equal e = refl
le_not_gt Greater e = absurd (false≢true e)

not_gt_le : (r : Ordering) → is_gt r ≡ false → is_le r ≡ true
not_gt_le Less e = refl
not_gt_le Equal e = refl
not_gt_le Greater e = absurd (false≢true (sym e))

-- an earlier watch has no later path
not_later : (v w : Watch) → watch_cmp v w ≡ Less → is_gt (path_cmp v.path w.path) ≡ false
not_later v w less = by_path (path_cmp v.path w.path) less
  where
    by_path : (r : Ordering) → ordering_then r (nat_cmp v.session w.session) ≡ Less → is_gt r ≡ false
    by_path Less e = refl
    by_path Equal e = refl
    by_path Greater e = absurd (false≢true (ap is_lt e))

module _ (path : List ℕ) where
  below_before : (v w : Watch) → watch_cmp v w ≡ Less → is_below path w ≡ true → is_below path v ≡ true
  below_before v w less below = by_path (path_cmp v.path w.path) refl (not_later v w less)
    where
      by_path : (r : Ordering) → path_cmp v.path w.path ≡ r → is_gt r ≡ false → is_below path v ≡ true
      by_path Less e h = ap is_lt (nat_list_cmp_total.trans v.path w.path path e (lt_is _ below))
      by_path Equal e h = ap is_lt (nat_list_cmp_total.congr v.path w.path path e) ∙ below
      by_path Greater e h = absurd (false≢true (sym h))

  upto_before : (v w : Watch) → watch_cmp v w ≡ Less → is_upto path w ≡ true → is_upto path v ≡ true
  upto_before v w less reaches = not_gt_le _ (upto nat_list_cmp_total v.path w.path path (not_later v w less) (le_not_gt _ reaches))

parted : (test : Watch → Bool) → ((v w : Watch) → watch_cmp v w ≡ Less → test w ≡ true → test v ≡ true) → (ws : List Watch) → IsStrictlySortedBy watch_cmp ws → IsPartitionedBy test ws
parted test falls ws sorted i j d le lt passes = elim (ltb i j) as (λ b. ltb i j ≡ b → test (get_or ws i d) ≡ true) [
  | true ↦ λ e. falls (get_or ws i d) (get_or ws j d) (ordered_at ws i j d sorted (ltb-true i j e) lt) passes
  | false ↦ λ e. let same : i ≡ j = omega (arith, ltb-false i j e) in at_one same
] refl
  where
    at_one : i ≡ j → test (get_or ws i d) ≡ true
    at_one same = rw same passes

pub below_parted : (path : List ℕ) (ws : List Watch) → IsStrictlySortedBy watch_cmp ws → IsPartitionedBy (is_below path) ws
below_parted path = parted (is_below path) (below_before path)

pub upto_parted : (path : List ℕ) (ws : List Watch) → IsStrictlySortedBy watch_cmp ws → IsPartitionedBy (is_upto path) ws
upto_parted path = parted (is_upto path) (upto_before path)

-- ---- what lies between the two

at_is : (path : List ℕ) (w : Watch) (r : Ordering) → path_cmp w.path path ≡ r → is_at path w ≡ is_eq r
at_is path w r e = sym (is_eq-slice_cmp w.path path) ∙ ap is_eq e

lt_not_eq : (r : Ordering) → is_lt r ≡ true → is_eq r ≡ false
lt_not_eq Less e = refl
lt_not_eq Equal e = absurd (false≢true e)
lt_not_eq Greater e = refl

between_eq : (r : Ordering) → is_lt r ≡ false → is_le r ≡ true → is_eq r ≡ true
between_eq Less below reaches = absurd (false≢true (sym below))
between_eq Equal below reaches = refl
between_eq Greater below reaches = absurd (false≢true reaches)

behind_not_eq : (r : Ordering) → is_le r ≡ false → is_eq r ≡ false
behind_not_eq Less e = absurd (false≢true (sym e))
behind_not_eq Equal e = absurd (false≢true (sym e))
behind_not_eq Greater e = refl

lt_le : (r : Ordering) → is_lt r ≡ true → is_le r ≡ true
lt_le Less e = refl
lt_le Equal e = refl
lt_le Greater e = absurd (false≢true e)

module _ (path : List ℕ) (ws : List Watch) (from to : ℕ)
    (below : IsPartedBy (is_below path) ws from)
    (reaches : IsPartedBy (is_upto path) ws to)
    (from_within : from ≤ length ws) (to_within : to ≤ length ws) where
  d : Watch
  d = first_watch 0 Content path

  pub in_turn : from ≤ to
  in_turn = elim (ltb to from) as (λ b. ltb to from ≡ b → from ≤ to) [
    | true ↦ λ e.
        let lt : to < from = ltb-true to from e in
        absurd (false≢true (sym (reaches.1 to d (omega arith) (omega arith)) ∙ lt_le _ (below.0 to d (omega arith) lt)))
    | false ↦ λ e. ltb-false to from e
  ] refl

  off_before : (k : ℕ) (x : Watch) → k < from → is_at path (get_or ws k x) ≡ false
  off_before k x lt = at_is path (get_or ws k x) _ refl ∙ lt_not_eq _ (below.0 k x (omega arith) lt)

  on_within : from ≤ to → (k : ℕ) (x : Watch) → k < to - from → is_at path (get_or (drop from ws) k x) ≡ true
  on_within le k x lt =
      ap (is_at path) (get_or-drop from ws k x)
      ∙ at_is path (get_or ws (from + k) x) _ refl
      ∙ between_eq _ (below.1 (from + k) x (omega arith) (omega arith)) (reaches.0 (from + k) x (omega arith) (omega arith))

  off_behind : from ≤ to → (k : ℕ) (x : Watch) → k < length (drop (to - from) (drop from ws)) → is_at path (get_or (drop (to - from) (drop from ws)) k x) ≡ false
  off_behind le k x lt =
      ap (is_at path) (get_or-drop (to - from) (drop from ws) k x ∙ get_or-drop from ws (to - from + k) x)
      ∙ at_is path (get_or ws (from + (to - from + k)) x) _ refl
      ∙ behind_not_eq _ (reaches.1 (from + (to - from + k)) x (omega arith) (omega (arith, lt, length-drop (to - from) (drop from ws), length-drop from ws)))

  part_within : to - from ≤ length (drop from ws)
  part_within = omega (arith, length-drop from ws)

  pub between : slice_range ws from to ≡ filter (is_at path) ws
  between = sym (
      filter_before (is_at path) ws from from_within off_before
      ∙ filter_there (is_at path) (drop from ws) (to - from) part_within (on_within in_turn)
      ∙ ap (λ l. take (to - from) (drop from ws) ++ l) (filter_behind (is_at path) (drop (to - from) (drop from ws)) (off_behind in_turn))
      ∙ append-nil _)

  -- what is written over the part between is written over the watches at the path
  pub written : (on off : Watch → Watch) → ((w : Watch) → is_at path w ≡ true → off w ≡ on w) → ((w : Watch) → is_at path w ≡ false → off w ≡ w) → take from ws ++ (map on (slice_range ws from to) ++ drop (to - from) (drop from ws)) ≡ map off ws
  written on off at not_at = sym (
      map_before off (λ w. w) ws from from_within (λ k x lt. not_at _ (off_before k x lt))
      ∙ ap₂ (λ front back. front ++ back) (map_behind (λ w. w) (take from ws) (λ k x lt. refl)) (
      map_before off on (drop from ws) (to - from) part_within (λ k x lt. at _ (on_within in_turn k x lt))
      ∙ ap (λ l. map on (take (to - from) (drop from ws)) ++ l) (map_behind off (drop (to - from) (drop from ws)) (λ k x lt. not_at _ (off_behind in_turn k x lt)))))

-- ---- who hears of a change is among the watches at its path

pub hit_there : (c : Change) (ws : List Watch) → list_any (waits_for c.kind) (filter (is_at c.path) ws) ≡ list_any (is_hit c) ws
hit_there c [] = refl
hit_there c (w ∷ ws) = by_path (is_at c.path w) (hit_there c ws)
  where
    by_path : (b : Bool) → list_any (waits_for c.kind) (filter (is_at c.path) ws) ≡ list_any (is_hit c) ws → list_any (waits_for c.kind) (cond b (w ∷ filter (is_at c.path) ws) (filter (is_at c.path) ws)) ≡ ((b && waits_for c.kind w) || list_any (is_hit c) ws)
    by_path true rest = ap (λ b. waits_for c.kind w || b) rest
    by_path false rest = rest

pub told_there : (c : Change) (ws : List Watch) → map (told c) (filter (waits_for c.kind) (filter (is_at c.path) ws)) ≡ told_by c ws
told_there c ws = ap (map (told c)) (both ws)
  where
    both : (ws : List Watch) → filter (waits_for c.kind) (filter (is_at c.path) ws) ≡ filter (is_hit c) ws
    both [] = refl
    both (w ∷ ws) = by_path (is_at c.path w) (both ws)
      where
        by_path : (b : Bool) → filter (waits_for c.kind) (filter (is_at c.path) ws) ≡ filter (is_hit c) ws → filter (waits_for c.kind) (cond b (w ∷ filter (is_at c.path) ws) (filter (is_at c.path) ws)) ≡ cond (b && waits_for c.kind w) (w ∷ filter (is_hit c) ws) (filter (is_hit c) ws)
        by_path true rest = ap (λ l. cond (waits_for c.kind w) (w ∷ l) l) rest
        by_path false rest = rest
