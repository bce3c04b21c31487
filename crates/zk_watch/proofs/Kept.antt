-- What keeps watches in order, each waiting for something.
use Rattle.std.proofs.Common.{◌≡◌, ℕ, Bool, true, false, ◌||◌, if◌then◌else◌, List, [], ◌∷◌, map, filter, refl, ap, ◌∙◌, Less, Equal, Greater}
use Rattle.std.proofs.lemmas.Bool.{cond_both, and_parts, and_from}
use Rattle.std.proofs.lemmas.Cmp.{nat_cmp_total, nat_list_cmp_total, on_total, then_total}
use Rattle.std.proofs.lemmas.List.Kept.{IsStrictlySortedBy-filter}
use Rattle.std.specs.declared.cmp.Ordering.{Ordering}
use Rattle.std.specs.Cmp.{IsTotalOrder}
use Rattle.std.specs.List.{AllByRecursion, list_all}
use Rattle.std.specs.List.Sorted.{IsStrictlySortedBy}
use Rattle.std.specs.Ordering.{match_ordering, ordering_reverse}
use Rattle.std.specs.Str.{bytes_eq}
use Rattle.zk_machine.specs.declared.change.Change.{Change}
use Rattle.zk_watch.specs.declared.watch.Watch.{Watch}
use Rattle.zk_watch.specs.declared.watch.WatchKind.{WatchKind}
use Rattle.zk_watch.specs.declared.watch.WatchKind.TheVariants.{Content, Children}
use Rattle.zk_watch.specs.Watching.{IsWatchList, watch_cmp, is_live, spent, spent_by, after_change, first_watch, put, with_watch}

pub watch_cmp_total : IsTotalOrder watch_cmp
watch_cmp_total = then_total (on_total (λ w. w.path) nat_list_cmp_total) (on_total (λ w. w.session) nat_cmp_total)

pub by_ordering : {X : Type 0} (r : Ordering) (x y z : X) (P : X → Type 0) → (r ≡ Less → P x) → (r ≡ Equal → P y) → (r ≡ Greater → P z) → P (match_ordering r x y z)
by_ordering Less x y z P less equal greater = less refl
by_ordering Equal x y z P less equal greater = equal refl
by_ordering Greater x y z P less equal greater = greater refl

pub none_kept : IsWatchList []
unfolding IsStrictlySortedBy
none_kept = record { ordered = tt; live = refl }

-- ---- a part of the watches

all_filtered : {X : Type 0} (p q : X → Bool) (xs : List X) → list_all q xs ≡ true → list_all q (filter p xs) ≡ true
all_filtered p q [] h = refl
all_filtered p q (x ∷ xs) h =
    let rest = all_filtered p q xs (and_parts _ _ h).1 in
    cond_both (p x) (x ∷ filter p xs) (filter p xs) (λ l. list_all q l ≡ true) (λ _. and_from _ _ (and_parts _ _ h).0 rest) (λ _. rest)

pub filter_kept : (p : Watch → Bool) (ws : List Watch) → IsWatchList ws → IsWatchList (filter p ws)
filter_kept p ws h = record { ordered = IsStrictlySortedBy-filter watch_cmp p ws h.ordered; live = all_filtered p is_live ws h.live }

-- ---- after changes

all_pass : {X : Type 0} (p : X → Bool) (xs : List X) → list_all p (filter p xs) ≡ true
all_pass p [] = refl
all_pass p (x ∷ xs) = cond_both (p x) (x ∷ filter p xs) (filter p xs) (λ l. list_all p l ≡ true) (λ passes. and_from _ _ passes (all_pass p xs)) (λ _. all_pass p xs)

-- a change leaves the places of watches
spent_cmp : (c : Change) (v w : Watch) → watch_cmp (spent_by c v) (spent_by c w) ≡ watch_cmp v w
spent_cmp c v w = by_paths (bytes_eq v.path c.path) (bytes_eq w.path c.path)
  where
    by_paths : (a b : Bool) → watch_cmp (if a then spent c.kind v else v) (if b then spent c.kind w else w) ≡ watch_cmp v w
    by_paths true true = refl
    by_paths true false = refl
    by_paths false true = refl
    by_paths false false = refl

above_spent : (c : Change) (v : Watch) (ws : List Watch) → AllByRecursion (λ w. watch_cmp v w ≡ Less) ws → AllByRecursion (λ w. watch_cmp (spent_by c v) w ≡ Less) (map (spent_by c) ws)
above_spent c v [] h = tt
above_spent c v (w ∷ ws) h = (spent_cmp c v w ∙ h.0, above_spent c v ws h.1)

pub ordered_spent : (c : Change) (ws : List Watch) → IsStrictlySortedBy watch_cmp ws → IsStrictlySortedBy watch_cmp (map (spent_by c) ws)
unfolding IsStrictlySortedBy
ordered_spent c [] h = h
ordered_spent c (w ∷ ws) h = (above_spent c w ws h.0, ordered_spent c ws h.1)

pub live_kept : (ws : List Watch) → IsStrictlySortedBy watch_cmp ws → IsWatchList (filter is_live ws)
live_kept ws ordered = record { ordered = IsStrictlySortedBy-filter watch_cmp is_live ws ordered; live = all_pass is_live ws }

pub change_kept : (c : Change) (ws : List Watch) → IsWatchList ws → IsWatchList (after_change c ws)
change_kept c ws h = live_kept (map (spent_by c) ws) (ordered_spent c ws h.ordered)

-- ---- with one more watch

above_put : (v new : Watch) (ws : List Watch) → watch_cmp v new ≡ Less → AllByRecursion (λ w. watch_cmp v w ≡ Less) ws → AllByRecursion (λ w. watch_cmp v w ≡ Less) (put new ws)
above_put v new [] less h = (less, tt)
above_put v new (w ∷ ws) less h =
    by_ordering (watch_cmp new w) _ _ _ (AllByRecursion (λ x. watch_cmp v x ≡ Less))
    (λ _. (less, h))
    (λ _. h)
    (λ _. (h.0, above_put v new ws less h.1))

above_all : (v w : Watch) (ws : List Watch) → watch_cmp v w ≡ Less → AllByRecursion (λ x. watch_cmp w x ≡ Less) ws → AllByRecursion (λ x. watch_cmp v x ≡ Less) ws
above_all v w [] less h = tt
above_all v w (x ∷ xs) less h = (watch_cmp_total.trans v w x less h.0, above_all v w xs less h.1)

ordered_put : (new : Watch) (ws : List Watch) → IsStrictlySortedBy watch_cmp ws → IsStrictlySortedBy watch_cmp (put new ws)
unfolding IsStrictlySortedBy
ordered_put new [] h = (tt, tt)
ordered_put new (w ∷ ws) h =
    by_ordering (watch_cmp new w) _ _ _ (IsStrictlySortedBy watch_cmp)
    (λ less. ((less, above_all new w ws less h.0), h))
    (λ _. h)
    (λ greater. (above_put w new ws (watch_cmp_total.antisymm w new ∙ ap ordering_reverse greater) h.0, ordered_put new ws h.1))

still_live : (a b c d : Bool) → (b || d) ≡ true → (a || b || (c || d)) ≡ true
still_live true b c d h = refl
still_live false true c d h = refl
still_live false false true d h = refl
still_live false false false d h = h

live_put : (new : Watch) (ws : List Watch) → is_live new ≡ true → list_all is_live ws ≡ true → list_all is_live (put new ws) ≡ true
live_put new [] live h = and_from _ _ live refl
live_put new (w ∷ ws) live h =
    by_ordering (watch_cmp new w) _ _ _ (λ l. list_all is_live l ≡ true)
    (λ _. and_from _ _ live h)
    (λ _. and_from _ _ (still_live new.content w.content new.children w.children (and_parts _ _ h).0) (and_parts _ _ h).1)
    (λ _. and_from _ _ (and_parts _ _ h).0 (live_put new ws live (and_parts _ _ h).1))

live_first : (session : ℕ) (kind : WatchKind) (path : List ℕ) → is_live (first_watch session kind path) ≡ true
live_first session Content path = refl
live_first session Children path = refl

pub set_kept : (session : ℕ) (kind : WatchKind) (path : List ℕ) (ws : List Watch) → IsWatchList ws → IsWatchList (with_watch session kind path ws)
set_kept session kind path ws h = record {
  ordered = ordered_put (first_watch session kind path) ws h.ordered;
  live = live_put (first_watch session kind path) ws (live_first session kind path) h.live;
}
