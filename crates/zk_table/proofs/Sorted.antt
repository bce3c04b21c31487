-- Maps stored as sorted lists of entries.
use Rattle.std.proofs.Common.{◌≡◌, ℕ, zero, suc, ◌+◌, ◌<◌, ◌≤◌, Bool, true, false, cond, ◌&&◌, T, List, [], ◌∷◌, length, get_or, drop, set, insert, remove, Option, Some, None, Result, Ok, Err, MatchResult, refl, sym, subst, ap, ◌∙◌, IsTrue, arith, Less, Equal, Greater, is_eq, is_lt, suc-le-suc}
use Rattle.std.proofs.lemmas.Bool.{and_parts, and_from, false≢true}
use Rattle.std.proofs.lemmas.Result.{MatchResult-at_ok, MatchResult-at_err}
use Rattle.std.proofs.lemmas.Cmp.{tied_back}
use Rattle.std.proofs.lemmas.List.{at_drop_more}
use Rattle.std.specs.declared.cmp.Ordering.{Ordering}
use Rattle.std.specs.Ordering.{eq_by_cmp, match_ordering}
use Rattle.std.specs.Cmp.{IsTotalOrder}
use Rattle.std.specs.FinMap.{FinMap, IsAntisymmetric, entries, entries_sorted, from_sorted, is_sorted, find, put, get, get-entries, get_tied, get-remove, get-from_sorted, len-entries, entries-insert, entries-from_sorted, same_entries_map, same_map, empty_of_len}
use Rattle.std.specs.FinMap as finite
use Rattle.zk_table.specs.Places.{position_of, one_later}

-- ---- a map and the list of its entries

pub from_true : (b : Bool) → IsTrue b → T b
from_true b e = subst T (sym e) tt

pub to_true : (b : Bool) → T b → IsTrue b
to_true true h = refl
to_true false h = absurd h

-- the stored list has the map's entries
pub entries_of_kept : {K X : Type 0} (R : K → K → Ordering) (es : List (K × X)) (m : FinMap R X) → IsTrue (is_sorted R es) → from_sorted {R = R} es ≡ m → es ≡ entries m
entries_of_kept R es m sorted view = sym (entries-from_sorted R es (from_true _ sorted)) ∙ ap entries view

-- a list with a map's entries is sorted, and is that map
pub sorted_from_entries : {K X : Type 0} (R : K → K → Ordering) (es : List (K × X)) (m : FinMap R X) → es ≡ entries m → IsTrue (is_sorted R es)
sorted_from_entries R es m e = to_true _ (subst (λ l. T (is_sorted R l)) (sym e) (entries_sorted m))

pub kept_from_entries : {K X : Type 0} (R : K → K → Ordering) (es : List (K × X)) (m : FinMap R X) → es ≡ entries m → from_sorted {R = R} es ≡ m
kept_from_entries R es m e = same_entries_map _ m (entries-from_sorted R es (from_true _ (sorted_from_entries R es m e)) ∙ e)

pub nothing_kept : {K X : Type 0} (R : K → K → Ordering) → from_sorted {R = R} [] ≡ finite.empty {X = X}
nothing_kept R = empty_of_len _ (len-entries _ ∙ ap length (entries-from_sorted R [] tt))

-- ---- the meaning of a position

-- a position in the rest of a list, as one in the whole list
abbrev pub later_by : ℕ → Result ℕ ℕ → Result ℕ ℕ
later_by n (Ok at) = Ok (n + at)
later_by n (Err at) = Err (n + at)

one_further : (n : ℕ) (r : Result ℕ ℕ) → later_by n (one_later r) ≡ later_by (n + 1) r
one_further n (Ok at) = ap Ok (omega arith)
one_further n (Err at) = ap Err (omega arith)

-- a scan of the list, up to a position
module _ {K X : Type 0} (R : K → K → Ordering) (k : K) (es : List (K × X)) (n at : ℕ) (d : K × X) (same : n ≡ at) (below : at < length es) where
  stepped : (r : Ordering) → R k (get_or es at d).0 ≡ r → position_of R k es ≡ later_by n (position_of R k (drop n es)) → position_of R k es ≡ later_by n (match_ordering r (Err 0) (Ok 0) (one_later (position_of R k (drop (n + 1) es))))
  stepped r p h =
      h
      ∙ at_drop_more (λ l. later_by n (position_of R k l)) es n d (subst (λ i. i < length es) (sym same) below)
      ∙ ap (λ i. later_by n (match_ordering (R k (get_or es i d).0) (Err 0) (Ok 0) (one_later (position_of R k (drop (n + 1) es))))) same
      ∙ ap (λ o. later_by n (match_ordering o (Err 0) (Ok 0) (one_later (position_of R k (drop (n + 1) es))))) p

  pub walked_before : R k (get_or es at d).0 ≡ Less → position_of R k es ≡ later_by n (position_of R k (drop n es)) → position_of R k es ≡ Err n
  walked_before p h = stepped Less p h ∙ ap Err (omega arith)

  pub walked_to : R k (get_or es at d).0 ≡ Equal → position_of R k es ≡ later_by n (position_of R k (drop n es)) → position_of R k es ≡ Ok n
  walked_to p h = stepped Equal p h ∙ ap Ok (omega arith)

  pub walked_past : R k (get_or es at d).0 ≡ Greater → position_of R k es ≡ later_by n (position_of R k (drop n es)) → position_of R k es ≡ later_by (n + 1) (position_of R k (drop (n + 1) es))
  walked_past p h = stepped Greater p h ∙ one_further n (position_of R k (drop (n + 1) es))

ordered : (r : Ordering) → is_lt r ≡ true → r ≡ Less
ordered Less e = refl
ordered Equal e = absurd (false≢true e)
ordered Greater e = absurd (false≢true e)

tied : (r : Ordering) → is_eq r ≡ true → r ≡ Equal
tied Less e = absurd (false≢true e)
tied Equal e = refl
tied Greater e = absurd (false≢true e)

-- two keys that are equal to a third are equal
joined : {K : Type 0} {R : K → K → Ordering} → IsTotalOrder R → (q x y : K) → eq_by_cmp R q x ≡ true → eq_by_cmp R q y ≡ true → R x y ≡ Equal
joined o q x y s t = sym (o.congr q x y (tied _ s)) ∙ tied _ t

at_later : (r : Result ℕ ℕ) (P Q : ℕ → Type 0) → MatchResult r (λ i. P (suc i)) (λ i. Q (suc i)) → MatchResult (one_later r) P Q
at_later (Ok i) P Q h = h
at_later (Err i) P Q h = h

match_weaker : (r : Result ℕ ℕ) (P P' Q Q' : ℕ → Type 0) → ((i : ℕ) → P i → P' i) → ((i : ℕ) → Q i → Q' i) → MatchResult r P Q → MatchResult r P' Q'
match_weaker (Ok i) P P' Q Q' p q h = p i h
match_weaker (Err i) P P' Q Q' p q h = q i h

module _ {K X : Type 0} (R : K → K → Ordering) where
  -- the entry at this position has the key
  pub record StandsAt (k : K) (es : List (K × X)) (i : ℕ) : Type 0 where
    pub within : i < length es
    pub found : (d : K × X) → find R k es ≡ Some (get_or es i d).1
    pub tie : (d : K × X) → R k (get_or es i d).0 ≡ Equal
    pub put_there : (v : X) (d : K × X) → put R k v es ≡ set es i ((get_or es i d).0, v)

  -- no entry has the key, and it would be inserted at this position
  pub record GoesAt (k : K) (es : List (K × X)) (i : ℕ) : Type 0 where
    pub within : i ≤ length es
    pub put_there : (v : X) → put R k v es ≡ insert es i (k, v)

  stands_first : (k : K) (e : K × X) (es : List (K × X)) → R k e.0 ≡ Equal → StandsAt k (e ∷ es) 0
  stands_first k e es p = record {
    within = omega arith;
    found = λ d. ap (λ r. cond (is_eq r) (Some e.1) (find R k es)) p;
    tie = λ d. p;
    put_there = λ v d. ap (λ r. match_ordering r ((k, v) ∷ e ∷ es) ((e.0, v) ∷ es) (e ∷ put R k v es)) p;
  }

  stands_later : (k : K) (e : K × X) (es : List (K × X)) (i : ℕ) → R k e.0 ≡ Greater → StandsAt k es i → StandsAt k (e ∷ es) (suc i)
  stands_later k e es i p h = record {
    within = suc-le-suc h.within;
    found = λ d. ap (λ r. cond (is_eq r) (Some e.1) (find R k es)) p ∙ h.found d;
    tie = λ d. h.tie d;
    put_there = λ v d. ap (λ r. match_ordering r ((k, v) ∷ e ∷ es) ((e.0, v) ∷ es) (e ∷ put R k v es)) p ∙ ap (λ l. e ∷ l) (h.put_there v d);
  }

  goes_first : (k : K) (e : K × X) (es : List (K × X)) → R k e.0 ≡ Less → GoesAt k (e ∷ es) 0
  goes_first k e es p = record {
    within = omega arith;
    put_there = λ v. ap (λ r. match_ordering r ((k, v) ∷ e ∷ es) ((e.0, v) ∷ es) (e ∷ put R k v es)) p;
  }

  goes_later : (k : K) (e : K × X) (es : List (K × X)) (i : ℕ) → R k e.0 ≡ Greater → GoesAt k es i → GoesAt k (e ∷ es) (suc i)
  goes_later k e es i p h = record {
    within = suc-le-suc h.within;
    put_there = λ v. ap (λ r. match_ordering r ((k, v) ∷ e ∷ es) ((e.0, v) ∷ es) (e ∷ put R k v es)) p ∙ ap (λ l. e ∷ l) (h.put_there v);
  }

  pub place_means : (k : K) (es : List (K × X)) → MatchResult (position_of R k es) (StandsAt k es) (GoesAt k es)
  place_means k [] = record { within = omega arith; put_there = λ v. refl }
  place_means k (e ∷ es) =
      let rest = place_means k es in
      elim (R k e.0) as (λ r. R k e.0 ≡ r → MatchResult (match_ordering r (Err 0) (Ok 0) (one_later (position_of R k es))) (StandsAt k (e ∷ es)) (GoesAt k (e ∷ es))) [
        | Less ↦ λ p. goes_first k e es p
        | Equal ↦ λ p. stands_first k e es p
        | Greater ↦ λ p. at_later (position_of R k es) (StandsAt k (e ∷ es)) (GoesAt k (e ∷ es)) (match_weaker (position_of R k es) _ _ _ _ (λ i h. stands_later k e es i p h) (λ i h. goes_later k e es i p h) rest)
      ] refl

  pub stands_at : (k : K) (es : List (K × X)) (i : ℕ) → position_of R k es ≡ Ok i → StandsAt k es i
  stands_at k es i e = MatchResult-at_ok (StandsAt k es) (GoesAt k es) i e (place_means k es)

  pub goes_at : (k : K) (es : List (K × X)) (i : ℕ) → position_of R k es ≡ Err i → GoesAt k es i
  goes_at k es i e = MatchResult-at_err (StandsAt k es) (GoesAt k es) i e (place_means k es)

  -- ---- a list without one of its entries

  -- whether a key is less than all keys of a list
  abbrev below_all : K → List (K × X) → Bool
  below_all x [] = true
  below_all x (e ∷ es) = is_lt (R x e.0) && below_all x es

  below_removed : (x : K) (es : List (K × X)) (i : ℕ) → below_all x es ≡ true → below_all x (remove es i) ≡ true
  below_removed x [] zero h = refl
  below_removed x [] (suc i) h = refl
  below_removed x (e ∷ es) zero h = (and_parts _ _ h).1
  below_removed x (e ∷ es) (suc i) h = and_from _ _ (and_parts _ _ h).0 (below_removed x es i (and_parts _ _ h).1)

  pub sorted_removed : (es : List (K × X)) (i : ℕ) → IsTrue (is_sorted R es) → IsTrue (is_sorted R (remove es i))
  sorted_removed [] zero h = refl
  sorted_removed [] (suc i) h = refl
  sorted_removed (e ∷ es) zero h = (and_parts _ _ h).1
  sorted_removed (e ∷ es) (suc i) h = and_from _ _ (below_removed e.0 es i (and_parts _ _ h).0) (sorted_removed es i (and_parts _ _ h).1)

  find_below : (q : K) (es : List (K × X)) → below_all q es ≡ true → find R q es ≡ None
  find_below q [] h = refl
  find_below q (e ∷ es) h = ap (λ r. cond (is_eq r) (Some e.1) (find R q es)) (ordered _ (and_parts _ _ h).0) ∙ find_below q es (and_parts _ _ h).1

  module _ (o : IsTotalOrder R) where
    below_tied : (x y : K) (es : List (K × X)) → R x y ≡ Equal → below_all y es ≡ true → below_all x es ≡ true
    below_tied x y [] t h = refl
    below_tied x y (e ∷ es) t h = and_from _ _ (ap is_lt (o.congr x y e.0 t) ∙ (and_parts _ _ h).0) (below_tied x y es t (and_parts _ _ h).1)

    below_less : (x y : K) (es : List (K × X)) → R x y ≡ Less → below_all y es ≡ true → below_all x es ≡ true
    below_less x y [] t h = refl
    below_less x y (e ∷ es) t h = and_from _ _ (ap is_lt (o.trans x y e.0 t (ordered _ (and_parts _ _ h).0))) (below_less x y es t (and_parts _ _ h).1)

    -- an entry before the one that is looked for
    passed_over : (q k : K) (e : K × X) (f : Option X) → R k e.0 ≡ Greater → cond (eq_by_cmp R q e.0) (Some e.1) (cond (eq_by_cmp R q k) None f) ≡ cond (eq_by_cmp R q k) None (cond (eq_by_cmp R q e.0) (Some e.1) f)
    passed_over q k e f p =
        elim (eq_by_cmp R q e.0) as (λ b. eq_by_cmp R q e.0 ≡ b → cond b (Some e.1) (cond (eq_by_cmp R q k) None f) ≡ cond (eq_by_cmp R q k) None (cond b (Some e.1) f)) [
          | true ↦ λ s. elim (eq_by_cmp R q k) as (λ b. eq_by_cmp R q k ≡ b → Some e.1 ≡ cond b None (Some e.1)) [
            | true ↦ λ t. absurd (false≢true (ap is_eq (sym p ∙ joined o q k e.0 t s)))
            | false ↦ λ t. refl
          ] refl
          | false ↦ λ s. refl
        ] refl

    find_removed_first : (q k : K) (e : K × X) (es : List (K × X)) → R k e.0 ≡ Equal → below_all e.0 es ≡ true → find R q es ≡ cond (eq_by_cmp R q k) None (find R q (e ∷ es))
    find_removed_first q k e es p h =
        elim (eq_by_cmp R q k) as (λ b. eq_by_cmp R q k ≡ b → find R q es ≡ cond b None (find R q (e ∷ es))) [
          | true ↦ λ s. find_below q es (below_tied q k es (tied _ s) (below_tied k e.0 es p h))
          | false ↦ λ s. elim (eq_by_cmp R q e.0) as (λ b. eq_by_cmp R q e.0 ≡ b → find R q es ≡ cond b (Some e.1) (find R q es)) [
            | true ↦ λ t. absurd (false≢true (sym s ∙ ap is_eq (o.congr q e.0 k (tied _ t) ∙ tied_back o k e.0 p)))
            | false ↦ λ t. refl
          ] refl
        ] refl

    -- a look-up in the list without the entry of a key, for any other key
    pub find_removed : (k q : K) (es : List (K × X)) → IsTrue (is_sorted R es) → MatchResult (position_of R k es) (λ i. find R q (remove es i) ≡ cond (eq_by_cmp R q k) None (find R q es)) (λ _. Unit {0})
    find_removed k q [] h = tt
    find_removed k q (e ∷ es) h =
        let rest = find_removed k q es (and_parts _ _ h).1 in
        let P : ℕ → Type 0 = λ i. find R q (remove (e ∷ es) i) ≡ cond (eq_by_cmp R q k) None (find R q (e ∷ es)) in
        elim (R k e.0) as (λ r. R k e.0 ≡ r → MatchResult (match_ordering r (Err 0) (Ok 0) (one_later (position_of R k es))) P (λ _. Unit {0})) [
          | Less ↦ λ p. tt
          | Equal ↦ λ p. find_removed_first q k e es p (and_parts _ _ h).0
          | Greater ↦ λ p. at_later (position_of R k es) P (λ _. Unit {0}) (match_weaker (position_of R k es) _ _ _ _ (λ i f. ap (cond (eq_by_cmp R q e.0) (Some e.1)) f ∙ passed_over q k e (find R q es) p) (λ i _. tt) rest)
        ] refl

    -- no entry has a key whose position is one of insertion
    pub find_missing : (k : K) (es : List (K × X)) → IsTrue (is_sorted R es) → MatchResult (position_of R k es) (λ _. Unit {0}) (λ _. find R k es ≡ None)
    find_missing k [] h = refl
    find_missing k (e ∷ es) h =
        let rest = find_missing k es (and_parts _ _ h).1 in
        let found : Ordering → Option X = λ r. cond (is_eq r) (Some e.1) (find R k es) in
        elim (R k e.0) as (λ r. R k e.0 ≡ r → MatchResult (match_ordering r (Err 0) (Ok 0) (one_later (position_of R k es))) (λ _. Unit {0}) (λ _. find R k (e ∷ es) ≡ None)) [
          | Less ↦ λ p. ap found p ∙ find_below k es (below_less k e.0 es p (and_parts _ _ h).0)
          | Equal ↦ λ p. tt
          | Greater ↦ λ p. at_later (position_of R k es) _ _ (match_weaker (position_of R k es) _ _ _ _ (λ i _. tt) (λ i f. ap found p ∙ f) rest)
        ] refl

-- ---- the map after a change at a position

-- the position that was looked up in a borrowed list
pub placed : {K X : Type 0} (R : K → K → Ordering) (k : K) (lent es : List (K × X)) (r place : Result ℕ ℕ) → lent ≡ es → r ≡ position_of R k lent → r ≡ place → position_of R k es ≡ place
placed R k lent es r place a b c = ap (position_of R k) (sym a) ∙ sym b ∙ c

module _ {K X : Type 0} {R : K → K → Ordering} (o : IsTotalOrder R) where
  pub found_at_place : (es : List (K × X)) (m : FinMap R X) (k : K) (i : ℕ) (d : K × X) → es ≡ entries m → position_of R k es ≡ Ok i → get m k ≡ Some (get_or es i d).1
  found_at_place es m k i d e p = get-entries m k ∙ ap (find R k) (sym e) ∙ (stands_at R k es i p).found d

  pub missing_at_place : (es : List (K × X)) (m : FinMap R X) (k : K) (i : ℕ) → es ≡ entries m → position_of R k es ≡ Err i → get m k ≡ None
  missing_at_place es m k i e p =
      get-entries m k ∙ ap (find R k) (sym e) ∙ MatchResult-at_err (λ _. Unit {0}) (λ _. find R k es ≡ None) i p (find_missing R o k es (sorted_from_entries R es m e))

  -- a new value at the position of a key
  pub entries_set : (es : List (K × X)) (m : FinMap R X) (k : K) (v : X) (i : ℕ) (d : K × X) → es ≡ entries m → position_of R k es ≡ Ok i → set es i ((get_or es i d).0, v) ≡ entries (finite.insert m k v)
  entries_set es m k v i d e p = sym ((stands_at R k es i p).put_there v d) ∙ ap (put R k v) e ∙ sym (entries-insert o m k v)

  -- a new entry at its position of insertion
  pub entries_inserted : (es : List (K × X)) (m : FinMap R X) (k : K) (v : X) (i : ℕ) → es ≡ entries m → position_of R k es ≡ Err i → insert es i (k, v) ≡ entries (finite.insert m k v)
  entries_inserted es m k v i e p = sym ((goes_at R k es i p).put_there v) ∙ ap (put R k v) e ∙ sym (entries-insert o m k v)

  pub kept_removed : IsAntisymmetric R → (es : List (K × X)) (m : FinMap R X) (k : K) (i : ℕ) → es ≡ entries m → position_of R k es ≡ Ok i → from_sorted {R = R} (remove es i) ≡ finite.remove m k
  kept_removed same es m k i e p =
      let sorted = sorted_from_entries R es m e in
      same_map o same _ _ (λ q. get-from_sorted R (remove es i) q (from_true _ (sorted_removed R es i sorted))
      ∙ MatchResult-at_ok (λ i. find R q (remove es i) ≡ cond (eq_by_cmp R q k) None (find R q es)) (λ _. Unit {0}) i p (find_removed R o k q es sorted)
      ∙ ap (λ l. cond (eq_by_cmp R q k) None (find R q l)) e
      ∙ ap (cond (eq_by_cmp R q k) None) (sym (get-entries m q))
      ∙ sym (get-remove o m k q))

  -- removing a missing key changes nothing
  pub removed_missing : IsAntisymmetric R → (m : FinMap R X) (k : K) → get m k ≡ None → m ≡ finite.remove m k
  removed_missing same m k none = same_map o same _ _ (λ q. unchanged q ∙ sym (get-remove o m k q))
    where
      unchanged : (q : K) → get m q ≡ cond (eq_by_cmp R q k) None (get m q)
      unchanged q = elim (eq_by_cmp R q k) as (λ b. eq_by_cmp R q k ≡ b → get m q ≡ cond b None (get m q)) [ true ↦ λ s. sym (get_tied o m q k (tied _ s)) ∙ none | false ↦ λ s. refl ] refl
