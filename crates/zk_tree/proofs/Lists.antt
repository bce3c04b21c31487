-- Sorted lists of paths, and the maps with these keys.
use Rattle.std.proofs.Common.{◌≡◌, ℕ, Bool, true, false, cond, ◌||◌, ◌&&◌, List, [], ◌∷◌, ◌++◌, map, filter, length, is_some, String, refl, sym, ap, ◌∙◌, is_eq, is_lt, Less, Equal, Greater, IsTrue, suc, arith}
use Rattle.std.proofs.lemmas.Bool.{false≢true, and_parts, and_from}
use Rattle.std.proofs.lemmas.Cmp.{nat_list_cmp_total, eq_by_cmp_equiv}
use Rattle.std.proofs.lemmas.List.Kept.{IsStrictlySortedBy-filter}
use Rattle.std.specs.BTreeSet.{BTreeSet}
use Rattle.std.specs.declared.cmp.Ordering.{Ordering}
use Rattle.std.specs.FinMap as finite
use Rattle.std.specs.FinMap.{FinMap, is_sorted}
use Rattle.std.specs.List.{list_any, AllByRecursion}
use Rattle.std.specs.List.Sorted.{IsStrictlySortedBy}
use Rattle.std.specs.Ordering.{eq_by_cmp}
use Rattle.std.specs.String.{string_bytes, string_cmp}
use Rattle.zk_table.proofs.Sorted.{to_true, from_true}
use Rattle.zk_table.specs.States.{NodeMap, path_cmp, is_child_of, children_of}
use Rattle.zk_tree.proofs.Kept.{path_cmp-IsAntisymmetric, same_members, contains-set_of, tied}
use Rattle.zk_tree.specs.Views.{PathKeys, set_of}

pub same_is : (q k : List ℕ) → eq_by_cmp path_cmp q k ≡ true → q ≡ k
same_is q k e = path_cmp-IsAntisymmetric q k (tied _ e)

pub same_itself : (q : List ℕ) → eq_by_cmp path_cmp q q ≡ true
same_itself q = (eq_by_cmp_equiv nat_list_cmp_total).refl q

-- ---- the keys of a map are sorted

less : (r : Ordering) → is_lt r ≡ true → r ≡ Less
less Less e = refl
less Equal e = absurd (false≢true e)
less Greater e = absurd (false≢true e)

abbrev below_all : {X : Type 0} → List ℕ → List (List ℕ × X) → Bool
below_all x [] = true
below_all x (e ∷ es) = is_lt (path_cmp x e.0) && below_all x es

all_below : {X : Type 0} (x : List ℕ) (es : List (List ℕ × X)) → below_all x es ≡ true → AllByRecursion (λ y. path_cmp x y ≡ Less) (map (λ e. e.0) es)
all_below x [] h = tt
all_below x (e ∷ es) h = (less _ (and_parts _ _ h).0, all_below x es (and_parts _ _ h).1)

pub rising : {X : Type 0} (es : List (List ℕ × X)) → IsTrue (is_sorted path_cmp es) → IsStrictlySortedBy path_cmp (map (λ e. e.0) es)
unfolding IsStrictlySortedBy
rising [] h = tt
rising (e ∷ es) h = (all_below e.0 es (and_parts _ _ h).0, rising es (and_parts _ _ h).1)

pub rising_keys : {X : Type 0} (m : FinMap path_cmp X) → IsStrictlySortedBy path_cmp (finite.keys m)
rising_keys m = rising (finite.entries m) (to_true _ (finite.entries_sorted m))

-- ---- a sorted list is the keys of a map

abbrev tagged : List (List ℕ) → List (List ℕ × Unit {0})
tagged ks = map (λ k. (k, tt)) ks

below_tagged : (x : List ℕ) (ks : List (List ℕ)) → AllByRecursion (λ y. path_cmp x y ≡ Less) ks → below_all x (tagged ks) ≡ true
below_tagged x [] h = refl
below_tagged x (k ∷ ks) h = and_from _ _ (ap is_lt h.0) (below_tagged x ks h.1)

sorted_tagged : (ks : List (List ℕ)) → IsStrictlySortedBy path_cmp ks → is_sorted path_cmp (tagged ks) ≡ true
unfolding IsStrictlySortedBy
sorted_tagged [] h = refl
sorted_tagged (k ∷ ks) h = and_from _ _ (below_tagged k ks h.0) (sorted_tagged ks h.1)

untagged : (ks : List (List ℕ)) → map (λ (e : List ℕ × Unit {0}). e.0) (tagged ks) ≡ ks
untagged [] = refl
untagged (k ∷ ks) = ap (λ xs. k ∷ xs) (untagged ks)

key_set : List (List ℕ) → PathKeys
key_set ks = finite.from_sorted (tagged ks)

keys-key_set : (ks : List (List ℕ)) → IsStrictlySortedBy path_cmp ks → finite.keys (key_set ks) ≡ ks
unfolding key_set
keys-key_set ks h = ap (map (λ e. e.0)) (finite.entries-from_sorted path_cmp (tagged ks) (from_true _ (sorted_tagged ks h))) ∙ untagged ks

contains-key_set : (ks : List (List ℕ)) → IsStrictlySortedBy path_cmp ks → (q : List ℕ) → finite.contains_key (key_set ks) q ≡ list_any (eq_by_cmp path_cmp q) ks
contains-key_set ks h q = finite.contains_key-keys (key_set ks) q ∙ ap (list_any (eq_by_cmp path_cmp q)) (keys-key_set ks h)

-- a map's keys are any sorted list with exactly these keys
pub keys_are : {X : Type 0} (m : FinMap path_cmp X) (ks : List (List ℕ)) → IsStrictlySortedBy path_cmp ks → ((q : List ℕ) → finite.contains_key m q ≡ list_any (eq_by_cmp path_cmp q) ks) → finite.keys m ≡ ks
keys_are m ks h same =
    sym (keys-key_set (finite.keys m) (rising_keys m))
    ∙ ap finite.keys (same_members (key_set (finite.keys m)) (key_set ks) (λ q. contains-key_set (finite.keys m) (rising_keys m) q ∙ sym (finite.contains_key-keys m q) ∙ same q ∙ sym (contains-key_set ks h q)))
    ∙ keys-key_set ks h

length-mapped : {A B : Type 0} (f : A → B) (xs : List A) → length (map f xs) ≡ length xs
length-mapped f [] = refl
length-mapped f (x ∷ xs) = ap (λ n. suc n) (length-mapped f xs)

pub len-keys : {X : Type 0} (m : FinMap path_cmp X) → finite.len m ≡ length (finite.keys m)
len-keys m = finite.len-entries m ∙ sym (length-mapped (λ e. e.0) (finite.entries m))

-- ---- sorted texts

text_below : {Y : Type 0} (k : String Y) (ks : List (String Y)) → AllByRecursion (λ x. string_cmp k x ≡ Less) ks → AllByRecursion (λ y. path_cmp (string_bytes k) y ≡ Less) (map string_bytes ks)
text_below k [] h = tt
text_below k (x ∷ ks) h = (h.0, text_below k ks h.1)

texts_rise : {Y : Type 0} (ks : List (String Y)) → IsStrictlySortedBy string_cmp ks → IsStrictlySortedBy path_cmp (map string_bytes ks)
unfolding IsStrictlySortedBy
texts_rise [] h = tt
texts_rise (k ∷ ks) h = (text_below k ks h.0, texts_rise ks h.1)

any_text : {Y : Type 0} (q : List ℕ) (ks : List (String Y)) → list_any (λ k. is_eq (path_cmp q (string_bytes k))) ks ≡ list_any (eq_by_cmp path_cmp q) (map string_bytes ks)
any_text q [] = refl
any_text q (k ∷ ks) = ap (λ b. eq_by_cmp path_cmp q (string_bytes k) || b) (any_text q ks)

-- a set's paths are its texts
pub keys-set_of : {Y : Type 0} (s : BTreeSet (String Y)) → IsStrictlySortedBy string_cmp s.keys → finite.keys (set_of s.keys) ≡ map string_bytes s.keys
keys-set_of s h = keys_are (set_of s.keys) (map string_bytes s.keys) (texts_rise s.keys h) (λ q. contains-set_of s q ∙ any_text q s.keys)

pub len-set_of : {Y : Type 0} (s : BTreeSet (String Y)) → IsStrictlySortedBy string_cmp s.keys → length s.keys ≡ finite.len (set_of s.keys)
len-set_of s h = sym (len-keys (set_of s.keys) ∙ ap length (keys-set_of s h) ∙ length-mapped string_bytes s.keys)

-- ---- a path's children, from the set of them

any-filter : (f : List ℕ → Bool) (q : List ℕ) (ks : List (List ℕ)) → (f q && list_any (eq_by_cmp path_cmp q) ks) ≡ list_any (eq_by_cmp path_cmp q) (filter f ks)
any-filter f q [] = elim (f q) as (λ b. (b && false) ≡ false) [ true ↦ refl | false ↦ refl ]
any-filter f q (k ∷ ks) =
    elim (eq_by_cmp path_cmp q k) as (λ b. eq_by_cmp path_cmp q k ≡ b → (f q && (b || list_any (eq_by_cmp path_cmp q) ks)) ≡ list_any (eq_by_cmp path_cmp q) (cond (f k) (k ∷ filter f ks) (filter f ks))) [
      | true ↦ λ s. elim (f k) as (λ b. f k ≡ b → (f q && true) ≡ list_any (eq_by_cmp path_cmp q) (cond b (k ∷ filter f ks) (filter f ks))) [
        | true ↦ λ t. ap (λ b. b && true) (ap f (same_is q k s) ∙ t) ∙ sym (ap (λ b. b || list_any (eq_by_cmp path_cmp q) (filter f ks)) s)
        | false ↦ λ t. ap (λ b. b && true) (ap f (same_is q k s) ∙ t) ∙ sym (sym (any-filter f q ks) ∙ ap (λ b. b && list_any (eq_by_cmp path_cmp q) ks) (ap f (same_is q k s) ∙ t))
      ] refl
      | false ↦ λ s. elim (f k) as (λ b. (f q && list_any (eq_by_cmp path_cmp q) ks) ≡ list_any (eq_by_cmp path_cmp q) (cond b (k ∷ filter f ks) (filter f ks))) [
        | true ↦ any-filter f q ks ∙ sym (ap (λ b. b || list_any (eq_by_cmp path_cmp q) (filter f ks)) s)
        | false ↦ any-filter f q ks
      ]
    ] refl

pub any-children_of : (nodes : NodeMap) (path q : List ℕ) → (is_child_of path q && finite.contains_key nodes q) ≡ list_any (eq_by_cmp path_cmp q) (children_of nodes path)
any-children_of nodes path q = ap (λ b. is_child_of path q && b) (finite.contains_key-keys nodes q) ∙ any-filter (is_child_of path) q (finite.keys nodes)

pub children_listed : (s : PathKeys) (nodes : NodeMap) (path : List ℕ) → ((q : List ℕ) → finite.contains_key s q ≡ (is_child_of path q && finite.contains_key nodes q)) → finite.keys s ≡ children_of nodes path
children_listed s nodes path members =
    keys_are s (children_of nodes path) (IsStrictlySortedBy-filter path_cmp (is_child_of path) (finite.keys nodes) (rising_keys nodes)) (λ q. members q ∙ any-children_of nodes path q)

pub children_counted : (s : PathKeys) (nodes : NodeMap) (path : List ℕ) → ((q : List ℕ) → finite.contains_key s q ≡ (is_child_of path q && finite.contains_key nodes q)) → finite.len s ≡ length (children_of nodes path)
children_counted s nodes path members = len-keys s ∙ ap length (children_listed s nodes path members)

none_of : (xs : List (List ℕ)) (q : List ℕ) → length xs ≡ 0 → list_any (eq_by_cmp path_cmp q) xs ≡ false
none_of [] q e = refl
none_of (x ∷ xs) q e = absurd (omega arith)

-- a path without children is not a parent
pub no_children : (nodes : NodeMap) (path : List ℕ) → length (children_of nodes path) ≡ 0 → (q : List ℕ) → (is_child_of path q && finite.contains_key nodes q) ≡ false
no_children nodes path none q = any-children_of nodes path q ∙ none_of (children_of nodes path) q none

pub nothing_rises : IsStrictlySortedBy path_cmp []
unfolding IsStrictlySortedBy
nothing_rises = tt

pub keys-empty : finite.keys (finite.empty {X = Unit {0}} {R = path_cmp}) ≡ []
keys-empty = keys_are finite.empty [] nothing_rises (λ q. ap is_some (finite.get-empty path_cmp q))

-- ---- the middle of a list

pub any_middle : (q : List ℕ) (xs ys : List (List ℕ)) → list_any (eq_by_cmp path_cmp q) (xs ++ q ∷ ys) ≡ true
any_middle q [] ys = ap (λ b. b || list_any (eq_by_cmp path_cmp q) ys) (same_itself q)
any_middle q (x ∷ xs) ys = elim (eq_by_cmp path_cmp q x) as (λ b. (b || list_any (eq_by_cmp path_cmp q) (xs ++ q ∷ ys)) ≡ true) [ true ↦ refl | false ↦ any_middle q xs ys ]
