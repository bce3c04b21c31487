-- The entries of a map from texts, sorted.
use Rattle.std.proofs.Common.{◌≡◌, ℕ, ◌+◌, ◌<◌, ◌≤◌, true, false, cond, List, [], ◌∷◌, map, length, is_some, is_eq, is_lt, Less, Some, String, refl, sym, ap, subst, get_or, unwrap_or, ◌∙◌, arith}
use Rattle.std.proofs.lemmas.Bool.{cond-false}
use Rattle.std.proofs.lemmas.Cmp.{nat_list_cmp_total, eq_by_cmp_equiv}
use Rattle.std.proofs.lemmas.List.{get_or-map, length-map}
use Rattle.std.proofs.lemmas.List.Elements.{All-map, All-tail}
use Rattle.std.proofs.lemmas.List.Kept.{IsStrictlySortedBy-dedup}
use Rattle.std.proofs.lemmas.List.Sorted.{All-permutation, IsPermutation-map, list_any-IsPermutation}
use Rattle.std.proofs.lemmas.Map.Keys.{IsDistinct-IsPermutation}
use Rattle.std.proofs.lemmas.Map.Text.{is_eq-slice_cmp}
use Rattle.std.proofs.lemmas.Simd.{map-map}
use Rattle.std.specs.Borrow.{Bor}
use Rattle.std.specs.FinMap as finite
use Rattle.std.specs.FinMap.{find}
use Rattle.std.specs.FinMap.Entries.{is_some-find}
use Rattle.std.specs.HashMap as hash
use Rattle.std.specs.HashMap.{HashMap}
use Rattle.std.specs.List.{All, AllByRecursion, IsDistinct, dedup, dedup_from, list_any}
use Rattle.std.specs.List.Sorted.{IsPermutation, IsSorted, IsStrictlySortedBy}
use Rattle.std.specs.Ordering.{eq_by_cmp}
use Rattle.std.specs.String.{string_bytes, string_eq}
use Rattle.zk_table.specs.States.{path_cmp}
use Rattle.zk_tree.specs.Views.{map_of}
use Rattle.zk_tree.proofs.Kept.{get-map_of}
use Rattle.zk_tree.proofs.Lists.{keys_are, rising_keys, same_itself}

-- ---- sorted lists without duplicates

dedup_nothing : (k : List ℕ) (ks : List (List ℕ)) → IsDistinct (eq_by_cmp path_cmp) (k ∷ ks) → dedup_from (eq_by_cmp path_cmp) k ks ≡ k ∷ ks
unfolding IsDistinct
dedup_nothing k [] h = refl
dedup_nothing k (x ∷ ks) h =
    cond-false (eq_by_cmp path_cmp x k) (dedup_from (eq_by_cmp path_cmp) k ks) (k ∷ dedup_from (eq_by_cmp path_cmp) x ks) ((eq_by_cmp_equiv nat_list_cmp_total).symm x k ∙ h.0.0)
    ∙ ap (λ xs. k ∷ xs) (dedup_nothing x ks h.1)

dedup_distinct : (ks : List (List ℕ)) → IsDistinct (eq_by_cmp path_cmp) ks → dedup (eq_by_cmp path_cmp) ks ≡ ks
dedup_distinct [] h = refl
dedup_distinct (k ∷ ks) h = dedup_nothing k ks h

strictly_sorted : (ks : List (List ℕ)) → IsSorted path_cmp ks → IsDistinct (eq_by_cmp path_cmp) ks → IsStrictlySortedBy path_cmp ks
strictly_sorted ks sorted distinct = subst (IsStrictlySortedBy path_cmp) (dedup_distinct ks distinct) (IsStrictlySortedBy-dedup nat_list_cmp_total (λ x y. refl) ks sorted)

-- ---- the texts of a map

apart_texts : {Y : Type 0} (k : String Y) (ks : List (String Y)) → AllByRecursion (λ x. string_eq k x ≡ false) ks → AllByRecursion (λ q. eq_by_cmp path_cmp (string_bytes k) q ≡ false) (map string_bytes ks)
apart_texts k [] h = tt
apart_texts k (x ∷ ks) h = (is_eq-slice_cmp (string_bytes k) (string_bytes x) ∙ h.0, apart_texts k ks h.1)

distinct_texts : {Y : Type 0} (ks : List (String Y)) → IsDistinct string_eq ks → IsDistinct (eq_by_cmp path_cmp) (map string_bytes ks)
unfolding IsDistinct
distinct_texts [] h = tt
distinct_texts (k ∷ ks) h = (apart_texts k ks h.0, distinct_texts ks h.1)

keys_spelled : {X Y : Type 0} (es : List (String Y × X)) → map (λ (e : List ℕ × X). e.0) (map (λ e. (string_bytes e.0, e.1)) es) ≡ map string_bytes (map (λ e. e.0) es)
keys_spelled [] = refl
keys_spelled (e ∷ es) = ap (λ xs. string_bytes e.0 ∷ xs) (keys_spelled es)

contains-map_of : {X Y : Type 0} (es : List (String Y × X)) (q : List ℕ) → finite.contains_key (map_of es) q ≡ list_any (eq_by_cmp path_cmp q) (map string_bytes (map (λ e. e.0) es))
contains-map_of es q =
    ap is_some (finite.get-from_entries nat_list_cmp_total (map (λ e. (string_bytes e.0, e.1)) es) q)
    ∙ is_some-find path_cmp q (map (λ e. (string_bytes e.0, e.1)) es)
    ∙ ap (list_any (eq_by_cmp path_cmp q)) (keys_spelled es)

-- the sorted texts of a map are its keys
sorted_keys : {X Y S : Type 0} (m : HashMap (String Y) X S) (ks : List (List ℕ)) → hash.IsUnique string_eq m → IsPermutation (map string_bytes (hash.keys m)) ks → IsSorted path_cmp ks → ks ≡ finite.keys (map_of m.entries)
sorted_keys m ks unique moved sorted =
    sym (keys_are (map_of m.entries) ks
    (strictly_sorted ks sorted (IsDistinct-IsPermutation (eq_by_cmp path_cmp) (eq_by_cmp_equiv nat_list_cmp_total).symm (map string_bytes (hash.keys m)) ks moved (distinct_texts (hash.keys m) unique)))
    (λ q. contains-map_of m.entries q ∙ list_any-IsPermutation (eq_by_cmp path_cmp q) (map string_bytes (hash.keys m)) ks moved))

-- ---- the values at the keys

abbrev head_or : {X : Type 0} → X → List X → X
head_or x [] = x
head_or x (y ∷ ys) = y

abbrev rest_of : {X : Type 0} → List X → List X
rest_of [] = []
rest_of (y ∷ ys) = ys

-- what is after the first entry is found after it
found_behind : {X : Type 0} (x : List ℕ × X) (xs es : List (List ℕ × X)) → AllByRecursion (λ k. path_cmp x.0 k ≡ Less) (map (λ e. e.0) es) → AllByRecursion (λ e. find path_cmp e.0 (x ∷ xs) ≡ Some e.1) es → AllByRecursion (λ e. find path_cmp e.0 xs ≡ Some e.1) es
found_behind x xs [] h a = tt
found_behind x xs (e ∷ es) h a =
    let other : eq_by_cmp path_cmp e.0 x.0 ≡ false = (eq_by_cmp_equiv nat_list_cmp_total).symm e.0 x.0 ∙ ap is_eq h.0 in
    (sym (ap (λ b. cond b (Some x.1) (find path_cmp e.0 xs)) other) ∙ a.0, found_behind x xs es h.1 a.1)

-- a list with the keys of another, each with the value found there, is the other
pub same_entries : {X : Type 0} (es xs : List (List ℕ × X)) → IsStrictlySortedBy path_cmp (map (λ e. e.0) xs) → map (λ e. e.0) es ≡ map (λ e. e.0) xs → AllByRecursion (λ e. find path_cmp e.0 xs ≡ Some e.1) es → es ≡ xs
unfolding IsStrictlySortedBy
same_entries [] [] h keys a = refl
same_entries [] (x ∷ xs) h keys a = let none = ap length keys in absurd (omega arith)
same_entries (e ∷ es) [] h keys a = let none = ap length keys in absurd (omega arith)
same_entries (e ∷ es) (x ∷ xs) h keys a =
    let key : e.0 ≡ x.0 = ap (head_or e.0) keys in
    let behind : map (λ e. e.0) es ≡ map (λ e. e.0) xs = ap rest_of keys in
    let tied : eq_by_cmp path_cmp e.0 x.0 ≡ true = ap (λ q. eq_by_cmp path_cmp q x.0) key ∙ same_itself x.0 in
    let value : e.1 ≡ x.1 = ap (λ o. unwrap_or o x.1) (sym a.0 ∙ ap (λ b. cond b (Some x.1) (find path_cmp e.0 xs)) tied) in
    let rest : es ≡ xs = same_entries es xs h.1 behind (found_behind x xs es (subst (AllByRecursion (λ k. path_cmp x.0 k ≡ Less)) (sym behind) h.0) a.1) in
    λ i. (key i, value i) ∷ rest i

found_here : {X : Type 0} (m : finite.FinMap path_cmp X) (es : List (List ℕ × X)) → All (λ e. finite.get m e.0 ≡ Some e.1) es → AllByRecursion (λ e. find path_cmp e.0 (finite.entries m) ≡ Some e.1) es
found_here m [] h = tt
found_here m (e ∷ es) h = (sym (finite.get-entries m e.0) ∙ h 0 e (omega arith), found_here m es (All-tail (λ e. finite.get m e.0 ≡ Some e.1) e es h))

-- a list with a map's keys, each with its value, is the map's entries
entries_are : {X : Type 0} (m : finite.FinMap path_cmp X) (es : List (List ℕ × X)) → map (λ e. e.0) es ≡ finite.keys m → All (λ e. finite.get m e.0 ≡ Some e.1) es → es ≡ finite.entries m
entries_are m es keys found = same_entries es (finite.entries m) (rising_keys m) keys (found_here m es found)

keys_sorted : {A : Type 0} (key : A → List ℕ) (xs : List A) → IsSorted (λ a b. path_cmp (key a) (key b)) xs → IsSorted path_cmp (map key xs)
keys_sorted key [] h = λ k d low within. absurd (omega arith)
keys_sorted key (x ∷ xs) h = λ k d low within.
    let inside : k + 1 < length (x ∷ xs) = subst (λ n. k + 1 < n) (length-map (x ∷ xs) key) within in
    ap (λ a. is_lt (path_cmp a (get_or (map key (x ∷ xs)) k d))) (get_or-map key (x ∷ xs) (k + 1) x d inside)
    ∙ ap (λ b. is_lt (path_cmp (key (get_or (x ∷ xs) (k + 1) x)) b)) (get_or-map key (x ∷ xs) k x d (omega arith))
    ∙ h k x low inside

abbrev pub text_entry : {X Y : Type 0} → String Y × X → List ℕ × X
text_entry e = (string_bytes e.0, e.1)

abbrev pub lent_entry : {X : Type 0} → Bor (List ℕ) × Bor X → List ℕ × X
lent_entry e = (e.0.now, e.1.now)

-- the entries of a map from texts, sorted by them, are its entries in order
pub sorted_entries : {A X Y S : Type 0} (entry : A → List ℕ × X) (m : HashMap (String Y) X S) (es : List A) → hash.IsUnique string_eq m → All (λ e. hash.get string_eq m e.0 ≡ Some e.1) m.entries
    → IsPermutation (map text_entry m.entries) (map entry es) → IsSorted (λ a b. path_cmp (entry a).0 (entry b).0) es → map entry es ≡ finite.entries (map_of m.entries)
sorted_entries entry m es unique found moved sorted =
    let there : All (λ e. finite.get (map_of m.entries) e.0 ≡ Some e.1) (map text_entry m.entries) =
    All-map (λ e. finite.get (map_of m.entries) e.0 ≡ Some e.1) text_entry m.entries (λ k d within. get-map_of m _ ∙ found k d within) in
    let keys : IsPermutation (map string_bytes (hash.keys m)) (map (λ e. e.0) (map entry es)) =
    subst (λ ks. IsPermutation ks (map (λ e. e.0) (map entry es))) (keys_spelled m.entries) (IsPermutation-map (λ e. e.0) (map text_entry m.entries) (map entry es) moved) in
    entries_are (map_of m.entries) (map entry es)
    (sorted_keys m (map (λ e. e.0) (map entry es)) unique keys (subst (IsSorted path_cmp) (sym (map-map (λ e. e.0) entry es)) (keys_sorted (λ a. (entry a).0) es sorted)))
    (All-permutation (λ e. finite.get (map_of m.entries) e.0 ≡ Some e.1) _ (map entry es) moved there)
