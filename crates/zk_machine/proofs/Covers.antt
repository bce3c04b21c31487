-- Changes along the touched paths.
use Rattle.std.proofs.Common.{◌≡◌, ℕ, ℤ, Bool, true, false, cond, ◌||◌, ◌&&◌, List, [], ◌∷◌, ◌++◌, map, filter, Option, Some, None, is_some, refl, sym, ap, ◌∙◌, is_lt}
use Rattle.std.proofs.lemmas.Bool.{false≢true, and_parts, and_from}
use Rattle.std.proofs.lemmas.Cmp.{nat_list_cmp_total, int_eq_equiv}
use Rattle.std.specs.FinMap as finite
use Rattle.std.specs.FinMap.{find, is_sorted}
use Rattle.std.specs.List.{list_any, flat_map}
use Rattle.std.specs.Ordering.{eq_by_cmp, int_eq}
use Rattle.zk_table.specs.declared.node.Node.{Node}
use Rattle.zk_table.specs.States.{NodeMap, path_cmp}
use Rattle.zk_table.proofs.Sorted.{to_true, from_true}
use Rattle.zk_machine.proofs.Texts.{path_cmp-IsAntisymmetric}
use Rattle.zk_machine.proofs.Texts.{same_is}
use Rattle.zk_machine.specs.Changes.{change_at, compared, changes_between, paths_of, changed_unless}
use Rattle.zk_machine.specs.declared.change.ChangeKind.TheVariants.{DataChanged, ChildrenChanged}

-- ---- sorted lists of paths

-- paths as entries without value
abbrev tagged : List (List ℕ) → List (List ℕ × Unit {0})
tagged ks = map (λ k. (k, tt)) ks

untagged : (ks : List (List ℕ)) → map (λ e. e.0) (tagged ks) ≡ ks
untagged [] = refl
untagged (k ∷ ks) = ap (λ l. k ∷ l) (untagged ks)

-- whether paths strictly rise
abbrev pub is_rising : List (List ℕ) → Bool
is_rising ks = is_sorted path_cmp (tagged ks)

find_tagged : (q : List ℕ) (ks : List (List ℕ)) → find path_cmp q (tagged ks) ≡ cond (list_any (eq_by_cmp path_cmp q) ks) (Some tt) None
find_tagged q [] = refl
find_tagged q (k ∷ ks) = elim (eq_by_cmp path_cmp q k) as (λ b. cond b (Some tt) (find path_cmp q (tagged ks)) ≡ cond (b || list_any (eq_by_cmp path_cmp q) ks) (Some tt) None) [ true ↦ refl | false ↦ find_tagged q ks ]

same_rising : (ks ls : List (List ℕ)) → is_rising ks ≡ true → is_rising ls ≡ true → ((q : List ℕ) → list_any (eq_by_cmp path_cmp q) ks ≡ list_any (eq_by_cmp path_cmp q) ls) → ks ≡ ls
same_rising ks ls g h alike =
    let m = finite.from_sorted {R = path_cmp} (tagged ks) in
    let n = finite.from_sorted {R = path_cmp} (tagged ls) in
    let same : m ≡ n = finite.same_map nat_list_cmp_total path_cmp-IsAntisymmetric m n (λ q. finite.get-from_sorted path_cmp (tagged ks) q (from_true _ g)
    ∙ find_tagged q ks ∙ ap (λ b. cond b (Some tt) None) (alike q) ∙ sym (find_tagged q ls) ∙ sym (finite.get-from_sorted path_cmp (tagged ls) q (from_true _ h))) in
    sym (untagged ks) ∙ ap (map (λ e. e.0)) (sym (finite.entries-from_sorted path_cmp (tagged ks) (from_true _ g)) ∙ ap finite.entries same ∙ finite.entries-from_sorted path_cmp (tagged ls) (from_true _ h)) ∙ untagged ls

-- a map's keys

abbrev below_all : {X : Type 0} → List ℕ → List (List ℕ × X) → Bool
below_all x [] = true
below_all x (e ∷ es) = is_lt (path_cmp x e.0) && below_all x es

below_keys : {X : Type 0} (x : List ℕ) (es : List (List ℕ × X)) → below_all x (tagged (map (λ e. e.0) es)) ≡ below_all x es
below_keys x [] = refl
below_keys x (e ∷ es) = ap (λ b. is_lt (path_cmp x e.0) && b) (below_keys x es)

rising_entries : {X : Type 0} (es : List (List ℕ × X)) → is_rising (map (λ e. e.0) es) ≡ is_sorted path_cmp es
rising_entries [] = refl
rising_entries (e ∷ es) = λ i. below_keys e.0 es i && rising_entries es i

pub rising_keys : {X : Type 0} (m : finite.FinMap path_cmp X) → is_rising (finite.keys m) ≡ true
rising_keys m = rising_entries (finite.entries m) ∙ to_true _ (finite.entries_sorted m)

-- the paths that pass a test

below_filter : (f : List ℕ → Bool) (x : List ℕ) (ks : List (List ℕ)) → below_all x (tagged ks) ≡ true → below_all x (tagged (filter f ks)) ≡ true
below_filter f x [] h = refl
below_filter f x (k ∷ ks) h =
    let rest = below_filter f x ks (and_parts _ _ h).1 in
    elim (f k) as (λ b. below_all x (tagged (cond b (k ∷ filter f ks) (filter f ks))) ≡ true) [ true ↦ and_from _ _ (and_parts _ _ h).0 rest | false ↦ rest ]

rising_filter : (f : List ℕ → Bool) (ks : List (List ℕ)) → is_rising ks ≡ true → is_rising (filter f ks) ≡ true
rising_filter f [] h = refl
rising_filter f (k ∷ ks) h =
    let rest = rising_filter f ks (and_parts _ _ h).1 in
    elim (f k) as (λ b. is_rising (cond b (k ∷ filter f ks) (filter f ks)) ≡ true) [ true ↦ and_from _ _ (below_filter f k ks (and_parts _ _ h).0) rest | false ↦ rest ]

any-filter : (f : List ℕ → Bool) (q : List ℕ) (ks : List (List ℕ)) → list_any (eq_by_cmp path_cmp q) (filter f ks) ≡ (f q && list_any (eq_by_cmp path_cmp q) ks)
any-filter f q [] = elim (f q) as (λ b. false ≡ (b && false)) [ true ↦ refl | false ↦ refl ]
any-filter f q (k ∷ ks) =
    elim (eq_by_cmp path_cmp q k) as (λ b. eq_by_cmp path_cmp q k ≡ b → list_any (eq_by_cmp path_cmp q) (cond (f k) (k ∷ filter f ks) (filter f ks)) ≡ (f q && (b || list_any (eq_by_cmp path_cmp q) ks))) [
      | true ↦ λ s. ap (λ p. list_any (eq_by_cmp path_cmp q) (cond (f p) (k ∷ filter f ks) (filter f ks))) (sym (same_is q k s))
          ∙ elim (f q) as (λ b. f q ≡ b → list_any (eq_by_cmp path_cmp q) (cond b (k ∷ filter f ks) (filter f ks)) ≡ (b && true)) [
            | true ↦ λ t. ap (λ b. b || list_any (eq_by_cmp path_cmp q) (filter f ks)) s
            | false ↦ λ t. any-filter f q ks ∙ ap (λ b. b && list_any (eq_by_cmp path_cmp q) ks) t
          ] refl
      | false ↦ λ s. elim (f k) as (λ b. list_any (eq_by_cmp path_cmp q) (cond b (k ∷ filter f ks) (filter f ks)) ≡ list_any (eq_by_cmp path_cmp q) (filter f ks)) [
        | true ↦ ap (λ b. b || list_any (eq_by_cmp path_cmp q) (filter f ks)) s
        | false ↦ refl
      ] ∙ any-filter f q ks
    ] refl

-- ---- the values of a function along paths

abbrev pub is_filled : {A : Type 0} → List A → Bool
is_filled [] = false
is_filled (x ∷ xs) = true

flat_map-filled : {A : Type 0} (f : List ℕ → List A) (ks : List (List ℕ)) → flat_map f (filter (λ k. is_filled (f k)) ks) ≡ flat_map f ks
flat_map-filled f [] = refl
flat_map-filled f (k ∷ ks) =
    elim (f k) as (λ l. f k ≡ l → flat_map f (cond (is_filled l) (k ∷ filter (λ k. is_filled (f k)) ks) (filter (λ k. is_filled (f k)) ks)) ≡ l ++ flat_map f ks) [
      | [] ↦ λ s. flat_map-filled f ks
      | (x ∷ xs) ↦ λ s i. s i ++ flat_map-filled f ks i
    ] refl

same_and : (a b c : Bool) → (a ≡ true → b ≡ c) → (a && b) ≡ (a && c)
same_and true b c h = h refl
same_and false b c h = refl

-- the values along two sorted lists are the same if both lists have each path with a value
pub same_along : {A : Type 0} (f : List ℕ → List A) (ks ls : List (List ℕ)) → is_rising ks ≡ true → is_rising ls ≡ true → ((q : List ℕ) → is_filled (f q) ≡ true → list_any (eq_by_cmp path_cmp q) ks ≡ list_any (eq_by_cmp path_cmp q) ls) → flat_map f ks ≡ flat_map f ls
same_along f ks ls g h alike =
    let p : List ℕ → Bool = λ k. is_filled (f k) in
    sym (flat_map-filled f ks)
    ∙ ap (flat_map f) (same_rising (filter p ks) (filter p ls) (rising_filter p ks g) (rising_filter p ls h) (λ q. any-filter p q ks ∙ same_and (p q) _ _ (alike q) ∙ sym (any-filter p q ls)))
    ∙ flat_map-filled f ls

-- ---- the changes between two states

same_int : (a : ℤ) → int_eq a a ≡ true
same_int a = int_eq_equiv.refl a

compared_same : (q : List ℕ) (x : Option Node) → compared q x x ≡ []
compared_same q None = refl
compared_same q (Some node) = λ i. changed_unless (same_int node.mzxid i) q DataChanged ++ changed_unless (same_int node.pzxid i) q ChildrenChanged

filled_there : (q : List ℕ) (x y : Option Node) → is_filled (compared q x y) ≡ true → (is_some x || is_some y) ≡ true
filled_there q None None e = e
filled_there q None (Some y) e = refl
filled_there q (Some x) y e = refl

found_either : {X : Type 0} (q : List ℕ) (es fs : List (List ℕ × X)) → is_some (find path_cmp q (es ++ fs)) ≡ (is_some (find path_cmp q es) || is_some (find path_cmp q fs))
found_either q [] fs = refl
found_either q (e ∷ es) fs = elim (eq_by_cmp path_cmp q e.0) as (λ b. is_some (cond b (Some e.1) (find path_cmp q (es ++ fs))) ≡ (is_some (cond b (Some e.1) (find path_cmp q es)) || is_some (find path_cmp q fs))) [ true ↦ refl | false ↦ found_either q es fs ]

has_path : (m n : NodeMap) (q : List ℕ) → list_any (eq_by_cmp path_cmp q) (paths_of m n) ≡ (is_some (finite.get m q) || is_some (finite.get n q))
has_path m n q =
    let both : List (List ℕ × Node) = finite.entries m ++ finite.entries n in
    sym (finite.contains_key-keys (finite.from_entries both) q)
    ∙ ap is_some (finite.get-from_entries nat_list_cmp_total both q)
    ∙ found_either q (finite.entries m) (finite.entries n)
    ∙ (λ i. is_some (sym (finite.get-entries m q) i) || is_some (sym (finite.get-entries n q) i))

-- Any sorted list of paths is enough to compare two states that agree at all other paths.
pub changes_covered : (m n : NodeMap) (ks : List (List ℕ)) → is_rising ks ≡ true → ((q : List ℕ) → list_any (eq_by_cmp path_cmp q) ks ≡ false → finite.get m q ≡ finite.get n q) → flat_map (change_at m n) ks ≡ changes_between m n
changes_covered m n ks rising others = same_along (change_at m n) ks (paths_of m n) rising (rising_keys _) (λ q filled. covered q filled _ refl ∙ sym (has_path m n q ∙ filled_there q (finite.get m q) (finite.get n q) filled))
  where
    covered : (q : List ℕ) → is_filled (change_at m n q) ≡ true → (b : Bool) → list_any (eq_by_cmp path_cmp q) ks ≡ b → list_any (eq_by_cmp path_cmp q) ks ≡ true
    covered q filled true e = e
    covered q filled false e = absurd (false≢true (sym (ap is_filled (ap (λ x. compared q x (finite.get n q)) (others q e) ∙ compared_same q (finite.get n q))) ∙ filled))
