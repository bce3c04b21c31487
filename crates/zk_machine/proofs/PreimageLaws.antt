-- Preimages and their restoration.
use Rattle.std.proofs.Common.{◌≡◌, ℕ, insert, Ok, Err, Bool, true, false, cond, ◌&&◌, List, [], ◌∷◌, ◌++◌, map, Option, Some, None, is_some, refl, sym, ap, ◌∙◌, is_eq, is_lt, Less, Equal, Greater}
use Rattle.std.proofs.lemmas.Bool.{false≢true, and_parts}
use Rattle.std.proofs.lemmas.Cmp.{nat_list_cmp_total, eq_by_cmp_equiv}
use Rattle.std.specs.declared.cmp.Ordering.{Ordering}
use Rattle.std.specs.FinMap as finite
use Rattle.std.specs.FinMap.{find, is_sorted}
use Rattle.std.specs.List.{flat_map}
use Rattle.std.specs.Ordering.{eq_by_cmp}
use Rattle.zk_table.specs.declared.node.Node.{Node}
use Rattle.zk_path.specs.Paths.{parent_of}
use Rattle.zk_table.specs.States.{NodeMap, path_cmp, changed_found, changed_above, parent_changed}
use Rattle.zk_table.proofs.Sorted.{to_true, stands_at, entries_inserted, missing_at_place}
use Rattle.zk_table.specs.Places.{position_of}
use Rattle.zk_machine.proofs.Texts.{path_cmp-IsAntisymmetric}
use Rattle.zk_machine.proofs.Texts.{same_is}
use Rattle.zk_machine.specs.Changes.{change_at, compared, changes_between}
use Rattle.zk_machine.specs.Undoing.{PreimageMap, put_back, all_put_back, nodes_before}
use Rattle.zk_machine.specs.Preimages.{Preimage, noted}
use Rattle.zk_machine.specs.declared.change.Change.{Change}
use Rattle.zk_machine.proofs.Covers.{rising_keys, changes_covered}

-- the preimage, or else the current node
abbrev pub was : Option (Option Node) → Option Node → Option Node
was None now = now
was (Some before) now = before

get-put_back : (path : List ℕ) (x : Option Node) (m : NodeMap) (q : List ℕ) → finite.get (put_back path x m) q ≡ cond (eq_by_cmp path_cmp q path) x (finite.get m q)
get-put_back path None m q = finite.get-remove nat_list_cmp_total m path q
get-put_back path (Some node) m q = finite.get-insert nat_list_cmp_total m path node q

pub get-all_put_back : (notes : List Preimage) (m : NodeMap) (q : List ℕ) → finite.get (all_put_back notes m) q ≡ was (find path_cmp q notes) (finite.get m q)
get-all_put_back [] m q = refl
get-all_put_back (note ∷ notes) m q =
    get-put_back note.0 note.1 (all_put_back notes m) q
    ∙ ap (cond (eq_by_cmp path_cmp q note.0) note.1) (get-all_put_back notes m q)
    ∙ elim (eq_by_cmp path_cmp q note.0) as (λ b. cond b note.1 (was (find path_cmp q notes) (finite.get m q)) ≡ was (cond b (Some note.1) (find path_cmp q notes)) (finite.get m q)) [ true ↦ refl | false ↦ refl ]

get-nodes_before : (t : PreimageMap) (m : NodeMap) (q : List ℕ) → finite.get (all_put_back (finite.entries t) m) q ≡ was (finite.get t q) (finite.get m q)
get-nodes_before t m q = get-all_put_back (finite.entries t) m q ∙ ap (λ x. was x (finite.get m q)) (sym (finite.get-entries t q))

no_some : {X : Type 0} (x : Option X) → is_some x ≡ false → x ≡ None
no_some None e = refl
no_some (Some x) e = absurd (false≢true (sym e))

was_some : (x : Option (Option Node)) (a b : Option Node) → is_some x ≡ true → was x a ≡ was x b
was_some None a b e = absurd (false≢true e)
was_some (Some x) a b e = refl

-- a change of one path and its preimage cancel
pub back_noted : (t : PreimageMap) (m n : NodeMap) (path : List ℕ) → ((q : List ℕ) → eq_by_cmp path_cmp q path ≡ false → finite.get n q ≡ finite.get m q) → all_put_back (finite.entries (noted t path (finite.get m path))) n ≡ all_put_back (finite.entries t) m
back_noted t m n path others = finite.same_map nat_list_cmp_total path_cmp-IsAntisymmetric _ _ (λ q. get-nodes_before (noted t path (finite.get m path)) n q ∙ by_note q _ refl ∙ sym (get-nodes_before t m q))
  where
    at_path : (q : List ℕ) (b : Bool) → eq_by_cmp path_cmp q path ≡ b → finite.contains_key t path ≡ true → was (finite.get t q) (finite.get n q) ≡ was (finite.get t q) (finite.get m q)
    at_path q true s h = was_some (finite.get t q) _ _ (ap (λ k. is_some (finite.get t k)) (same_is q path s) ∙ h)
    at_path q false s h = ap (was (finite.get t q)) (others q s)

    new_path : (q : List ℕ) (b : Bool) → eq_by_cmp path_cmp q path ≡ b → finite.contains_key t path ≡ false → was (cond b (Some (finite.get m path)) (finite.get t q)) (finite.get n q) ≡ was (finite.get t q) (finite.get m q)
    new_path q true s h = ap (finite.get m) (sym (same_is q path s)) ∙ ap (λ x. was x (finite.get m q)) (sym (ap (finite.get t) (same_is q path s) ∙ no_some _ h))
    new_path q false s h = ap (was (finite.get t q)) (others q s)

    by_note : (q : List ℕ) (b : Bool) → finite.contains_key t path ≡ b → was (finite.get (cond b t (finite.insert t path (finite.get m path))) q) (finite.get n q) ≡ was (finite.get t q) (finite.get m q)
    by_note q true h = at_path q _ refl h
    by_note q false h = ap (λ x. was x (finite.get n q)) (finite.get-insert nat_list_cmp_total t path (finite.get m path) q) ∙ new_path q _ refl h

-- ---- the changes, from the preimages

abbrev below_all : {X : Type 0} → List ℕ → List (List ℕ × X) → Bool
below_all x [] = true
below_all x (e ∷ es) = is_lt (path_cmp x e.0) && below_all x es

apart : (x q : List ℕ) → is_lt (path_cmp x q) ≡ true → eq_by_cmp path_cmp q x ≡ false
apart x q h = (eq_by_cmp_equiv nat_list_cmp_total).symm q x ∙ is_less (path_cmp x q) h
  where
    is_less : (r : Ordering) → is_lt r ≡ true → is_eq r ≡ false
    is_less Less e = refl
    is_less Equal e = sym e
    is_less Greater e = refl

module _ {X A : Type 0} (g : List ℕ → Option X → List A) where
  not_first : (x : List ℕ) (v : Option X) (find_in : List ℕ → Option X) (es : List (List ℕ × X)) → below_all x es ≡ true → flat_map (λ k. g k (cond (eq_by_cmp path_cmp k x) v (find_in k))) (map (λ e. e.0) es) ≡ flat_map (λ k. g k (find_in k)) (map (λ e. e.0) es)
  not_first x v find_in [] h = refl
  not_first x v find_in (e ∷ es) h = λ i. g e.0 (cond (apart x e.0 (and_parts _ _ h).0 i) v (find_in e.0)) ++ not_first x v find_in es (and_parts _ _ h).1 i

  -- along the keys, with their values
  along_entries : (es : List (List ℕ × X)) → is_sorted path_cmp es ≡ true → flat_map (λ k. g k (find path_cmp k es)) (map (λ e. e.0) es) ≡ flat_map (λ e. g e.0 (Some e.1)) es
  along_entries [] h = refl
  along_entries (e ∷ es) h =
      let rest = not_first e.0 (Some e.1) (λ k. find path_cmp k es) es (and_parts _ _ h).0 ∙ along_entries es (and_parts _ _ h).1 in
      λ i. g e.0 (cond ((eq_by_cmp_equiv nat_list_cmp_total).refl e.0 i) (Some e.1) (find path_cmp e.0 es)) ++ rest i

flat_map_alike : {X A : Type 0} (f g : X → List A) → ((x : X) → f x ≡ g x) → (xs : List X) → flat_map f xs ≡ flat_map g xs
flat_map_alike f g same [] = refl
flat_map_alike f g same (x ∷ xs) = λ i. same x i ++ flat_map_alike f g same xs i

-- the changes found by the preimages are all changes since
pub changes_noted : (t : PreimageMap) (n : NodeMap) → flat_map (λ e. compared e.0 e.1 (finite.get n e.0)) (finite.entries t) ≡ changes_between (all_put_back (finite.entries t) n) n
changes_noted t n =
    let g : List ℕ → Option (Option Node) → List _ = λ k x. compared k (was x (finite.get n k)) (finite.get n k) in
    sym (along_entries g (finite.entries t) (to_true _ (finite.entries_sorted t)))
    ∙ flat_map_alike _ (change_at (all_put_back (finite.entries t) n) n) (λ k. ap (λ x. compared k x (finite.get n k)) (sym (get-all_put_back (finite.entries t) n k))) (finite.keys t)
    ∙ changes_covered (all_put_back (finite.entries t) n) n (finite.keys t) (rising_keys t) (λ q none. get-nodes_before t n q ∙ ap (λ x. was x (finite.get n q)) (no_some _ (finite.contains_key-keys t q ∙ none)))

-- ---- the preimages as a sorted list

module _ (t : PreimageMap) (es : List Preimage) (path : List ℕ) (before : Option Node) (i : ℕ) (e : es ≡ finite.entries t) where
  pub noted_there : position_of path_cmp path es ≡ Ok i → t ≡ noted t path before
  noted_there p = ap (λ b. cond b t (finite.insert t path before)) (sym (ap is_some (finite.get-entries t path ∙ ap (find path_cmp path) (sym e) ∙ (stands_at path_cmp path es i p).found ([], None))))

  pub noted_new : position_of path_cmp path es ≡ Err i → insert es i (path, before) ≡ finite.entries (noted t path before)
  noted_new p =
      entries_inserted nat_list_cmp_total es t path before i e p
      ∙ ap (λ b. finite.entries (cond b t (finite.insert t path before))) (sym (ap is_some (missing_at_place nat_list_cmp_total es t path i e p)))

-- ---- one write with its preimage

module _ (t u : PreimageMap) (m n : NodeMap) (path : List ℕ) (is : u ≡ noted t path (finite.get m path)) where
  pub put_before : (node : Node) → n ≡ finite.insert m path node → nodes_before u n ≡ nodes_before t m
  put_before node after = ap (λ u. nodes_before u n) is ∙ back_noted t m n path (λ q s. ap (λ n. finite.get n q) after ∙ finite.get-insert nat_list_cmp_total m path node q ∙ ap (λ b. cond b (Some node) (finite.get m q)) s)

  pub take_before : n ≡ finite.remove m path → nodes_before u n ≡ nodes_before t m
  take_before after = ap (λ u. nodes_before u n) is ∙ back_noted t m n path (λ q s. ap (λ n. finite.get n q) after ∙ finite.get-remove nat_list_cmp_total m path q ∙ ap (λ b. cond b None (finite.get m q)) s)

-- without preimages nothing is restored
pub before_nothing : (m : NodeMap) → nodes_before finite.empty m ≡ m
before_nothing m = finite.same_map nat_list_cmp_total path_cmp-IsAntisymmetric _ _ (λ q. get-nodes_before finite.empty m q ∙ ap (λ x. was x (finite.get m q)) (finite.get-empty path_cmp q))

-- ---- an instruction, from empty preimages to its end

module _ (t : PreimageMap) (idle : t ≡ finite.empty) (m first : NodeMap) (kept : m ≡ first) (u : PreimageMap) (n : NodeMap) (before : nodes_before u n ≡ nodes_before t m) where
  begun : nodes_before u n ≡ first
  begun = before ∙ ap (λ t. nodes_before t m) idle ∙ before_nothing m ∙ kept

  pub begun_changes : (changes : List Change) → changes ≡ changes_between (nodes_before u n) n → (o : NodeMap) → o ≡ n → changes ≡ changes_between first o
  begun_changes changes is o same = is ∙ (λ i. changes_between (begun i) (sym same i))

  pub begun_undone : (noted : PreimageMap) → noted ≡ u → (o : NodeMap) → o ≡ n → nodes_before noted o ≡ first
  begun_undone noted is o same = (λ i. nodes_before (is i) (same i)) ∙ begun

-- a parent that was changed and replaced
pub changed_parent : (m : NodeMap) (path : List ℕ) (change : Node → Node) (parent : List ℕ) → parent_of path ≡ Some parent → (old : Node) → finite.get m parent ≡ Some old → (key : List ℕ) → key ≡ parent → (new : Node) → new ≡ change old → finite.insert m key new ≡ parent_changed m path change
changed_parent m path change parent above old there key same new is =
    (λ i. finite.insert m (same i) (is i)) ∙ ap (changed_found m parent change) (sym there) ∙ ap (λ p. changed_above m p change) (sym above)
