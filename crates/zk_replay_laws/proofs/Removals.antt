-- A draft's nodes: a tree whose parents are marked.
use Rattle.std.proofs.Common.{◌≡◌, ◌≢◌, ℕ, zero, suc, ◌<◌, ◌≤◌, List, [], ◌∷◌, ◌++◌, length, Bool, true, false, cond, Option, Some, None, refl, sym, ap, ◌∙◌, ⊎_elim, arith}
use Rattle.std.proofs.lemmas.Bool.{cond-true, cond-false, cases_Bool, both_ways, or_left, or_right, or_from, false_from_ne_true}
use Rattle.std.specs.FinMap.{get, remove, entries, find, get-entries}
use Rattle.std.specs.List.{list_any, starts_with}
use Rattle.std.specs.Ordering.{eq_by_cmp}
use Rattle.std.specs.Prelude.{nat_eq}
use Rattle.zk_path.specs.Paths.{parent_of}
use Rattle.zk_table.specs.States.{path_cmp}
use Rattle.zk_replay.specs.declared.draft_node.DraftNode.{DraftNode}
use Rattle.zk_replay.specs.Drafts.{DraftMap, starting_in, without_below, removed, had_children}
use Rattle.zk_replay_laws.proofs.Paths.{IsBelow, parent_below, some_inj, none_some}
use Rattle.zk_replay_laws.proofs.Gets.{paths_equal, paths_differ, get_removed_at, get_removed_elsewhere, get_remove_all, starts_below, begins}

abbrev pub DraftThere : DraftMap → List ℕ → Type 0
DraftThere d q = (x : DraftNode) × (get d q ≡ Some x)

abbrev pub IsMarked : DraftMap → List ℕ → Type 0
IsMarked d q = (x : DraftNode) × ((get d q ≡ Some x) × (x.had_children ≡ true))

pub record IsDraftTree (d : DraftMap) : Type 0 where
  pub keyed : (q : List ℕ) (x : DraftNode) → get d q ≡ Some x → x.path ≡ q
  pub closed : (q above : List ℕ) → DraftThere d q → parent_of q ≡ Some above → IsMarked d above
  pub shorter : (q above : List ℕ) → DraftThere d q → parent_of q ≡ Some above → length above < length q

-- ---- what is below a node

marked_within : (d : DraftMap) → IsDraftTree d → (path : List ℕ) → path ≢ [] → (n : ℕ) (rest : List ℕ) → length rest ≤ n → DraftThere d (path ++ 47 ∷ rest) → IsMarked d path
marked_within d tree path filled zero rest le there =
    ⊎_elim (λ e. tree.closed _ _ there e) (λ more. let less = more.less in absurd (omega (arith, less, le))) (parent_below path rest filled)
marked_within d tree path filled (suc n) rest le there =
    ⊎_elim
    (λ e. tree.closed _ _ there e)
    (λ more. let less = more.less in let m = tree.closed _ _ there more.is in marked_within d tree path filled n more.stem (omega (arith, less, le)) (m.0, m.1.0))
    (parent_below path rest filled)

-- a node with a node below it is marked
pub marked_above : (d : DraftMap) → IsDraftTree d → (path q : List ℕ) → path ≢ [] → IsBelow path q → DraftThere d q → IsMarked d path
marked_above d tree path q filled below there = marked_within d tree path filled (length below.0) below.0 (omega arith) (there.0, ap (get d) (sym below.1) ∙ there.1)

-- ---- the nodes below a path, as the replay lists them

none_listed : (prefix q : List ℕ) (es : List (List ℕ × DraftNode)) → starts_with nat_eq q prefix ≡ false → list_any (eq_by_cmp path_cmp q) (starting_in prefix es) ≡ false
none_listed prefix q [] other = refl
none_listed prefix q (e ∷ es) other =
    ⊎_elim
    (λ starts. ap (list_any (eq_by_cmp path_cmp q)) (cond-true (starts_with nat_eq e.1.path prefix) (e.1.path ∷ starting_in prefix es) (starting_in prefix es) starts)
    ∙ or_from _ _ (paths_differ q e.1.path (λ is. both_ways _ other (ap (λ x. starts_with nat_eq x prefix) is ∙ starts))) (none_listed prefix q es other))
    (λ none. ap (list_any (eq_by_cmp path_cmp q)) (cond-false (starts_with nat_eq e.1.path prefix) (e.1.path ∷ starting_in prefix es) (starting_in prefix es) none)
    ∙ none_listed prefix q es other)
    (cases_Bool (starts_with nat_eq e.1.path prefix))

listed : (prefix q : List ℕ) (x : DraftNode) (es : List (List ℕ × DraftNode)) → find path_cmp q es ≡ Some x → x.path ≡ q → starts_with nat_eq q prefix ≡ true → list_any (eq_by_cmp path_cmp q) (starting_in prefix es) ≡ true
listed prefix q x [] found keyed starts = absurd (none_some found)
listed prefix q x (e ∷ es) found keyed starts =
    ⊎_elim
    (λ here.
    let is : e.1 ≡ x = some_inj (sym (cond-true (eq_by_cmp path_cmp q e.0) (Some e.1) (find path_cmp q es) here) ∙ found) in
    let at : e.1.path ≡ q = ap (λ y. y.path) is ∙ keyed in
    ap (list_any (eq_by_cmp path_cmp q)) (cond-true (starts_with nat_eq e.1.path prefix) (e.1.path ∷ starting_in prefix es) (starting_in prefix es) (ap (λ y. starts_with nat_eq y prefix) at ∙ starts))
    ∙ or_left _ _ (paths_equal q e.1.path (sym at)))
    (λ else.
    let rest = listed prefix q x es (sym (cond-false (eq_by_cmp path_cmp q e.0) (Some e.1) (find path_cmp q es) else) ∙ found) keyed starts in
    ⊎_elim
    (λ first. ap (list_any (eq_by_cmp path_cmp q)) (cond-true (starts_with nat_eq e.1.path prefix) (e.1.path ∷ starting_in prefix es) (starting_in prefix es) first) ∙ or_right _ _ rest)
    (λ none. ap (list_any (eq_by_cmp path_cmp q)) (cond-false (starts_with nat_eq e.1.path prefix) (e.1.path ∷ starting_in prefix es) (starting_in prefix es) none) ∙ rest)
    (cases_Bool (starts_with nat_eq e.1.path prefix)))
    (cases_Bool (eq_by_cmp path_cmp q e.0))

-- ---- a node that is removed with all below it

not_below_itself : (path : List ℕ) → IsBelow path path → ⊥
not_below_itself path below = let e = ap length below.1 in longer path below.0 e
  where
    longer : (xs rest : List ℕ) → length xs ≡ length (xs ++ 47 ∷ rest) → ⊥
    longer [] rest e = omega (arith, e)
    longer (x ∷ xs) rest e = longer xs rest (omega (arith, e))

none_anyway : (b : Bool) (o : Option DraftNode) → o ≡ None → cond b None o ≡ None
none_anyway true o e = refl
none_anyway false o e = e

module _ (d : DraftMap) (path : List ℕ) where
  cases_removed : (P : DraftMap → Type 0) → (had_children (get d path) ≡ true → P (without_below (remove d path) path)) → (had_children (get d path) ≡ false → P (remove d path)) → P (removed d path)
  cases_removed P has lacks = cases (had_children (get d path)) refl
    where
      cases : (b : Bool) → had_children (get d path) ≡ b → P (cond b (without_below (remove d path) path) (remove d path))
      cases true e = has e
      cases false e = lacks e

  pub removed_at : get (removed d path) path ≡ None
  removed_at = cases_removed (λ m. get m path ≡ None) (λ has. get_remove_all (remove d path) _ path ∙ none_anyway _ _ (get_removed_at d path)) (λ none. get_removed_at d path)

  pub removed_elsewhere : (q : List ℕ) → q ≢ path → (IsBelow path q → ⊥) → get (removed d path) q ≡ get d q
  removed_elsewhere q other apart =
      cases_removed (λ m. get m q ≡ get d q)
      (λ has. get_remove_all (remove d path) _ q ∙ cond-false _ _ _ (none_listed (path ++ 47 ∷ []) q (entries (remove d path)) (false_from_ne_true _ (λ starts. apart (begins path q starts)))) ∙ get_removed_elsewhere d path q other)
      (λ none. get_removed_elsewhere d path q other)

  pub removed_below : IsDraftTree d → path ≢ [] → (q : List ℕ) → IsBelow path q → get (removed d path) q ≡ None
  removed_below tree filled q below =
      cases_removed (λ m. get m q ≡ None)
      (λ has. get_remove_all (remove d path) _ q ∙ left (get (remove d path) q) refl)
      (λ none. get_removed_elsewhere d path q other ∙ absent none (get d q) refl)
    where
      other : q ≢ path
      other e = not_below_itself path (below.0, sym e ∙ below.1)

      left : (o : Option DraftNode) → get (remove d path) q ≡ o → cond (list_any (eq_by_cmp path_cmp q) (starting_in (path ++ 47 ∷ []) (entries (remove d path)))) None o ≡ None
      left None e = none_anyway _ None refl
      left (Some x) e = cond-true _ _ _ (listed (path ++ 47 ∷ []) q x (entries (remove d path)) (sym (get-entries (remove d path) q) ∙ e) (tree.keyed q x (sym (get_removed_elsewhere d path q other) ∙ e)) (starts_below path q below))

      absent : had_children (get d path) ≡ false → (o : Option DraftNode) → get d q ≡ o → o ≡ None
      absent none None e = refl
      absent none (Some x) e = let m = marked_above d tree path q filled below (x, e) in absurd (both_ways _ none (ap had_children m.1.0 ∙ m.1.1))
