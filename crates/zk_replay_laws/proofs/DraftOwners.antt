-- The nodes of a session in a draft.
use Rattle.std.proofs.Common.{◌≡◌, ℕ, ℤ, pos, List, [], ◌∷◌, Bool, true, false, not, ◌||◌, is_eq, Some, refl, sym, ap, ◌∙◌, ⊎_elim}
use Rattle.std.proofs.lemmas.Bool.{cond-true, cond-false, cases_Bool, and_parts, or_cases, or_left, or_right}
use Rattle.std.specs.FinMap.{get, entries, entries_sorted, find, is_sorted, get-entries}
use Rattle.std.specs.Ordering.{int_eq, eq_by_cmp}
use Rattle.zk_table.proofs.Sorted.{to_true}
use Rattle.zk_table.specs.States.{path_cmp}
use Rattle.zk_replay.specs.declared.draft_node.DraftNode.{DraftNode}
use Rattle.zk_replay.specs.Drafts.{DraftMap, owned_in, owned_by}
use Rattle.zk_replay_laws.proofs.Paths.{some_inj, none_some}
use Rattle.zk_replay_laws.proofs.Gets.{same_path, paths_equal}
use Rattle.zk_replay_laws.proofs.Removals.{IsDraftTree}
use Rattle.zk_replay_laws.proofs.Settling.{below_all, ordered, AllGot, all_got, AllKeyed, keyed_entries}
use Rattle.zk_replay_laws.proofs.Closing.{is_in}
use Rattle.zk_replay_laws.proofs.Choosing.{are_distinct, both_true}

module _ (d : DraftMap) (tree : IsDraftTree d) (session : ℤ) where
  abbrev owns : List ℕ × DraftNode → Bool
  owns e = int_eq e.1.node.owner session

  own_first : (e : List ℕ × DraftNode) (es : List (List ℕ × DraftNode)) → owns e ≡ true → owned_in session (e ∷ es) ≡ e.1.path ∷ owned_in session es
  own_first e es own = cond-true (owns e) _ _ own

  own_not : (e : List ℕ × DraftNode) (es : List (List ℕ × DraftNode)) → owns e ≡ false → owned_in session (e ∷ es) ≡ owned_in session es
  own_not e es other = cond-false (owns e) _ _ other

  found : (q : List ℕ) (es : List (List ℕ × DraftNode)) → AllGot (get d) es → is_in q (owned_in session es) ≡ true → (x : DraftNode) × ((get d q ≡ Some x) × (int_eq x.node.owner session ≡ true))
  found q [] got has = absurd (cc)
  found q (e ∷ es) got has =
      ⊎_elim
      (λ own. ⊎_elim
      (λ here. (e.1, (ap (get d) (same_path q e.1.path here ∙ tree.keyed e.0 e.1 got.0) ∙ got.0, own)))
      (λ more. found q es got.1 more)
      (or_cases (eq_by_cmp path_cmp q e.1.path) _ (sym (ap (is_in q) (own_first e es own)) ∙ has)))
      (λ other. found q es got.1 (sym (ap (is_in q) (own_not e es other)) ∙ has))
      (cases_Bool (owns e))

  listed : (q : List ℕ) (x : DraftNode) → int_eq x.node.owner session ≡ true → (es : List (List ℕ × DraftNode)) → AllGot (get d) es → find path_cmp q es ≡ Some x → is_in q (owned_in session es) ≡ true
  listed q x own [] got at = absurd (none_some at)
  listed q x own (e ∷ es) got at =
      ⊎_elim
      (λ here.
      let is : e.1 ≡ x = some_inj (sym (cond-true (eq_by_cmp path_cmp q e.0) (Some e.1) (find path_cmp q es) here) ∙ at) in
      ap (is_in q) (own_first e es (ap (λ y. int_eq y.node.owner session) is ∙ own)) ∙ or_left _ _ (paths_equal q e.1.path (same_path q e.0 here ∙ sym (tree.keyed e.0 e.1 got.0))))
      (λ else.
      let rest = listed q x own es got.1 (sym (cond-false (eq_by_cmp path_cmp q e.0) (Some e.1) (find path_cmp q es) else) ∙ at) in
      ⊎_elim
      (λ first. ap (is_in q) (own_first e es first) ∙ or_right _ _ rest)
      (λ other. ap (is_in q) (own_not e es other) ∙ rest)
      (cases_Bool (owns e)))
      (cases_Bool (eq_by_cmp path_cmp q e.0))

  -- ---- each once

  not_later : (x : List ℕ) (es : List (List ℕ × DraftNode)) → below_all x es ≡ true → AllKeyed es → is_in x (owned_in session es) ≡ false
  not_later x [] below keyed = refl
  not_later x (e ∷ es) below keyed =
      let parts = and_parts _ _ below in
      let rest = not_later x es parts.1 keyed.1 in
      ⊎_elim
      (λ own. ap (is_in x) (own_first e es own) ∙ ap (λ b. b || is_in x (owned_in session es)) (ap (λ k. is_eq (path_cmp x k)) keyed.0 ∙ ap is_eq (ordered _ parts.0)) ∙ rest)
      (λ other. ap (is_in x) (own_not e es other) ∙ rest)
      (cases_Bool (owns e))

  once : (es : List (List ℕ × DraftNode)) → is_sorted path_cmp es ≡ true → AllKeyed es → are_distinct (owned_in session es) ≡ true
  once [] sorted keyed = refl
  once (e ∷ es) sorted keyed =
      let parts = and_parts _ _ sorted in
      let rest = once es parts.1 keyed.1 in
      ⊎_elim
      (λ own. ap are_distinct (own_first e es own) ∙ both_true (ap not (ap (λ k. is_in k (owned_in session es)) keyed.0 ∙ not_later e.0 es parts.0 keyed.1)) rest)
      (λ other. ap are_distinct (own_not e es other) ∙ rest)
      (cases_Bool (owns e))

  pub owned_once : are_distinct (owned_by d session) ≡ true
  owned_once =
      ⊎_elim
      (λ zero. ap are_distinct (cond-true (int_eq session (pos 0)) [] (owned_in session (entries d)) zero))
      (λ some. ap are_distinct (cond-false (int_eq session (pos 0)) [] (owned_in session (entries d)) some) ∙ once (entries d) (to_true _ (entries_sorted d)) (keyed_entries d tree (entries d) (all_got d)))
      (cases_Bool (int_eq session (pos 0)))

  module _ (some : int_eq session (pos 0) ≡ false) where
    all_owned : owned_by d session ≡ owned_in session (entries d)
    all_owned = cond-false (int_eq session (pos 0)) [] _ some

    pub owned_in_draft : (q : List ℕ) → is_in q (owned_by d session) ≡ true → (x : DraftNode) × ((get d q ≡ Some x) × (int_eq x.node.owner session ≡ true))
    owned_in_draft q has = found q (entries d) (all_got d) (sym (ap (is_in q) all_owned) ∙ has)

    pub listed_in_draft : (q : List ℕ) (x : DraftNode) → get d q ≡ Some x → int_eq x.node.owner session ≡ true → is_in q (owned_by d session) ≡ true
    listed_in_draft q x there own = ap (is_in q) all_owned ∙ listed q x own (entries d) (all_got d) (sym (get-entries d q) ∙ there)
