-- The paths of the nodes that a session owns, from their set.
use Rattle.std.proofs.Common.{◌≡◌, ℕ, ℤ, pos, Bool, true, false, cond, not, ◌||◌, ◌&&◌, List, [], ◌∷◌, map, filter, is_some, is_eq, Option, Some, None, Less, refl, sym, ap, ◌∙◌}
use Rattle.std.proofs.lemmas.Bool.{false≢true}
use Rattle.std.specs.FinMap as finite
use Rattle.std.specs.FinMap.{find}
use Rattle.std.specs.List.{AllByRecursion, list_any}
use Rattle.std.specs.List.Sorted.{IsStrictlySortedBy}
use Rattle.std.specs.Ordering.{eq_by_cmp, int_eq}
use Rattle.zk_table.specs.declared.node.Node.{Node}
use Rattle.zk_table.specs.States.{NodeMap, path_cmp, owned_by}
use Rattle.zk_tree.specs.Owners.{set_at, is_owner, IsOwned}
use Rattle.zk_tree.specs.Views.{OwnerMap}
use Rattle.zk_tree.proofs.Lists.{same_is, keys_are, rising_keys, nothing_rises}

module _ (session : ℤ) (owns : int_eq session (pos 0) ≡ false) where
  abbrev owner_is : List ℕ × Node → Bool
  owner_is e = int_eq e.1.owner session

  abbrev kept : List (List ℕ × Node) → List (List ℕ)
  kept es = map (λ e. e.0) (filter owner_is es)

  below_kept : (x : List ℕ) (es : List (List ℕ × Node)) → AllByRecursion (λ y. path_cmp x y ≡ Less) (map (λ e. e.0) es) → AllByRecursion (λ y. path_cmp x y ≡ Less) (kept es)
  below_kept x [] h = tt
  below_kept x (e ∷ es) h = elim (owner_is e) as (λ b. AllByRecursion (λ y. path_cmp x y ≡ Less) (map (λ e. e.0) (cond b (e ∷ filter owner_is es) (filter owner_is es)))) [ true ↦ (h.0, below_kept x es h.1) | false ↦ below_kept x es h.1 ]

  rising_kept : (es : List (List ℕ × Node)) → IsStrictlySortedBy path_cmp (map (λ e. e.0) es) → IsStrictlySortedBy path_cmp (kept es)
  unfolding IsStrictlySortedBy
  rising_kept [] h = tt
  rising_kept (e ∷ es) h = elim (owner_is e) as (λ b. IsStrictlySortedBy path_cmp (map (λ e. e.0) (cond b (e ∷ filter owner_is es) (filter owner_is es)))) [ true ↦ (below_kept e.0 es h.0, rising_kept es h.1) | false ↦ rising_kept es h.1 ]

  none_tied : (q k : List ℕ) (ks : List (List ℕ)) → q ≡ k → AllByRecursion (λ y. path_cmp k y ≡ Less) ks → list_any (eq_by_cmp path_cmp q) ks ≡ false
  none_tied q k [] same h = refl
  none_tied q k (x ∷ ks) same h = ap (λ r. is_eq r || list_any (eq_by_cmp path_cmp q) ks) (ap (λ p. path_cmp p x) same ∙ h.0) ∙ none_tied q k ks same h.1

  owns_node : (node : Node) → is_owner session (Some node) ≡ int_eq node.owner session
  owns_node node = ap (λ b. not b && int_eq node.owner session) owns

  owner_found : (q : List ℕ) (es : List (List ℕ × Node)) → IsStrictlySortedBy path_cmp (map (λ e. e.0) es) → is_owner session (find path_cmp q es) ≡ list_any (eq_by_cmp path_cmp q) (kept es)
  unfolding IsStrictlySortedBy
  owner_found q [] h = refl
  owner_found q (e ∷ es) h =
      elim (eq_by_cmp path_cmp q e.0) as (λ b. eq_by_cmp path_cmp q e.0 ≡ b → is_owner session (cond b (Some e.1) (find path_cmp q es)) ≡ list_any (eq_by_cmp path_cmp q) (map (λ e. e.0) (cond (owner_is e) (e ∷ filter owner_is es) (filter owner_is es)))) [
        | true ↦ λ s. owns_node e.1 ∙ elim (owner_is e) as (λ b. b ≡ list_any (eq_by_cmp path_cmp q) (map (λ e. e.0) (cond b (e ∷ filter owner_is es) (filter owner_is es)))) [
          | true ↦ sym (ap (λ b. b || list_any (eq_by_cmp path_cmp q) (kept es)) s)
          | false ↦ sym (none_tied q e.0 (kept es) (same_is q e.0 s) (below_kept e.0 es h.0))
        ]
        | false ↦ λ s. owner_found q es h.1 ∙ elim (owner_is e) as (λ b. list_any (eq_by_cmp path_cmp q) (kept es) ≡ list_any (eq_by_cmp path_cmp q) (map (λ e. e.0) (cond b (e ∷ filter owner_is es) (filter owner_is es)))) [
          | true ↦ sym (ap (λ b. b || list_any (eq_by_cmp path_cmp q) (kept es)) s)
          | false ↦ refl
        ]
      ] refl

  listed : (nodes : NodeMap) (owners : OwnerMap) → IsOwned nodes owners → finite.keys (set_at owners session) ≡ kept (finite.entries nodes)
  listed nodes owners owned =
      keys_are (set_at owners session) (kept (finite.entries nodes)) (rising_kept (finite.entries nodes) (rising_keys nodes)) (λ q. owned.noted session q ∙ ap (is_owner session) (finite.get-entries nodes q) ∙ owner_found q (finite.entries nodes) (rising_keys nodes))

nobody : (session : ℤ) (x : Option Node) → int_eq session (pos 0) ≡ true → is_owner session x ≡ false
nobody session None e = refl
nobody session (Some node) e = ap (λ b. not b && int_eq node.owner session) e

pub owned_listed : (nodes : NodeMap) (owners : OwnerMap) (session : ℤ) → IsOwned nodes owners → finite.keys (set_at owners session) ≡ owned_by nodes session
owned_listed nodes owners session owned =
    elim (int_eq session (pos 0)) as (λ b. int_eq session (pos 0) ≡ b → finite.keys (set_at owners session) ≡ cond b [] (map (λ e. e.0) (filter (λ e. int_eq e.1.owner session) (finite.entries nodes)))) [
      | true ↦ λ e. keys_are (set_at owners session) [] nothing_rises (λ q. owned.noted session q ∙ nobody session (finite.get nodes q) e)
      | false ↦ λ e. listed session e nodes owners owned
    ] refl

some_owned : (session : ℤ) (x : Option Node) → is_owner session x ≡ true → is_some x ≡ true
some_owned session None e = absurd (false≢true e)
some_owned session (Some node) e = refl

-- each path in a session's set has a node
pub owned_there : (nodes : NodeMap) (owners : OwnerMap) (session : ℤ) (path : List ℕ) → IsOwned nodes owners → finite.contains_key (set_at owners session) path ≡ true → finite.contains_key nodes path ≡ true
owned_there nodes owners session path owned noted = some_owned session (finite.get nodes path) (sym (owned.noted session path) ∙ noted)
