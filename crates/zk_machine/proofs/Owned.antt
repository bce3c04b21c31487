-- The nodes of a session, which are deleted one by one.
use Rattle.std.proofs.Common.{◌≡◌, ℕ, ℤ, pos, Bool, true, false, cond, ◌||◌, ◌&&◌, ◌+◌, ◌<◌, List, [], ◌∷◌, map, filter, drop, length, get_or, Option, Some, None, is_some, IsSome, unwrap_or, refl, sym, ap, subst, ◌∙◌, is_lt, is_eq, Less, Equal, Greater}
use Rattle.std.proofs.lemmas.Bool.{false≢true, and_parts}
use Rattle.std.proofs.lemmas.Cmp.{nat_list_cmp_total, eq_by_cmp_equiv}
use Rattle.std.proofs.lemmas.Bool.Decides.{Decides-int_eq}
use Rattle.std.proofs.lemmas.List.{at_drop_more}
use Rattle.std.specs.FinMap as finite
use Rattle.std.specs.FinMap.{find, is_sorted}
use Rattle.std.specs.List.{list_any}
use Rattle.std.specs.Option.{option_map}
use Rattle.std.specs.Ordering.{eq_by_cmp, int_eq}
use Rattle.zk_path.specs.Paths.{parent_of}
use Rattle.zk_table.specs.declared.node.Node.{Node}
use Rattle.zk_table.specs.declared.txn.Txn.{Txn}
use Rattle.zk_table.specs.Nodes.{without_child}
use Rattle.zk_table.specs.Operations.{without, without_all}
use Rattle.zk_table.specs.States.{NodeMap, path_cmp, owned_by, children_of, changed_above, changed_found}
use Rattle.zk_table.proofs.Sorted.{to_true}
use Rattle.zk_tree.specs.Trees.{IsTree, owner_at}
use Rattle.zk_machine.proofs.Texts.{same_is}
use Rattle.zk_machine.proofs.Families.{childless, has_parent, same_itself}

-- ---- paths with owners, each less than those after it

-- nodes of this session, from the least path on
abbrev pub AreOwned : NodeMap → ℤ → List (List ℕ) → Type 0
AreOwned nodes session [] = Unit {0}
AreOwned nodes session (path ∷ paths) =
    (owner_at nodes path ≡ Some session) × (int_eq session (pos 0) ≡ false) × ((q : List ℕ) → list_any (eq_by_cmp path_cmp q) paths ≡ true → path_cmp path q ≡ Less) × AreOwned nodes session paths

abbrev below_all : List ℕ → List (List ℕ × Node) → Bool
below_all x [] = true
below_all x (e ∷ es) = is_lt (path_cmp x e.0) && below_all x es

ordered : (r : _) → is_lt r ≡ true → r ≡ Less
ordered Less e = refl
ordered Equal e = absurd (false≢true e)
ordered Greater e = absurd (false≢true e)

or_cases : (a b : Bool) → (a || b) ≡ true → (a ≡ false → b ≡ true)
or_cases true b e h = absurd (false≢true (sym h))
or_cases false b e h = e

module _ (f : Node → Bool) where
  abbrev left : List (List ℕ × Node) → List (List ℕ)
  left es = map (λ e. e.0) (filter (λ e. f e.1) es)

  below_left : (x : List ℕ) (es : List (List ℕ × Node)) → below_all x es ≡ true → (q : List ℕ) → list_any (eq_by_cmp path_cmp q) (left es) ≡ true → path_cmp x q ≡ Less
  below_left x [] h q has = absurd (false≢true has)
  below_left x (e ∷ es) h q has =
      elim (f e.1) as (λ b. list_any (eq_by_cmp path_cmp q) (map (λ e. e.0) (cond b (e ∷ filter (λ e. f e.1) es) (filter (λ e. f e.1) es))) ≡ true → path_cmp x q ≡ Less) [
        | true ↦ λ has. elim (eq_by_cmp path_cmp q e.0) as (λ b. eq_by_cmp path_cmp q e.0 ≡ b → path_cmp x q ≡ Less) [
          | true ↦ λ s. ap (path_cmp x) (same_is q e.0 s) ∙ ordered _ (and_parts _ _ h).0
          | false ↦ λ s. below_left x es (and_parts _ _ h).1 q (or_cases _ _ has s)
        ] refl
        | false ↦ λ has. below_left x es (and_parts _ _ h).1 q has
      ] has

-- the values at the keys of a list
abbrev AllGot : (List ℕ → Option Node) → List (List ℕ × Node) → Type 0
AllGot find_in [] = Unit {0}
AllGot find_in (e ∷ es) = (find_in e.0 ≡ Some e.1) × AllGot find_in es

apart : (x q : List ℕ) → path_cmp x q ≡ Less → eq_by_cmp path_cmp q x ≡ false
apart x q h = (eq_by_cmp_equiv nat_list_cmp_total).symm q x ∙ ap is_eq h

below_keys : (x : List ℕ) (es : List (List ℕ × Node)) → below_all x es ≡ true → (q : List ℕ) → list_any (eq_by_cmp path_cmp q) (map (λ e. e.0) es) ≡ true → path_cmp x q ≡ Less
below_keys x [] h q has = absurd (false≢true has)
below_keys x (e ∷ es) h q has = elim (eq_by_cmp path_cmp q e.0) as (λ b. eq_by_cmp path_cmp q e.0 ≡ b → path_cmp x q ≡ Less) [
  | true ↦ λ s. ap (path_cmp x) (same_is q e.0 s) ∙ ordered _ (and_parts _ _ h).0
  | false ↦ λ s. below_keys x es (and_parts _ _ h).1 q (or_cases _ _ has s)
] refl

or_true : (a : Bool) {b : Bool} → b ≡ true → (a || b) ≡ true
or_true true e = refl
or_true false e = e

all_got : (find_in : List ℕ → Option Node) (es : List (List ℕ × Node)) → is_sorted path_cmp es ≡ true → ((q : List ℕ) → list_any (eq_by_cmp path_cmp q) (map (λ e. e.0) es) ≡ true → find_in q ≡ find path_cmp q es) → AllGot find_in es
all_got find_in [] h same = tt
all_got find_in (e ∷ es) h same = (
  same e.0 (ap (λ b. b || list_any (eq_by_cmp path_cmp e.0) (map (λ e. e.0) es)) (same_itself e.0)) ∙ ap (λ b. cond b (Some e.1) (find path_cmp e.0 es)) (same_itself e.0),
  all_got find_in es (and_parts _ _ h).1 (λ q has. same q (or_true (eq_by_cmp path_cmp q e.0) has) ∙ ap (λ b. cond b (Some e.1) (find path_cmp q es)) (apart e.0 q (below_keys e.0 es (and_parts _ _ h).0 q has))),
)

owned_left : (nodes : NodeMap) (session : ℤ) → int_eq session (pos 0) ≡ false → (es : List (List ℕ × Node)) → is_sorted path_cmp es ≡ true → AllGot (finite.get nodes) es → AreOwned nodes session (left (λ node. int_eq node.owner session) es)
owned_left nodes session some [] h got = tt
owned_left nodes session some (e ∷ es) h got =
    let rest = owned_left nodes session some es (and_parts _ _ h).1 got.1 in
    elim (int_eq e.1.owner session) as (λ b. int_eq e.1.owner session ≡ b → AreOwned nodes session (map (λ e. e.0) (cond b (e ∷ filter (λ e. int_eq e.1.owner session) es) (filter (λ e. int_eq e.1.owner session) es)))) [
      | true ↦ λ s. (ap (option_map (λ node. node.owner)) got.0 ∙ ap Some (int_same e.1.owner session s), some, below_left (λ node. int_eq node.owner session) e.0 es (and_parts _ _ h).0, rest)
      | false ↦ λ s. rest
    ] refl
  where
    int_same : (a b : ℤ) → int_eq a b ≡ true → a ≡ b
    int_same a b e = (Decides-int_eq a b).0 e

-- those of a state
pub all_owned : (nodes : NodeMap) (session : ℤ) → AreOwned nodes session (owned_by nodes session)
all_owned nodes session = elim (int_eq session (pos 0)) as (λ b. int_eq session (pos 0) ≡ b → AreOwned nodes session (cond b [] (left (λ node. int_eq node.owner session) (finite.entries nodes)))) [
  | true ↦ λ e. tt
  | false ↦ λ e. owned_left nodes session e (finite.entries nodes) (to_true _ (finite.entries_sorted nodes)) (all_got (finite.get nodes) (finite.entries nodes) (to_true _ (finite.entries_sorted nodes)) (λ q has. finite.get-entries nodes q))
] refl

-- ---- deleting one of them

keeps_owner : (zxid : ℤ) (m : NodeMap) (above : Option (List ℕ)) (q : List ℕ) → owner_at (changed_above m above (without_child zxid)) q ≡ owner_at m q
keeps_owner zxid m None q = refl
keeps_owner zxid m (Some above) q = by_parent (finite.get m above) refl
  where
    by_parent : (x : Option Node) → finite.get m above ≡ x → owner_at (changed_found m above (without_child zxid) x) q ≡ owner_at m q
    by_parent None e = refl
    by_parent (Some parent) e =
        ap (option_map (λ node. node.owner)) (finite.get-insert nat_list_cmp_total m above (without_child zxid parent) q)
        ∙ elim (eq_by_cmp path_cmp q above) as (λ b. eq_by_cmp path_cmp q above ≡ b → option_map (λ node. node.owner) (cond b (Some (without_child zxid parent)) (finite.get m q)) ≡ owner_at m q) [
          | true ↦ λ s. sym (ap (option_map (λ node. node.owner)) (ap (finite.get m) (same_is q above s) ∙ e))
          | false ↦ λ s. refl
        ] refl

without_keeps : (txn : Txn) (m : NodeMap) (path q : List ℕ) → eq_by_cmp path_cmp q path ≡ false → owner_at (without txn m path) q ≡ owner_at m q
without_keeps txn m path q e =
    keeps_owner txn.zxid (finite.remove m path) (parent_of path) q
    ∙ ap (option_map (λ node. node.owner)) (finite.get-remove nat_list_cmp_total m path q ∙ ap (λ b. cond b None (finite.get m q)) e)

still_owned : (m n : NodeMap) (session : ℤ) (paths : List (List ℕ)) → ((q : List ℕ) → list_any (eq_by_cmp path_cmp q) paths ≡ true → owner_at n q ≡ owner_at m q) → AreOwned m session paths → AreOwned n session paths
still_owned m n session [] same h = tt
still_owned m n session (path ∷ paths) same h =
    (same path (ap (λ b. b || list_any (eq_by_cmp path_cmp path) paths) (same_itself path)) ∙ h.0, h.1, h.2, still_owned m n session paths (λ q has. same q (or_true (eq_by_cmp path_cmp q path) has)) h.3)

module _ (txn : Txn) (m : NodeMap) (session : ℤ) (paths : List (List ℕ)) (i : ℕ) (path : List ℕ) (within : i < length paths) (is : get_or paths i path ≡ path) (owned : AreOwned m session (drop i paths)) where
  cons : {A : Type 0} (F : List (List ℕ) → A) → F (path ∷ drop (i + 1) paths) ≡ F (drop i paths)
  cons F = sym (at_drop_more F paths i path within ∙ ap (λ p. F (p ∷ drop (i + 1) paths)) is)

  first : AreOwned m session (path ∷ drop (i + 1) paths)
  first = subst (λ (l : List (List ℕ)). AreOwned m session l) (sym (cons {A = List (List ℕ)} (λ l. l))) owned

  pub without_next : (n : NodeMap) → n ≡ without txn m path → without_all txn n (drop (i + 1) paths) ≡ without_all txn m (drop i paths)
  without_next n next = ap (λ n. without_all txn n (drop (i + 1) paths)) next ∙ cons (without_all txn m)

  pub owned_next : (n : NodeMap) → n ≡ without txn m path → AreOwned n session (drop (i + 1) paths)
  owned_next n next = subst (λ (n : NodeMap). AreOwned n session (drop (i + 1) paths)) (sym next) (still_owned m (without txn m path) session (drop (i + 1) paths) (λ q has. without_keeps txn m path q (apart path q (first.2 q has))) first.3)

  pub owned_there : finite.contains_key m path ≡ true
  owned_there = by_node (finite.get m path) first.0
    where
      by_node : (x : Option Node) → option_map (λ node. node.owner) x ≡ Some session → is_some x ≡ true
      by_node None e = absurd (false≢true (ap is_some e))
      by_node (Some node) e = refl

  not_free : Some session ≡ Some (pos 0) → ⊥
  not_free e = false≢true (sym first.1 ∙ ap (λ o. int_eq (unwrap_or o (pos 0)) (pos 0)) e)

  module _ (tree : IsTree m) where
    pub owned_below : IsSome (parent_of path)
    owned_below = has_parent path (λ e. not_free (sym first.0 ∙ ap (owner_at m) e ∙ tree.root))

    pub owned_childless : length (children_of m path) ≡ 0
    owned_childless = childless m path (λ child has is. not_free (sym first.0 ∙ tree.parents child path has is))
