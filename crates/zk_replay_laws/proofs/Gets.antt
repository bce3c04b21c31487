-- Nodes by path, after each change.
use Rattle.std.proofs.Common.{◌≡◌, ◌≢◌, ◌⊎◌, inl, inr, ℕ, List, [], ◌∷◌, ◌++◌, length, Bool, true, false, cond, ◌||◌, Option, Some, None, refl, sym, ap, ◌∙◌, ⊎_elim, drop, Equal, Less, Greater, is_eq}
use Rattle.std.proofs.lemmas.Bool.{cond-true, cond-false, cases_Bool, both_ways, false_from_ne_true, false≢true}
use Rattle.std.proofs.lemmas.Bool.Decides.{Decides-eqb}
use Rattle.std.proofs.lemmas.Cmp.{nat_list_cmp_total, eq_by_cmp_equiv}
use Rattle.std.proofs.lemmas.Slice.Eq.{starts_is}
use Rattle.std.specs.FinMap.{FinMap, IsAntisymmetric, slice_cmp-IsAntisymmetric, nat_cmp-IsAntisymmetric, get, insert, remove, get-insert, get-remove}
use Rattle.std.specs.List.{list_any, starts_with}
use Rattle.std.specs.Ordering.{eq_by_cmp}
use Rattle.std.specs.Prelude.{nat_eq}
use Rattle.std.specs.declared.cmp.Ordering.{Ordering}
use Rattle.zk_table.specs.States.{path_cmp, NodeMap, changed, changed_found}
use Rattle.zk_table.specs.declared.node.Node.{Node}
use Rattle.zk_replay.specs.Drafts as drafts
use Rattle.zk_replay.specs.declared.draft_node.DraftNode.{DraftNode}
use Rattle.zk_replay.specs.Drafts.{DraftMap, remove_all, starting_in, without_below, removed, had_children}
use Rattle.zk_replay_laws.proofs.Paths.{IsBelow}

-- ---- equal paths

tied : (r : Ordering) → is_eq r ≡ true → r ≡ Equal
tied Less e = absurd (false≢true e)
tied Equal e = refl
tied Greater e = absurd (false≢true e)

pub path_cmp-antisymmetric : IsAntisymmetric path_cmp
path_cmp-antisymmetric = slice_cmp-IsAntisymmetric nat_cmp-IsAntisymmetric

pub same_path : (q k : List ℕ) → eq_by_cmp path_cmp q k ≡ true → q ≡ k
same_path q k e = slice_cmp-IsAntisymmetric nat_cmp-IsAntisymmetric q k (tied _ e)

pub path_is_itself : (q : List ℕ) → eq_by_cmp path_cmp q q ≡ true
path_is_itself q = (eq_by_cmp_equiv nat_list_cmp_total).refl q

pub paths_equal : (q k : List ℕ) → q ≡ k → eq_by_cmp path_cmp q k ≡ true
paths_equal q k e = ap (λ x. eq_by_cmp path_cmp q x) (sym e) ∙ path_is_itself q

pub paths_differ : (q k : List ℕ) → q ≢ k → eq_by_cmp path_cmp q k ≡ false
paths_differ q k ne = false_from_ne_true _ (λ e. ne (same_path q k e))

pub cases_path : (q k : List ℕ) → (q ≡ k) ⊎ (q ≢ k)
cases_path q k = ⊎_elim (λ e. inl (same_path q k e)) (λ e. inr (λ is. both_ways _ e (paths_equal q k is))) (cases_Bool (eq_by_cmp path_cmp q k))

-- ---- any map by paths

module _ {X : Type 0} where
  pub get_inserted : (m : FinMap path_cmp X) (k : List ℕ) (x : X) → get (insert m k x) k ≡ Some x
  get_inserted m k x = get-insert nat_list_cmp_total m k x k ∙ cond-true _ _ _ (path_is_itself k)

  pub get_inserted_elsewhere : (m : FinMap path_cmp X) (k : List ℕ) (x : X) (q : List ℕ) → q ≢ k → get (insert m k x) q ≡ get m q
  get_inserted_elsewhere m k x q ne = get-insert nat_list_cmp_total m k x q ∙ cond-false _ _ _ (paths_differ q k ne)

  pub get_removed_at : (m : FinMap path_cmp X) (k : List ℕ) → get (remove m k) k ≡ None
  get_removed_at m k = get-remove nat_list_cmp_total m k k ∙ cond-true _ _ _ (path_is_itself k)

  pub get_removed_elsewhere : (m : FinMap path_cmp X) (k q : List ℕ) → q ≢ k → get (remove m k) q ≡ get m q
  get_removed_elsewhere m k q ne = get-remove nat_list_cmp_total m k q ∙ cond-false _ _ _ (paths_differ q k ne)

-- ---- nodes

pub changed_at : (m : NodeMap) (k : List ℕ) (change : Node → Node) (n : Node) → get m k ≡ Some n → get (changed m k change) k ≡ Some (change n)
changed_at m k change n there = ap (λ o. get (changed_found m k change o) k) there ∙ get_inserted m k (change n)

changed_found_elsewhere : (m : NodeMap) (k : List ℕ) (change : Node → Node) (q : List ℕ) (o : Option Node) → q ≢ k → get (changed_found m k change o) q ≡ get m q
changed_found_elsewhere m k change q None ne = refl
changed_found_elsewhere m k change q (Some n) ne = get_inserted_elsewhere m k (change n) q ne

pub changed_elsewhere : (m : NodeMap) (k : List ℕ) (change : Node → Node) (q : List ℕ) → q ≢ k → get (changed m k change) q ≡ get m q
changed_elsewhere m k change q ne = changed_found_elsewhere m k change q (get m k) ne

-- ---- drafts

pub draft_changed_at : (m : DraftMap) (k : List ℕ) (change : DraftNode → DraftNode) (n : DraftNode) → get m k ≡ Some n → get (drafts.changed m k change) k ≡ Some (change n)
draft_changed_at m k change n there = ap (λ o. get (drafts.changed_found m k change o) k) there ∙ get_inserted m k (change n)

draft_changed_found_elsewhere : (m : DraftMap) (k : List ℕ) (change : DraftNode → DraftNode) (q : List ℕ) (o : Option DraftNode) → q ≢ k → get (drafts.changed_found m k change o) q ≡ get m q
draft_changed_found_elsewhere m k change q None ne = refl
draft_changed_found_elsewhere m k change q (Some n) ne = get_inserted_elsewhere m k (change n) q ne

pub draft_changed_elsewhere : (m : DraftMap) (k : List ℕ) (change : DraftNode → DraftNode) (q : List ℕ) → q ≢ k → get (drafts.changed m k change) q ≡ get m q
draft_changed_elsewhere m k change q ne = draft_changed_found_elsewhere m k change q (get m k) ne

pub draft_changed_absent : (m : DraftMap) (k : List ℕ) (change : DraftNode → DraftNode) → get m k ≡ None → drafts.changed m k change ≡ m
draft_changed_absent m k change none = ap (drafts.changed_found m k change) none

-- ---- a node that is removed with all below it

pub get_remove_all : (m : DraftMap) (paths : List (List ℕ)) (q : List ℕ) → get (remove_all m paths) q ≡ cond (list_any (eq_by_cmp path_cmp q) paths) None (get m q)
unfolding remove_all
get_remove_all m [] q = refl
get_remove_all m (p ∷ ps) q =
    get_remove_all (remove m p) ps q
    ∙ ap (cond (list_any (eq_by_cmp path_cmp q) ps) None) (get-remove nat_list_cmp_total m p q)
    ∙ both_none (eq_by_cmp path_cmp q p) (list_any (eq_by_cmp path_cmp q) ps) (get m q)
  where
    both_none : (b c : Bool) (o : Option DraftNode) → cond c None (cond b None o) ≡ cond (b || c) None o
    both_none true true o = refl
    both_none true false o = refl
    both_none false c o = refl

pub begins : (path q : List ℕ) → starts_with nat_eq q (path ++ 47 ∷ []) ≡ true → IsBelow path q
begins path q e = let rest = drop (length (path ++ 47 ∷ [])) q in (rest, (starts_is Decides-eqb q (path ++ 47 ∷ []) _ refl).0 e ∙ seam path rest)
  where
    seam : (xs rest : List ℕ) → (xs ++ 47 ∷ []) ++ rest ≡ xs ++ 47 ∷ rest
    seam [] rest = refl
    seam (x ∷ xs) rest = ap (λ zs. x ∷ zs) (seam xs rest)

pub starts_below : (path q : List ℕ) → IsBelow path q → starts_with nat_eq q (path ++ 47 ∷ []) ≡ true
starts_below path q below = (starts_is Decides-eqb q (path ++ 47 ∷ []) _ refl).1 below.0 (below.1 ∙ sym (seam path below.0))
  where
    seam : (xs rest : List ℕ) → (xs ++ 47 ∷ []) ++ rest ≡ xs ++ 47 ∷ rest
    seam [] rest = refl
    seam (x ∷ xs) rest = ap (λ zs. x ∷ zs) (seam xs rest)

pub cases_below : (path q : List ℕ) → IsBelow path q ⊎ (IsBelow path q → ⊥)
cases_below path q = ⊎_elim (λ e. inl (begins path q e)) (λ e. inr (λ below. both_ways _ e (starts_below path q below))) (cases_Bool (starts_with nat_eq q (path ++ 47 ∷ [])))
