-- The nodes of a session, and what is left without them, in any order.
use Rattle.std.proofs.Common.{◌≡◌, ℕ, ℤ, pos, List, [], ◌∷◌, Bool, true, false, cond, ◌||◌, filter, map, Option, Some, None, refl, sym, ap, ◌∙◌, ⊎_elim}
use Rattle.std.proofs.lemmas.Bool.{cond-true, cond-false, cases_Bool, both_ways, or_cases, or_left, or_right, false_from_ne_true}
use Rattle.std.proofs.lemmas.Bool.Decides.{Decides-int_eq}
use Rattle.std.proofs.lemmas.Cmp.{nat_list_cmp_total}
use Rattle.std.specs.FinMap.{get, remove, entries, find, same_map, get-entries, get-remove}
use Rattle.std.specs.List.{list_any}
use Rattle.std.specs.Option.{option_map}
use Rattle.std.specs.Ordering.{int_eq, eq_by_cmp}
use Rattle.zk_path.specs.Paths.{parent_of, is_root}
use Rattle.zk_table.specs.declared.node.Node.{Node}
use Rattle.zk_table.specs.declared.txn.Txn.{Txn}
use Rattle.zk_table.specs.Nodes.{without_child}
use Rattle.zk_table.specs.Operations.{without, without_all}
use Rattle.zk_table.specs.States.{NodeMap, path_cmp, owned_by, changed, changed_found, changed_above}
use Rattle.zk_replay_laws.proofs.Paths.{some_inj, none_some}
use Rattle.zk_replay_laws.proofs.Gets.{same_path, path_is_itself, paths_equal, path_cmp-antisymmetric, changed_at, changed_elsewhere}
use Rattle.zk_replay_laws.proofs.Owners.{OwnsNothing}
use Rattle.zk_replay_laws.proofs.Settling.{AllGot, all_got}
use Rattle.zk_replay_laws.proofs.Sound.{IsSound}
use Rattle.zk_replay_laws.proofs.Closing.{is_in, IsReady, AllReady}

-- ---- the nodes at each path, after deletes

abbrev above_of : List ℕ → Option (List ℕ) → Bool
above_of q None = false
above_of q (Some above) = eq_by_cmp path_cmp q above

abbrev is_above : List ℕ → List (List ℕ) → Bool
is_above q paths = list_any (λ p. above_of q (parent_of p)) paths

get_changed_above : (m : NodeMap) (o : Option (List ℕ)) (change : Node → Node) (q : List ℕ) → get (changed_above m o change) q ≡ cond (above_of q o) (option_map change (get m q)) (get m q)
get_changed_above m None change q = refl
get_changed_above m (Some above) change q =
    ⊎_elim
    (λ here. ap (get (changed m above change)) (same_path q above here) ∙ at (get m above) refl ∙ sym (ap (λ k. option_map change (get m k)) (same_path q above here)) ∙ sym (cond-true (eq_by_cmp path_cmp q above) _ _ here))
    (λ else. changed_elsewhere m above change q (λ e. both_ways _ else (paths_equal q above e)) ∙ sym (cond-false (eq_by_cmp path_cmp q above) _ _ else))
    (cases_Bool (eq_by_cmp path_cmp q above))
  where
    at : (o : Option Node) → get m above ≡ o → get (changed m above change) above ≡ option_map change (get m above)
    at None none = ap (λ o. get (changed_found m above change o) above) none ∙ none ∙ sym (ap (option_map change) none)
    at (Some n) some = changed_at m above change n some ∙ sym (ap (option_map change) some)

module _ (txn : Txn) where
  abbrev lost : Option Node → Option Node
  lost o = option_map (without_child txn.zxid) o

  lost_twice : (o : Option Node) → lost (lost o) ≡ lost o
  lost_twice None = refl
  lost_twice (Some n) = refl

  joined : (e m c p : Bool) (g : Option Node) → cond m None (cond p (lost (cond c (lost (cond e None g)) (cond e None g))) (cond c (lost (cond e None g)) (cond e None g))) ≡ cond (e || m) None (cond (c || p) (lost g) g)
  joined true true c p g = refl
  joined true false true true g = refl
  joined true false true false g = refl
  joined true false false true g = refl
  joined true false false false g = refl
  joined false true c p g = refl
  joined false false true true g = lost_twice g
  joined false false true false g = refl
  joined false false false true g = refl
  joined false false false false g = refl

  get_without : (m : NodeMap) (path q : List ℕ) → get (without txn m path) q ≡ cond (above_of q (parent_of path)) (lost (cond (eq_by_cmp path_cmp q path) None (get m q))) (cond (eq_by_cmp path_cmp q path) None (get m q))
  get_without m path q =
      get_changed_above (remove m path) (parent_of path) (without_child txn.zxid) q
      ∙ ap (λ o. cond (above_of q (parent_of path)) (lost o) o) (get-remove nat_list_cmp_total m path q)

  pub get_without_all : (m : NodeMap) (paths : List (List ℕ)) (q : List ℕ) → get (without_all txn m paths) q ≡ cond (is_in q paths) None (cond (is_above q paths) (lost (get m q)) (get m q))
  get_without_all m [] q = refl
  get_without_all m (path ∷ paths) q =
      get_without_all (without txn m path) paths q
      ∙ ap (λ o. cond (is_in q paths) None (cond (is_above q paths) (lost o) o)) (get_without m path q)
      ∙ joined (eq_by_cmp path_cmp q path) (is_in q paths) (above_of q (parent_of path)) (is_above q paths) (get m q)

-- ---- in any order

any_from : (f : List ℕ → Bool) (ps qs : List (List ℕ)) → ((x : List ℕ) → is_in x ps ≡ true → is_in x qs ≡ true) → list_any f ps ≡ true → list_any f qs ≡ true
any_from f [] qs same e = absurd (cc)
any_from f (p ∷ ps) qs same e =
    ⊎_elim
    (λ here. any_at qs p here (same p (or_left _ _ (path_is_itself p))))
    (λ more. any_from f ps qs (λ x has. same x (or_right _ _ has)) more)
    (or_cases (f p) (list_any f ps) e)
  where
    any_at : (rs : List (List ℕ)) (x : List ℕ) → f x ≡ true → is_in x rs ≡ true → list_any f rs ≡ true
    any_at [] x fx has = absurd (cc)
    any_at (r ∷ rs) x fx has = ⊎_elim (λ is. or_left _ _ (ap f (sym (same_path x r is)) ∙ fx)) (λ more. or_right _ _ (any_at rs x fx more)) (or_cases (eq_by_cmp path_cmp x r) (is_in x rs) has)

one_answer : (s t : Bool) → (s ≡ true → t ≡ true) → (t ≡ true → s ≡ true) → s ≡ t
one_answer true t f g = sym (f refl)
one_answer false true f g = g refl
one_answer false false f g = refl

pub any_order : (txn : Txn) (m : NodeMap) (ps qs : List (List ℕ)) → ((x : List ℕ) → is_in x ps ≡ is_in x qs) → without_all txn m ps ≡ without_all txn m qs
any_order txn m ps qs same =
    same_map nat_list_cmp_total path_cmp-antisymmetric _ _ (λ q.
    get_without_all txn m ps q
    ∙ ap (λ b. cond b None (cond (is_above q ps) (option_map (without_child txn.zxid) (get m q)) (get m q))) (same q)
    ∙ ap (λ b. cond (is_in q qs) None (cond b (option_map (without_child txn.zxid) (get m q)) (get m q)))
    (one_answer (is_above q ps) (is_above q qs) (any_from (λ p. above_of q (parent_of p)) ps qs (λ x e. sym (same x) ∙ e)) (any_from (λ p. above_of q (parent_of p)) qs ps (λ x e. same x ∙ e)))
    ∙ sym (get_without_all txn m qs q))

-- ---- which nodes a session owns

module _ (m : NodeMap) (session : ℤ) where
  abbrev owns : List ℕ × Node → Bool
  owns e = int_eq e.1.owner session

  owner_in : (q : List ℕ) (es : List (List ℕ × Node)) → AllGot (get m) es → is_in q (map (λ e. e.0) (filter owns es)) ≡ true → (n : Node) × ((get m q ≡ Some n) × (int_eq n.owner session ≡ true))
  owner_in q [] got e = absurd (cc)
  owner_in q (x ∷ es) got e =
      ⊎_elim
      (λ owned. ⊎_elim
      (λ here. (x.1, (ap (get m) (same_path q x.0 here) ∙ got.0, owned)))
      (λ more. owner_in q es got.1 more)
      (or_cases (eq_by_cmp path_cmp q x.0) _ (sym (ap (λ l. is_in q (map (λ y. y.0) l)) (cond-true (owns x) (x ∷ filter owns es) (filter owns es) owned)) ∙ e)))
      (λ other. owner_in q es got.1 (sym (ap (λ l. is_in q (map (λ y. y.0) l)) (cond-false (owns x) (x ∷ filter owns es) (filter owns es) other)) ∙ e))
      (cases_Bool (owns x))

  in_owned : (q : List ℕ) (n : Node) → int_eq n.owner session ≡ true → (es : List (List ℕ × Node)) → find path_cmp q es ≡ Some n → is_in q (map (λ e. e.0) (filter owns es)) ≡ true
  in_owned q n owned [] found = absurd (none_some found)
  in_owned q n owned (x ∷ es) found =
      ⊎_elim
      (λ here.
      let is : x.1 ≡ n = some_inj (sym (cond-true (eq_by_cmp path_cmp q x.0) (Some x.1) (find path_cmp q es) here) ∙ found) in
      ap (λ l. is_in q (map (λ y. y.0) l)) (cond-true (owns x) (x ∷ filter owns es) (filter owns es) (ap (λ y. int_eq y.owner session) is ∙ owned)) ∙ or_left _ _ here)
      (λ else.
      let rest = in_owned q n owned es (sym (cond-false (eq_by_cmp path_cmp q x.0) (Some x.1) (find path_cmp q es) else) ∙ found) in
      ⊎_elim
      (λ first. ap (λ l. is_in q (map (λ y. y.0) l)) (cond-true (owns x) (x ∷ filter owns es) (filter owns es) first) ∙ or_right _ _ rest)
      (λ other. ap (λ l. is_in q (map (λ y. y.0) l)) (cond-false (owns x) (x ∷ filter owns es) (filter owns es) other) ∙ rest)
      (cases_Bool (owns x)))
      (cases_Bool (eq_by_cmp path_cmp q x.0))

  module _ (some : int_eq session (pos 0) ≡ false) where
    all_owned : owned_by m session ≡ map (λ e. e.0) (filter owns (entries m))
    all_owned = cond-false (int_eq session (pos 0)) [] _ some

    pub owned_node : (q : List ℕ) → is_in q (owned_by m session) ≡ true → (n : Node) × ((get m q ≡ Some n) × (int_eq n.owner session ≡ true))
    owned_node q has = owner_in q (entries m) (all_got m) (sym (ap (is_in q) all_owned) ∙ has)

    pub owned_listed : (q : List ℕ) (n : Node) → get m q ≡ Some n → int_eq n.owner session ≡ true → is_in q (owned_by m session) ≡ true
    owned_listed q n there owned = ap (is_in q) all_owned ∙ in_owned q n owned (entries m) (sym (get-entries m q) ∙ there)

    -- without them the session owns nothing
    pub owns_nothing : (txn : Txn) → OwnsNothing session (without_all txn m (owned_by m session))
    owns_nothing txn q n there = false_from_ne_true _ (λ owned. by_node (get m q) refl owned)
      where
        by_node : (o : Option Node) → get m q ≡ o → int_eq n.owner session ≡ true → ⊥
        by_node o is owned =
            ⊎_elim
            (λ has. none_some (sym (get_without_all txn m (owned_by m session) q ∙ cond-true (is_in q (owned_by m session)) None _ has) ∙ there))
            (λ none. still o is owned none (sym (get_without_all txn m (owned_by m session) q ∙ cond-false (is_in q (owned_by m session)) None _ none) ∙ there))
            (cases_Bool (is_in q (owned_by m session)))
          where
            same_owner : (b : Bool) (k : Option Node) → cond b (option_map (without_child txn.zxid) k) k ≡ Some n → (x : Node) × ((k ≡ Some x) × (n.owner ≡ x.owner))
            same_owner true None e = absurd (none_some e)
            same_owner true (Some x) e = (x, (refl, ap (λ y. y.owner) (sym (some_inj e))))
            same_owner false k e = (n, (e, refl))

            still : (k : Option Node) → get m q ≡ k → int_eq n.owner session ≡ true → is_in q (owned_by m session) ≡ false → cond (is_above q (owned_by m session)) (option_map (without_child txn.zxid) (get m q)) (get m q) ≡ Some n → ⊥
            still k at owns_it none e =
                let x = same_owner (is_above q (owned_by m session)) (get m q) e in
                both_ways _ none (owned_listed q x.0 x.1.0 (ap (λ o. int_eq o session) (sym x.1.1) ∙ owns_it))

    -- each can be deleted
    ready_one : IsSound m → (q : List ℕ) → is_in q (owned_by m session) ≡ true → IsReady m q
    ready_one sound q has = by_parent (parent_of q) refl
      where
        node : (n : Node) × ((get m q ≡ Some n) × (int_eq n.owner session ≡ true))
        node = owned_node q has

        not_plain : int_eq node.0.owner (pos 0) ≡ true → ⊥
        not_plain plain = both_ways _ some (ap (λ o. int_eq o (pos 0)) (sym ((Decides-int_eq node.0.owner session).0 node.1.1)) ∙ plain)

        root_if : parent_of q ≡ None → is_root q ≡ true
        root_if none = ⊎_elim (λ root. root) (λ child. absurd (none_some (sym none ∙ cond-false (is_root q) None _ child))) (cases_Bool (is_root q))

        by_parent : (o : Option (List ℕ)) → parent_of q ≡ o → IsReady m q
        by_parent None none = absurd (not_plain (sound.root q node.0 (root_if none) node.1.0))
        by_parent (Some above) is = record {
          node = node.0;
          there = node.1.0;
          above = above;
          parent = is;
          childless = λ c parent. childless c parent (get m c) refl;
          filled = (sound.keys q (node.0, node.1.0)).filled;
          shorter = (sound.keys q (node.0, node.1.0)).shorter above is;
        }
          where
            childless : (c : List ℕ) → parent_of c ≡ Some q → (o : Option Node) → get m c ≡ o → get m c ≡ None
            childless c parent None e = e
            childless c parent (Some x) e = absurd (not_plain (sound.plain c q node.0 (x, e) parent node.1.0))

    pub all_ready : IsSound m → (paths : List (List ℕ)) → ((q : List ℕ) → is_in q paths ≡ true → is_in q (owned_by m session) ≡ true) → AllReady m paths
    all_ready sound [] each = tt
    all_ready sound (p ∷ ps) each = (ready_one sound p (each p (or_left _ _ (path_is_itself p))), all_ready sound ps (λ q has. each q (or_right _ _ has)))

-- session 0 owns nothing
pub none_owned : (m : NodeMap) (session : ℤ) → int_eq session (pos 0) ≡ true → owned_by m session ≡ []
none_owned m session zero = cond-true (int_eq session (pos 0)) [] _ zero
