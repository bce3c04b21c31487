-- Who owns the nodes after an operation on them.
use Rattle.std.proofs.Common.{◌≡◌, ◌≢◌, ◌⊎◌, inl, inr, ℕ, ℤ, pos, Bool, true, false, cond, List, [], ◌∷◌, map, filter, Option, Some, None, is_some, unwrap_or, refl, sym, ap, subst, ◌∙◌}
use Rattle.std.proofs.lemmas.Bool.{false≢true, cond-false, or_from, or_left, or_right, false_from_ne_true}
use Rattle.std.proofs.lemmas.Bool.Decides.{Decides-int_eq}
use Rattle.std.proofs.lemmas.Cmp.{nat_list_cmp_total, int_eq_equiv}
use Rattle.std.specs.FinMap as finite
use Rattle.std.specs.FinMap.{find, get, insert, remove, entries}
use Rattle.std.specs.List.{list_any}
use Rattle.std.specs.Option.{option_map}
use Rattle.std.specs.Ordering.{eq_by_cmp, int_eq}
use Rattle.zk_acl.specs.declared.acl.Acl.{Acl}
use Rattle.zk_acl.specs.declared.stat.Stat.{Stat}
use Rattle.zk_path.specs.Paths.{parent_of}
use Rattle.zk_table.specs.declared.node.Node.{Node}
use Rattle.zk_table.specs.declared.sub.Sub.{Sub}
use Rattle.zk_table.specs.declared.sub.Sub.TheVariants as subs
use Rattle.zk_table.specs.declared.txn.Txn.{Txn}
use Rattle.zk_table.specs.Nodes.{created, with_child, without_child, written, guarded}
use Rattle.zk_table.specs.Multis.{apply_part, nodes_after}
use Rattle.zk_table.specs.Operations.{done_unless, create, create_fault, delete, delete_fault, set_data, set_acl, missing_fault, without, without_all}
use Rattle.zk_table.specs.States.{NodeMap, path_cmp, owned_by, stat_at, changed, changed_found, changed_above, parent_changed}
use Rattle.zk_tree.specs.Trees.{owner_at}
use Rattle.zk_tree.proofs.Lists.{same_is}

abbrev owner_of : Option Node → Option ℤ
owner_of node = option_map (λ node. node.owner) node

-- ---- a change that leaves the owner

abbrev Leaves : (Node → Node) → Type 0
Leaves change = (node : Node) → (change node).owner ≡ node.owner

changed_keeps : (m : NodeMap) (path : List ℕ) (change : Node → Node) → Leaves change → (q : List ℕ) → owner_at (changed m path change) q ≡ owner_at m q
changed_keeps m path change same q = by_node (get m path) refl
  where
    by_node : (x : Option Node) → get m path ≡ x → owner_at (changed_found m path change x) q ≡ owner_at m q
    by_node None e = refl
    by_node (Some node) e =
        ap owner_of (finite.get-insert nat_list_cmp_total m path (change node) q)
        ∙ elim (eq_by_cmp path_cmp q path) as (λ b. eq_by_cmp path_cmp q path ≡ b → owner_of (cond b (Some (change node)) (get m q)) ≡ owner_at m q) [
          | true ↦ λ s. ap Some (same node) ∙ sym (ap owner_of (ap (get m) (same_is q path s) ∙ e))
          | false ↦ λ s. refl
        ] refl

above_keeps : (m : NodeMap) (above : Option (List ℕ)) (change : Node → Node) → Leaves change → (q : List ℕ) → owner_at (changed_above m above change) q ≡ owner_at m q
above_keeps m None change same q = refl
above_keeps m (Some path) change same q = changed_keeps m path change same q

-- ---- where owners come from

-- each owner is this session, or owned the same node before
abbrev pub ComesFrom : ℤ → NodeMap → NodeMap → Type 0
ComesFrom session old new = (q : List ℕ) (owner : ℤ) → owner_at new q ≡ Some owner → owner ≢ pos 0 → (owner ≡ session) ⊎ (owner_at old q ≡ Some owner)

pub nothing_comes : (session : ℤ) (nodes : NodeMap) → ComesFrom session nodes nodes
nothing_comes session nodes = λ q owner is some. inr is

then_comes : (session : ℤ) (a b c : NodeMap) → ComesFrom session a b → ComesFrom session b c → ComesFrom session a c
then_comes session a b c first rest = λ q owner is some. elim (rest q owner is some) [
  | inl own ↦ inl own
  | inr was ↦ first q owner was some
]

-- the same owners, or none
kept_comes : (session : ℤ) (a b c : NodeMap) → ((q : List ℕ) → owner_at c q ≡ owner_at b q) → ComesFrom session a b → ComesFrom session a c
kept_comes session a b c same first = λ q owner is some. first q owner (sym (same q) ∙ is) some

done_comes : (session : ℤ) (fault : Option ℤ) (old new : NodeMap) (path : List ℕ) (stat : Option Stat) → ComesFrom session old new → ComesFrom session old (done_unless fault old path new stat).nodes
done_comes session None old new path stat comes = comes
done_comes session (Some code) old new path stat comes = nothing_comes session old

-- ---- create

made_owner : (ephemeral : Bool) (session owner : ℤ) → Some (cond ephemeral session (pos 0)) ≡ Some owner → owner ≢ pos 0 → owner ≡ session
made_owner true session owner e some = sym (ap (λ o. unwrap_or o owner) e)
made_owner false session owner e some = absurd (some (sym (ap (λ o. unwrap_or o owner) e)))

put_comes : (txn : Txn) (nodes : NodeMap) (path : List ℕ) (content : Option (List ℕ)) (acl : List Acl) (ephemeral : Bool) → ComesFrom txn.session nodes (insert nodes path (created txn content acl ephemeral))
put_comes txn nodes path content acl ephemeral = λ q owner is some.
    elim (eq_by_cmp path_cmp q path) as (λ b. owner_of (cond b (Some (created txn content acl ephemeral)) (get nodes q)) ≡ Some owner → (owner ≡ txn.session) ⊎ (owner_at nodes q ≡ Some owner)) [
      | true ↦ λ e. inl (made_owner ephemeral txn.session owner e some)
      | false ↦ λ e. inr e
    ] (sym (ap owner_of (finite.get-insert nat_list_cmp_total nodes path (created txn content acl ephemeral) q)) ∙ is)

pub create_comes : (txn : Txn) (nodes : NodeMap) (path : List ℕ) (content : Option (List ℕ)) (acl : List Acl) (ephemeral : Bool) (count : ℤ) → ComesFrom txn.session nodes (create nodes txn path content acl ephemeral count).nodes
create_comes txn nodes path content acl ephemeral count =
    let put : NodeMap = insert nodes path (created txn content acl ephemeral) in
    done_comes txn.session (create_fault nodes path) nodes (parent_changed put path (with_child txn.zxid count)) path None
    (kept_comes txn.session nodes put (parent_changed put path (with_child txn.zxid count)) (above_keeps put (parent_of path) (with_child txn.zxid count) (λ node. refl)) (put_comes txn nodes path content acl ephemeral))

-- ---- delete, and the others

none_or : (b : Bool) (x : Option Node) → owner_of (cond b None x) ≡ cond b None (owner_of x)
none_or true x = refl
none_or false x = refl

gone_at : (txn : Txn) (m : NodeMap) (path q : List ℕ) → owner_at (without txn m path) q ≡ cond (eq_by_cmp path_cmp q path) None (owner_at m q)
gone_at txn m path q =
    above_keeps (remove m path) (parent_of path) (without_child txn.zxid) (λ node. refl) q
    ∙ ap owner_of (finite.get-remove nat_list_cmp_total m path q)
    ∙ none_or (eq_by_cmp path_cmp q path) (get m q)

-- what is left has not gone
left_of : (gone : Bool) (x : Option ℤ) (owner : ℤ) → cond gone None x ≡ Some owner → (x ≡ Some owner) × (gone ≡ false)
left_of true x owner e = absurd (false≢true (ap is_some e))
left_of false x owner e = (e, refl)

pub delete_comes : (session : ℤ) (txn : Txn) (nodes : NodeMap) (path : List ℕ) → ComesFrom session nodes (delete nodes txn path).nodes
delete_comes session txn nodes path =
    done_comes session (delete_fault nodes path) nodes (without txn nodes path) path None
    (λ q owner is some. inr (left_of (eq_by_cmp path_cmp q path) (owner_at nodes q) owner (sym (gone_at txn nodes path q) ∙ is)).0)

pub set_data_comes : (session : ℤ) (txn : Txn) (nodes : NodeMap) (path : List ℕ) (content : Option (List ℕ)) (version : ℤ) → ComesFrom session nodes (set_data nodes txn path content version).nodes
set_data_comes session txn nodes path content version =
    let new : NodeMap = changed nodes path (written txn content version) in
    done_comes session (missing_fault nodes path) nodes new path (stat_at new path)
    (kept_comes session nodes nodes new (changed_keeps nodes path (written txn content version) (λ node. refl)) (nothing_comes session nodes))

pub set_acl_comes : (session : ℤ) (nodes : NodeMap) (path : List ℕ) (acl : List Acl) (version : ℤ) → ComesFrom session nodes (set_acl nodes path acl version).nodes
set_acl_comes session nodes path acl version =
    let new : NodeMap = changed nodes path (guarded acl version) in
    done_comes session (missing_fault nodes path) nodes new path (stat_at new path)
    (kept_comes session nodes nodes new (changed_keeps nodes path (guarded acl version) (λ node. refl)) (nothing_comes session nodes))

-- ---- parts

part_comes : (txn : Txn) (nodes : NodeMap) (part : Sub) → ComesFrom txn.session nodes (apply_part txn nodes part).nodes
part_comes txn nodes (subs.Create path content acl ephemeral count) = create_comes txn nodes path content acl ephemeral count
part_comes txn nodes (subs.Delete path) = delete_comes txn.session txn nodes path
part_comes txn nodes (subs.SetData path content version) = set_data_comes txn.session txn nodes path content version
part_comes txn nodes (subs.Check path version) = nothing_comes txn.session nodes
part_comes txn nodes (subs.Error code) = nothing_comes txn.session nodes

pub parts_come : (txn : Txn) (nodes : NodeMap) (parts : List Sub) → ComesFrom txn.session nodes (nodes_after txn nodes parts)
parts_come txn nodes [] = nothing_comes txn.session nodes
parts_come txn nodes (part ∷ parts) =
    then_comes txn.session nodes (apply_part txn nodes part).nodes _ (part_comes txn nodes part) (parts_come txn (apply_part txn nodes part).nodes parts)

-- ---- all nodes of a session go

left_at : (txn : Txn) (m : NodeMap) (paths : List (List ℕ)) (q : List ℕ) (owner : ℤ) → owner_at (without_all txn m paths) q ≡ Some owner → (owner_at m q ≡ Some owner) × (list_any (eq_by_cmp path_cmp q) paths ≡ false)
left_at txn m [] q owner is = (is, refl)
left_at txn m (path ∷ paths) q owner is =
    let rest = left_at txn (without txn m path) paths q owner is in
    let first = left_of (eq_by_cmp path_cmp q path) (owner_at m q) owner (sym (gone_at txn m path q) ∙ rest.0) in
    (first.0, or_from _ _ first.1 rest.1)

module _ (session : ℤ) (q : List ℕ) where
  abbrev owned : List (List ℕ × Node) → List (List ℕ)
  owned es = map (λ e. e.0) (filter (λ e. int_eq e.1.owner session) es)

  found_in : (es : List (List ℕ × Node)) → owner_of (find path_cmp q es) ≡ Some session → list_any (eq_by_cmp path_cmp q) (owned es) ≡ true
  found_in [] is = absurd (false≢true (ap is_some is))
  found_in (e ∷ es) is =
      elim (eq_by_cmp path_cmp q e.0) as (λ b. eq_by_cmp path_cmp q e.0 ≡ b → owner_of (cond b (Some e.1) (find path_cmp q es)) ≡ Some session → list_any (eq_by_cmp path_cmp q) (owned (e ∷ es)) ≡ true) [
        | true ↦ λ s own. subst (λ kept. list_any (eq_by_cmp path_cmp q) (map (λ e. e.0) (cond kept (e ∷ filter (λ e. int_eq e.1.owner session) es) (filter (λ e. int_eq e.1.owner session) es))) ≡ true) (sym (kept own)) (or_left _ _ s)
        | false ↦ λ s own. elim (int_eq e.1.owner session) as (λ kept. list_any (eq_by_cmp path_cmp q) (map (λ e. e.0) (cond kept (e ∷ filter (λ e. int_eq e.1.owner session) es) (filter (λ e. int_eq e.1.owner session) es))) ≡ true) [
          | true ↦ or_right _ _ (found_in es own)
          | false ↦ found_in es own
        ]
      ] refl is
    where
      kept : Some e.1.owner ≡ Some session → int_eq e.1.owner session ≡ true
      kept own = ap (λ o. int_eq (unwrap_or o session) session) own ∙ int_eq_equiv.refl session

owned_found : (nodes : NodeMap) (session : ℤ) (q : List ℕ) → owner_at nodes q ≡ Some session → session ≢ pos 0 → list_any (eq_by_cmp path_cmp q) (owned_by nodes session) ≡ true
owned_found nodes session q is some =
    ap (list_any (eq_by_cmp path_cmp q)) (cond-false (int_eq session (pos 0)) _ _ (false_from_ne_true _ (λ e. some ((Decides-int_eq session (pos 0)).0 e))))
    ∙ found_in session q (entries nodes) (ap owner_of (sym (finite.get-entries nodes q)) ∙ is)

-- what is left is another session's, and was there before
pub close_leaves : (txn : Txn) (nodes : NodeMap) (session : ℤ) (q : List ℕ) (owner : ℤ) → owner_at (without_all txn nodes (owned_by nodes session)) q ≡ Some owner → owner ≢ pos 0 → (owner_at nodes q ≡ Some owner) × (owner ≢ session)
close_leaves txn nodes session q owner is some =
    let left = left_at txn nodes (owned_by nodes session) q owner is in
    (left.0, λ own. false≢true (sym left.1 ∙ owned_found nodes session q (left.0 ∙ ap Some own) (λ none. some (own ∙ none))))
