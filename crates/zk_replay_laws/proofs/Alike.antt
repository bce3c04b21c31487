-- States that differ in the zxids of children alone: each transaction does the same to both.
use Rattle.std.proofs.Common.{◌≡◌, ℕ, ℤ, pos, negsuc, List, [], ◌∷◌, Bool, true, false, cond, ◌&&◌, T, filter, map, length, is_lt, is_none, is_some, nat_lt, Option, Some, None, refl, sym, ap, subst, ◌∙◌, ⊎_elim}
use Rattle.std.proofs.lemmas.Cmp.{nat_list_cmp_total}
use Rattle.std.specs.FinMap.{FinMap, get, insert, remove, entries, entries_sorted, keys, find, is_sorted, contains_key, from_sorted, entries-from_sorted, get-entries, get-from_sorted, same_map}
use Rattle.std.specs.List.{list_any}
use Rattle.std.specs.Option.{option_map, option_and_then}
use Rattle.std.specs.Ordering.{int_eq, eq_by_cmp}
use Rattle.zk_acl.specs.declared.acl.Acl.{Acl}
use Rattle.zk_acl.specs.declared.stat.Stat.{Stat}
use Rattle.zk_path.specs.Paths.{parent_of}
use Rattle.zk_table.specs.declared.node.Node.{Node}
use Rattle.zk_table.specs.declared.sub.Sub.{Sub}
use Rattle.zk_table.specs.declared.sub.Sub.TheVariants as subs
use Rattle.zk_table.specs.declared.txn.Op.{Op}
use Rattle.zk_table.specs.declared.txn.Op.TheVariants as ops
use Rattle.zk_table.specs.declared.txn.Txn.{Txn}
use Rattle.zk_table.specs.Nodes.{with_child, without_child, written, guarded, created}
use Rattle.zk_table.specs.Codes.{node_exists, no_node, bad_arguments, not_empty}
use Rattle.zk_table.specs.Parts.{is_error}
use Rattle.zk_table.specs.States.{NodeMap, State, path_cmp, is_child_of, children_of, owned_by, changed, changed_found, changed_above}
use Rattle.zk_table.specs.Operations.{done_unless, parent_fault, create_fault, create, without, delete_fault, delete, missing_fault, set_data, set_acl, without_all}
use Rattle.zk_table.specs.Multis.{apply_part, nodes_after, told_parts, answers_of, answers_unapplied}
use Rattle.zk_table.specs.Histories.{state_after}
use Rattle.zk_table.specs.Steps.{step, step_by}
use Rattle.zk_replay_laws.specs.Windows.{IsAlike}
use Rattle.zk_replay_laws.proofs.Paths.{some_inj, none_some}
use Rattle.zk_replay_laws.proofs.Gets.{cases_path, path_cmp-antisymmetric, get_inserted, get_inserted_elsewhere, get_removed_at, get_removed_elsewhere, changed_at, changed_elsewhere}
use Rattle.zk_replay_laws.proofs.Changes.{Field, Content, Acls, Czxid, Mzxid, Pzxid, Ctime, Mtime, Version, Creates, Aversion, Owner, value, cell}
use Rattle.zk_replay_laws.proofs.Settling.{same_node}

abbrev with_pzxid : ℤ → Node → Node
with_pzxid zxid node = record node { pzxid = zxid }

abbrev NodesAlike : NodeMap → NodeMap → Type 0
NodesAlike m n = (q : List ℕ) → (zxid : ℤ) × (get m q ≡ option_map (with_pzxid zxid) (get n q))

-- ---- the fields

fields_alike : (a b : Option Node) → ((f : Field) → (f ≡ Pzxid → ⊥) → cell f a ≡ cell f b) → (zxid : ℤ) × (a ≡ option_map (with_pzxid zxid) b)
fields_alike None None h = (pos 0, refl)
fields_alike None (Some y) h = absurd (none_some (h Owner (λ e. absurd (cc))))
fields_alike (Some x) None h = absurd (none_some (sym (h Owner (λ e. absurd (cc)))))
fields_alike (Some x) (Some y) h = (x.pzxid, ap Some (same_node x (with_pzxid x.pzxid y) each))
  where
    each : (f : Field) → value f x ≡ value f (with_pzxid x.pzxid y)
    each Content = some_inj (h Content (λ e. absurd (cc)))
    each Acls = some_inj (h Acls (λ e. absurd (cc)))
    each Czxid = some_inj (h Czxid (λ e. absurd (cc)))
    each Mzxid = some_inj (h Mzxid (λ e. absurd (cc)))
    each Pzxid = refl
    each Ctime = some_inj (h Ctime (λ e. absurd (cc)))
    each Mtime = some_inj (h Mtime (λ e. absurd (cc)))
    each Version = some_inj (h Version (λ e. absurd (cc)))
    each Creates = some_inj (h Creates (λ e. absurd (cc)))
    each Aversion = some_inj (h Aversion (λ e. absurd (cc)))
    each Owner = some_inj (h Owner (λ e. absurd (cc)))

alike_fields : (o : Option Node) (zxid : ℤ) (f : Field) → (f ≡ Pzxid → ⊥) → cell f (option_map (with_pzxid zxid) o) ≡ cell f o
alike_fields None zxid f other = refl
alike_fields (Some n) zxid Content other = refl
alike_fields (Some n) zxid Acls other = refl
alike_fields (Some n) zxid Czxid other = refl
alike_fields (Some n) zxid Mzxid other = refl
alike_fields (Some n) zxid Pzxid other = absurd (other refl)
alike_fields (Some n) zxid Ctime other = refl
alike_fields (Some n) zxid Mtime other = refl
alike_fields (Some n) zxid Version other = refl
alike_fields (Some n) zxid Creates other = refl
alike_fields (Some n) zxid Aversion other = refl
alike_fields (Some n) zxid Owner other = refl

same_owner : (m n : NodeMap) → NodesAlike m n → (q : List ℕ) → cell Owner (get m q) ≡ cell Owner (get n q)
same_owner m n alike q = ap (cell Owner) (alike q).1 ∙ alike_fields (get n q) (alike q).0 Owner (λ e. absurd (cc))

-- ---- the same keys and owners

abbrev owner_of : List ℕ × Node → List ℕ × ℤ
owner_of e = (e.0, e.1.owner)

abbrev below_all : {X : Type 0} → List ℕ → List (List ℕ × X) → Bool
below_all x [] = true
below_all x (e ∷ es) = is_lt (path_cmp x e.0) && below_all x es

below_owners : (x : List ℕ) (es : List (List ℕ × Node)) → below_all x (map owner_of es) ≡ below_all x es
below_owners x [] = refl
below_owners x (e ∷ es) = ap (λ b. is_lt (path_cmp x e.0) && b) (below_owners x es)

sorted_owners : (es : List (List ℕ × Node)) → is_sorted path_cmp (map owner_of es) ≡ is_sorted path_cmp es
sorted_owners [] = refl
sorted_owners (e ∷ es) = ap (λ b. b && is_sorted path_cmp (map owner_of es)) (below_owners e.0 es) ∙ ap (λ b. below_all e.0 es && b) (sorted_owners es)

find_owners : (q : List ℕ) (es : List (List ℕ × Node)) → find path_cmp q (map owner_of es) ≡ cell Owner (find path_cmp q es)
find_owners q [] = refl
find_owners q (e ∷ es) = ap (λ o. cond (eq_by_cmp path_cmp q e.0) (Some e.1.owner) o) (find_owners q es) ∙ by_test (eq_by_cmp path_cmp q e.0)
  where
    by_test : (b : Bool) → cond b (Some e.1.owner) (cell Owner (find path_cmp q es)) ≡ cell Owner (cond b (Some e.1) (find path_cmp q es))
    by_test true = refl
    by_test false = refl

abbrev owners : NodeMap → FinMap path_cmp ℤ
owners m = from_sorted (map owner_of (entries m))

owners_are_sorted : (m : NodeMap) → T (is_sorted path_cmp (map owner_of (entries m)))
owners_are_sorted m = subst T (sym (sorted_owners (entries m))) (entries_sorted m)

get_owners : (m : NodeMap) (q : List ℕ) → get (owners m) q ≡ cell Owner (get m q)
get_owners m q = get-from_sorted path_cmp (map owner_of (entries m)) q (owners_are_sorted m) ∙ find_owners q (entries m) ∙ sym (ap (cell Owner) (get-entries m q))

same_owners : (m n : NodeMap) → NodesAlike m n → map owner_of (entries m) ≡ map owner_of (entries n)
same_owners m n alike =
    sym (entries-from_sorted path_cmp (map owner_of (entries m)) (owners_are_sorted m))
    ∙ ap entries (same_map nat_list_cmp_total path_cmp-antisymmetric (owners m) (owners n) (λ q. get_owners m q ∙ same_owner m n alike q ∙ sym (get_owners n q)))
    ∙ entries-from_sorted path_cmp (map owner_of (entries n)) (owners_are_sorted n)

keys_of : (es : List (List ℕ × Node)) → map (λ e. e.0) es ≡ map (λ p. p.0) (map owner_of es)
keys_of [] = refl
keys_of (e ∷ es) = ap (λ l. e.0 ∷ l) (keys_of es)

same_keys : (m n : NodeMap) → NodesAlike m n → keys m ≡ keys n
same_keys m n alike = keys_of (entries m) ∙ ap (map (λ p. p.0)) (same_owners m n alike) ∙ sym (keys_of (entries n))

owned_of : (session : ℤ) (es : List (List ℕ × Node)) → map (λ e. e.0) (filter (λ e. int_eq e.1.owner session) es) ≡ map (λ p. p.0) (filter (λ p. int_eq p.1 session) (map owner_of es))
owned_of session [] = refl
owned_of session (e ∷ es) = by_test (int_eq e.1.owner session) (owned_of session es)
  where
    by_test : (b : Bool) → map (λ x. x.0) (filter (λ x. int_eq x.1.owner session) es) ≡ map (λ p. p.0) (filter (λ p. int_eq p.1 session) (map owner_of es)) → map (λ x. x.0) (cond b (e ∷ filter (λ x. int_eq x.1.owner session) es) (filter (λ x. int_eq x.1.owner session) es)) ≡ map (λ p. p.0) (cond b (owner_of e ∷ filter (λ p. int_eq p.1 session) (map owner_of es)) (filter (λ p. int_eq p.1 session) (map owner_of es)))
    by_test true rest = ap (λ l. e.0 ∷ l) rest
    by_test false rest = rest

same_owned : (m n : NodeMap) (session : ℤ) → NodesAlike m n → owned_by m session ≡ owned_by n session
same_owned m n session alike = ap (λ l. cond (int_eq session (pos 0)) [] l) (owned_of session (entries m) ∙ ap (λ l. map (λ p. p.0) (filter (λ p. int_eq p.1 session) l)) (same_owners m n alike) ∙ sym (owned_of session (entries n)))

same_children : (m n : NodeMap) (path : List ℕ) → NodesAlike m n → children_of m path ≡ children_of n path
same_children m n path alike = ap (filter (is_child_of path)) (same_keys m n alike)

has_owner : (o : Option Node) → is_some o ≡ is_some (cell Owner o)
has_owner None = refl
has_owner (Some n) = refl

same_contains : (m n : NodeMap) (path : List ℕ) → NodesAlike m n → contains_key m path ≡ contains_key n path
same_contains m n path alike = has_owner (get m path) ∙ ap is_some (same_owner m n alike path) ∙ sym (has_owner (get n path))

-- ---- changes

abbrev RespectsPzxids : (Node → Node) → Type 0
RespectsPzxids change = (zxid : ℤ) → (new : ℤ) × ((node : Node) → change (with_pzxid zxid node) ≡ with_pzxid new (change node))

inserted_alike : (m n : NodeMap) (path : List ℕ) (node : Node) → NodesAlike m n → NodesAlike (insert m path node) (insert n path node)
inserted_alike m n path node alike q =
    ⊎_elim
    (λ e. (node.pzxid, ap (get (insert m path node)) e ∙ get_inserted m path node ∙ sym (ap (option_map (with_pzxid node.pzxid)) (ap (get (insert n path node)) e ∙ get_inserted n path node))))
    (λ other. ((alike q).0, get_inserted_elsewhere m path node q other ∙ (alike q).1 ∙ sym (ap (option_map (with_pzxid (alike q).0)) (get_inserted_elsewhere n path node q other))))
    (cases_path q path)

removed_alike : (m n : NodeMap) (path : List ℕ) → NodesAlike m n → NodesAlike (remove m path) (remove n path)
removed_alike m n path alike q =
    ⊎_elim
    (λ e. (pos 0, ap (get (remove m path)) e ∙ get_removed_at m path ∙ sym (ap (option_map (with_pzxid (pos 0))) (ap (get (remove n path)) e ∙ get_removed_at n path))))
    (λ other. ((alike q).0, get_removed_elsewhere m path q other ∙ (alike q).1 ∙ sym (ap (option_map (with_pzxid (alike q).0)) (get_removed_elsewhere n path q other))))
    (cases_path q path)

get_changed : (m : NodeMap) (path : List ℕ) (change : Node → Node) → get (changed m path change) path ≡ option_map change (get m path)
get_changed m path change = at (get m path) refl
  where
    at : (o : Option Node) → get m path ≡ o → get (changed m path change) path ≡ option_map change (get m path)
    at None none = ap (λ o. get (changed_found m path change o) path) none ∙ none ∙ sym (ap (option_map change) none)
    at (Some n) some = changed_at m path change n some ∙ sym (ap (option_map change) some)

changed_alike : (m n : NodeMap) (path : List ℕ) (change : Node → Node) → RespectsPzxids change → NodesAlike m n → NodesAlike (changed m path change) (changed n path change)
changed_alike m n path change respects alike q =
    ⊎_elim
    (λ e. let new = respects (alike path).0 in
    (new.0, ap (get (changed m path change)) e ∙ get_changed m path change ∙ ap (option_map change) (alike path).1 ∙ through (get n path) (alike path).0 ∙ sym (ap (option_map (with_pzxid new.0)) (ap (get (changed n path change)) e ∙ get_changed n path change))))
    (λ other. ((alike q).0, changed_elsewhere m path change q other ∙ (alike q).1 ∙ sym (ap (option_map (with_pzxid (alike q).0)) (changed_elsewhere n path change q other))))
    (cases_path q path)
  where
    through : (o : Option Node) (zxid : ℤ) → option_map change (option_map (with_pzxid zxid) o) ≡ option_map (with_pzxid (respects zxid).0) (option_map change o)
    through None zxid = refl
    through (Some node) zxid = ap Some ((respects zxid).1 node)

above_alike : (m n : NodeMap) (o : Option (List ℕ)) (change : Node → Node) → RespectsPzxids change → NodesAlike m n → NodesAlike (changed_above m o change) (changed_above n o change)
above_alike m n None change respects alike = alike
above_alike m n (Some above) change respects alike = changed_alike m n above change respects alike

with_child_respects : (zxid count : ℤ) → RespectsPzxids (with_child zxid count)
with_child_respects zxid count old = (zxid, λ node. refl)

without_child_respects : (zxid : ℤ) → RespectsPzxids (without_child zxid)
without_child_respects zxid old = (zxid, λ node. refl)

written_respects : (txn : Txn) (content : Option (List ℕ)) (version : ℤ) → RespectsPzxids (written txn content version)
written_respects txn content version old = (old, λ node. refl)

guarded_respects : (acl : List Acl) (version : ℤ) → RespectsPzxids (guarded acl version)
guarded_respects acl version old = (old, λ node. refl)

-- ---- operations

done_alike : (fault other : Option ℤ) → fault ≡ other → (m n m' n' : NodeMap) (path : List ℕ) (stat stat' : Option Stat) → NodesAlike m n → NodesAlike m' n' → NodesAlike (done_unless fault m path m' stat).nodes (done_unless other n path n' stat').nodes
done_alike fault other e m n m' n' path stat stat' old new = subst (λ o. NodesAlike (done_unless fault m path m' stat).nodes (done_unless o n path n' stat').nodes) e (by_fault fault)
  where
    by_fault : (o : Option ℤ) → NodesAlike (done_unless o m path m' stat).nodes (done_unless o n path n' stat').nodes
    by_fault None = new
    by_fault (Some code) = old

parent_faults : (m n : NodeMap) (o : Option (List ℕ)) → NodesAlike m n → parent_fault (option_and_then (get m) o) ≡ parent_fault (option_and_then (get n) o)
parent_faults m n None alike = refl
parent_faults m n (Some above) alike = ap parent_fault (alike above).1 ∙ same (get n above) (alike above).0
  where
    same : (o : Option Node) (zxid : ℤ) → parent_fault (option_map (with_pzxid zxid) o) ≡ parent_fault o
    same None zxid = refl
    same (Some node) zxid = refl

create_alike : (m n : NodeMap) (txn : Txn) (path : List ℕ) (content : Option (List ℕ)) (acl : List Acl) (ephemeral : Bool) (count : ℤ) → NodesAlike m n → NodesAlike (create m txn path content acl ephemeral count).nodes (create n txn path content acl ephemeral count).nodes
create_alike m n txn path content acl ephemeral count alike =
    done_alike (create_fault m path) (create_fault n path)
    (ap (λ b. cond b (Some node_exists) (parent_fault (option_and_then (get m) (parent_of path)))) (same_contains m n path alike) ∙ ap (λ o. cond (contains_key n path) (Some node_exists) o) (parent_faults m n (parent_of path) alike))
    m n _ _ path None None alike
    (above_alike _ _ (parent_of path) (with_child txn.zxid count) (with_child_respects txn.zxid count) (inserted_alike m n path (created txn content acl ephemeral) alike))

without_alike : (m n : NodeMap) (txn : Txn) (path : List ℕ) → NodesAlike m n → NodesAlike (without txn m path) (without txn n path)
without_alike m n txn path alike = above_alike _ _ (parent_of path) (without_child txn.zxid) (without_child_respects txn.zxid) (removed_alike m n path alike)

delete_alike : (m n : NodeMap) (txn : Txn) (path : List ℕ) → NodesAlike m n → NodesAlike (delete m txn path).nodes (delete n txn path).nodes
delete_alike m n txn path alike =
    done_alike (delete_fault m path) (delete_fault n path)
    (ap (λ b. cond (is_none (parent_of path)) (Some bad_arguments) (cond b (cond (nat_lt 0 (length (children_of m path))) (Some not_empty) None) (Some no_node))) (same_contains m n path alike)
    ∙ ap (λ l. cond (is_none (parent_of path)) (Some bad_arguments) (cond (contains_key n path) (cond (nat_lt 0 (length l)) (Some not_empty) None) (Some no_node))) (same_children m n path alike))
    m n _ _ path None None alike (without_alike m n txn path alike)

missing_faults : (m n : NodeMap) (path : List ℕ) → NodesAlike m n → missing_fault m path ≡ missing_fault n path
missing_faults m n path alike = ap (λ b. cond b None (Some no_node)) (same_contains m n path alike)

set_data_alike : (m n : NodeMap) (txn : Txn) (path : List ℕ) (content : Option (List ℕ)) (version : ℤ) → NodesAlike m n → NodesAlike (set_data m txn path content version).nodes (set_data n txn path content version).nodes
set_data_alike m n txn path content version alike =
    done_alike (missing_fault m path) (missing_fault n path) (missing_faults m n path alike) m n _ _ path _ _ alike (changed_alike m n path (written txn content version) (written_respects txn content version) alike)

set_acl_alike : (m n : NodeMap) (path : List ℕ) (acl : List Acl) (version : ℤ) → NodesAlike m n → NodesAlike (set_acl m path acl version).nodes (set_acl n path acl version).nodes
set_acl_alike m n path acl version alike =
    done_alike (missing_fault m path) (missing_fault n path) (missing_faults m n path alike) m n _ _ path _ _ alike (changed_alike m n path (guarded acl version) (guarded_respects acl version) alike)

without_all_alike : (m n : NodeMap) (txn : Txn) (paths : List (List ℕ)) → NodesAlike m n → NodesAlike (without_all txn m paths) (without_all txn n paths)
without_all_alike m n txn [] alike = alike
without_all_alike m n txn (path ∷ paths) alike = without_all_alike (without txn m path) (without txn n path) txn paths (without_alike m n txn path alike)

part_alike : (m n : NodeMap) (txn : Txn) (part : Sub) → NodesAlike m n → NodesAlike (apply_part txn m part).nodes (apply_part txn n part).nodes
part_alike m n txn (subs.Create path content acl ephemeral count) alike = create_alike m n txn path content acl ephemeral count alike
part_alike m n txn (subs.Delete path) alike = delete_alike m n txn path alike
part_alike m n txn (subs.SetData path content version) alike = set_data_alike m n txn path content version alike
part_alike m n txn (subs.Check path version) alike = alike
part_alike m n txn (subs.Error code) alike = alike

parts_alike : (m n : NodeMap) (txn : Txn) (parts : List Sub) → NodesAlike m n → NodesAlike (nodes_after txn m parts) (nodes_after txn n parts)
parts_alike m n txn [] alike = alike
parts_alike m n txn (part ∷ parts) alike = parts_alike (apply_part txn m part).nodes (apply_part txn n part).nodes txn parts (part_alike m n txn part alike)

-- ---- transactions

record StatesAlike (a b : State) : Type 0 where
  nodes : NodesAlike a.nodes b.nodes
  sessions : a.sessions ≡ b.sessions
  last : a.last ≡ b.last

module _ (a b : State) (alike : StatesAlike a b) (txn : Txn) where
  multi_alike : (parts : List Sub) (t : Bool) → StatesAlike (cond t (told_parts a txn a.nodes (answers_unapplied (pos 0) parts)) (told_parts a txn (nodes_after txn a.nodes parts) (answers_of txn a.nodes parts))).0 (cond t (told_parts b txn b.nodes (answers_unapplied (pos 0) parts)) (told_parts b txn (nodes_after txn b.nodes parts) (answers_of txn b.nodes parts))).0
  multi_alike parts true = record { nodes = alike.nodes; sessions = alike.sessions; last = refl }
  multi_alike parts false = record { nodes = parts_alike a.nodes b.nodes txn parts alike.nodes; sessions = alike.sessions; last = refl }

  step_alike : (op : Op) → StatesAlike (step_by a txn op).0 (step_by b txn op).0
  step_alike (ops.Create path content acl ephemeral count) = record { nodes = create_alike a.nodes b.nodes txn path content acl ephemeral count alike.nodes; sessions = alike.sessions; last = refl }
  step_alike (ops.CreateOld path content acl ephemeral) = record { nodes = create_alike a.nodes b.nodes txn path content acl ephemeral (negsuc 0) alike.nodes; sessions = alike.sessions; last = refl }
  step_alike (ops.Delete path) = record { nodes = delete_alike a.nodes b.nodes txn path alike.nodes; sessions = alike.sessions; last = refl }
  step_alike (ops.SetData path content version) = record { nodes = set_data_alike a.nodes b.nodes txn path content version alike.nodes; sessions = alike.sessions; last = refl }
  step_alike (ops.SetAcl path acl version) = record { nodes = set_acl_alike a.nodes b.nodes path acl version alike.nodes; sessions = alike.sessions; last = refl }
  step_alike (ops.OpenSession timeout) = record { nodes = alike.nodes; sessions = ap (λ m. (step_by (record a { sessions = m }) txn (ops.OpenSession timeout)).0.sessions) alike.sessions; last = refl }
  step_alike ops.CloseSession = record {
    nodes = subst (λ paths. NodesAlike (without_all txn a.nodes (owned_by a.nodes txn.session)) (without_all txn b.nodes paths)) (same_owned a.nodes b.nodes txn.session alike.nodes)
        (without_all_alike a.nodes b.nodes txn (owned_by a.nodes txn.session) alike.nodes);
    sessions = ap (λ m. (step_by (record a { sessions = m }) txn ops.CloseSession).0.sessions) alike.sessions;
    last = refl;
  }
  step_alike (ops.Multi parts) = multi_alike parts (list_any is_error parts)
  step_alike (ops.Error code) = record { nodes = alike.nodes; sessions = alike.sessions; last = refl }

states_alike : (a b : State) (txns : List Txn) → StatesAlike a b → StatesAlike (state_after a txns) (state_after b txns)
states_alike a b [] alike = alike
states_alike a b (txn ∷ txns) alike = states_alike (step a txn).0 (step b txn).0 txns (step_alike a b alike txn txn.op)

pub alike_after : (a b : State) (txns : List Txn) → IsAlike a b → IsAlike (state_after a txns) (state_after b txns)
alike_after a b txns is =
    let after = states_alike a b txns (record { nodes = λ q. fields_alike (get a.nodes q) (get b.nodes q) (λ f other. is.nodes q f other); sessions = is.sessions; last = is.last }) in
    record {
      nodes = λ q f other. ap (cell f) (after.nodes q).1 ∙ alike_fields (get (state_after b txns).nodes q) (after.nodes q).0 f other;
      sessions = after.sessions;
      last = after.last;
    }
