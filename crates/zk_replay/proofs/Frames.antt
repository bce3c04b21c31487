-- A transaction leaves the nodes at all paths that it does not touch.
use Rattle.std.proofs.Common.{◌≡◌, ℕ, ℤ, pos, negsuc, Bool, true, false, cond, List, [], ◌∷◌, Option, Some, None, is_some, refl, sym, ap, ◌∙◌}
use Rattle.std.proofs.lemmas.Bool.{false≢true}
use Rattle.std.proofs.lemmas.Cmp.{nat_list_cmp_total}
use Rattle.std.specs.FinMap as finite
use Rattle.std.specs.List.{list_any}
use Rattle.std.specs.Ordering.{eq_by_cmp}
use Rattle.zk_acl.specs.declared.acl.Acl.{Acl}
use Rattle.zk_acl.specs.declared.stat.Stat.{Stat}
use Rattle.zk_path.specs.Paths.{parent_of}
use Rattle.zk_table.specs.declared.node.Node.{Node}
use Rattle.zk_table.specs.declared.sub.Sub.{Sub}
use Rattle.zk_table.specs.declared.sub.Sub.TheVariants as subs
use Rattle.zk_table.specs.declared.txn.Op.{Op}
use Rattle.zk_table.specs.declared.txn.Op.TheVariants as ops
use Rattle.zk_table.specs.declared.txn.Txn.{Txn}
use Rattle.zk_table.specs.Nodes.{created, guarded, with_child, without_child, written}
use Rattle.zk_table.specs.Parts.{is_error}
use Rattle.zk_table.specs.Multis.{answers_of, answers_unapplied, apply_part, nodes_after, told_parts}
use Rattle.zk_table.specs.Operations.{create, create_fault, delete, delete_fault, done_unless, missing_fault, set_acl, set_data, without, without_all}
use Rattle.zk_table.specs.States.{NodeMap, State, changed, changed_above, changed_found, owned_by, parent_changed, path_cmp, stat_at}
use Rattle.zk_table.specs.Steps.{step, step_by}
use Rattle.zk_tree.specs.Views.{PathKeys}
use Rattle.zk_replay.specs.Touching.{touched, touched_by, with_all, with_both, with_parent, with_part, with_parts, with_path}

-- ---- sets of paths

-- a path that is not in a set with one more
pub not_one : (paths : PathKeys) (path q : List ℕ) → finite.contains_key (with_path paths path) q ≡ false → (eq_by_cmp path_cmp q path ≡ false) × (finite.contains_key paths q ≡ false)
not_one paths path q h = by_eq (eq_by_cmp path_cmp q path) refl (sym (ap is_some (finite.get-insert nat_list_cmp_total paths path tt q)) ∙ h)
  where
    by_eq : (b : Bool) → eq_by_cmp path_cmp q path ≡ b → is_some (cond b (Some tt) (finite.get paths q)) ≡ false → (eq_by_cmp path_cmp q path ≡ false) × (finite.contains_key paths q ≡ false)
    by_eq true e h = absurd (false≢true (sym h))
    by_eq false e h = (e, h)

-- ---- changes

elsewhere : {X : Type 0} (b : Bool) (x y : X) → b ≡ false → cond b x y ≡ y
elsewhere true x y e = absurd (false≢true (sym e))
elsewhere false x y e = refl

inserted : (m : NodeMap) (p : List ℕ) (node : Node) (q : List ℕ) → eq_by_cmp path_cmp q p ≡ false → finite.get (finite.insert m p node) q ≡ finite.get m q
inserted m p node q e = finite.get-insert nat_list_cmp_total m p node q ∙ elsewhere _ (Some node) (finite.get m q) e

removed : (m : NodeMap) (p : List ℕ) (q : List ℕ) → eq_by_cmp path_cmp q p ≡ false → finite.get (finite.remove m p) q ≡ finite.get m q
removed m p q e = finite.get-remove nat_list_cmp_total m p q ∙ elsewhere _ None (finite.get m q) e

found_apart : (m : NodeMap) (p : List ℕ) (f : Node → Node) (q : List ℕ) (x : Option Node) → eq_by_cmp path_cmp q p ≡ false → finite.get (changed_found m p f x) q ≡ finite.get m q
found_apart m p f q None e = refl
found_apart m p f q (Some node) e = inserted m p (f node) q e

changed_apart : (m : NodeMap) (p : List ℕ) (f : Node → Node) (q : List ℕ) → eq_by_cmp path_cmp q p ≡ false → finite.get (changed m p f) q ≡ finite.get m q
changed_apart m p f q e = found_apart m p f q (finite.get m p) e

above_apart : (m : NodeMap) (f : Node → Node) (paths : PathKeys) (q : List ℕ) (above : Option (List ℕ)) → finite.contains_key (with_parent paths above) q ≡ false → (finite.get (changed_above m above f) q ≡ finite.get m q) × (finite.contains_key paths q ≡ false)
above_apart m f paths q None h = (refl, h)
above_apart m f paths q (Some above) h = let apart = not_one paths above q h in (changed_apart m above f q apart.0, apart.1)

pub not_both : (paths : PathKeys) (path q : List ℕ) → finite.contains_key (with_both paths path) q ≡ false → (eq_by_cmp path_cmp q path ≡ false) × (finite.contains_key paths q ≡ false)
not_both paths path q h = not_one paths path q (above_apart finite.empty (λ n. n) (with_path paths path) q (parent_of path) h).1

-- ---- operations

unless_apart : (fault : Option ℤ) (m new : NodeMap) (path : List ℕ) (stat : Option Stat) (q : List ℕ) → finite.get new q ≡ finite.get m q → finite.get (done_unless fault m path new stat).nodes q ≡ finite.get m q
unless_apart None m new path stat q e = e
unless_apart (Some fault) m new path stat q e = refl

create_apart : (paths : PathKeys) (m : NodeMap) (txn : Txn) (path : List ℕ) (content : Option (List ℕ)) (acl : List Acl) (ephemeral : Bool) (count : ℤ) (q : List ℕ) → finite.contains_key (with_both paths path) q ≡ false → finite.get (create m txn path content acl ephemeral count).nodes q ≡ finite.get m q
create_apart paths m txn path content acl ephemeral count q h =
    let node : Node = created txn content acl ephemeral in
    let new : NodeMap = finite.insert m path node in
    unless_apart (create_fault m path) m (parent_changed new path (with_child txn.zxid count)) path None q
    ((above_apart new (with_child txn.zxid count) (with_path paths path) q (parent_of path) h).0 ∙ inserted m path node q (not_both paths path q h).0)

without_apart : (paths : PathKeys) (m : NodeMap) (txn : Txn) (path q : List ℕ) → finite.contains_key (with_both paths path) q ≡ false → finite.get (without txn m path) q ≡ finite.get m q
without_apart paths m txn path q h =
    (above_apart (finite.remove m path) (without_child txn.zxid) (with_path paths path) q (parent_of path) h).0 ∙ removed m path q (not_both paths path q h).0

delete_apart : (paths : PathKeys) (m : NodeMap) (txn : Txn) (path q : List ℕ) → finite.contains_key (with_both paths path) q ≡ false → finite.get (delete m txn path).nodes q ≡ finite.get m q
delete_apart paths m txn path q h = unless_apart (delete_fault m path) m (without txn m path) path None q (without_apart paths m txn path q h)

data_apart : (paths : PathKeys) (m : NodeMap) (txn : Txn) (path : List ℕ) (content : Option (List ℕ)) (version : ℤ) (q : List ℕ) → finite.contains_key (with_path paths path) q ≡ false → finite.get (set_data m txn path content version).nodes q ≡ finite.get m q
data_apart paths m txn path content version q h =
    let new = changed m path (written txn content version) in unless_apart (missing_fault m path) m new path (stat_at new path) q (changed_apart m path (written txn content version) q (not_one paths path q h).0)

acl_apart : (paths : PathKeys) (m : NodeMap) (path : List ℕ) (acl : List Acl) (version : ℤ) (q : List ℕ) → finite.contains_key (with_path paths path) q ≡ false → finite.get (set_acl m path acl version).nodes q ≡ finite.get m q
acl_apart paths m path acl version q h =
    let new = changed m path (guarded acl version) in unless_apart (missing_fault m path) m new path (stat_at new path) q (changed_apart m path (guarded acl version) q (not_one paths path q h).0)

-- ---- several nodes

all_apart : (paths : PathKeys) (more : List (List ℕ)) (m : NodeMap) (txn : Txn) (q : List ℕ) → finite.contains_key (with_all paths more) q ≡ false → (finite.get (without_all txn m more) q ≡ finite.get m q) × (finite.contains_key paths q ≡ false)
all_apart paths [] m txn q h = (refl, h)
all_apart paths (path ∷ more) m txn q h =
    let rest = all_apart (with_both paths path) more (without txn m path) txn q h in
    (rest.0 ∙ without_apart paths m txn path q rest.1, (not_both paths path q rest.1).1)

part_apart : (paths : PathKeys) (m : NodeMap) (txn : Txn) (part : Sub) (q : List ℕ) → finite.contains_key (with_part paths part) q ≡ false → (finite.get (apply_part txn m part).nodes q ≡ finite.get m q) × (finite.contains_key paths q ≡ false)
part_apart paths m txn (subs.Create path content acl ephemeral count) q h = (create_apart paths m txn path content acl ephemeral count q h, (not_both paths path q h).1)
part_apart paths m txn (subs.Delete path) q h = (delete_apart paths m txn path q h, (not_both paths path q h).1)
part_apart paths m txn (subs.SetData path content version) q h = (data_apart paths m txn path content version q h, (not_one paths path q h).1)
part_apart paths m txn (subs.Check path version) q h = (refl, h)
part_apart paths m txn (subs.Error code) q h = (refl, h)

parts_apart : (paths : PathKeys) (parts : List Sub) (m : NodeMap) (txn : Txn) (q : List ℕ) → finite.contains_key (with_parts paths parts) q ≡ false → (finite.get (nodes_after txn m parts) q ≡ finite.get m q) × (finite.contains_key paths q ≡ false)
parts_apart paths [] m txn q h = (refl, h)
parts_apart paths (part ∷ parts) m txn q h =
    let rest = parts_apart (with_part paths part) parts (apply_part txn m part).nodes txn q h in
    let one = part_apart paths m txn part q rest.1 in
    (rest.0 ∙ one.0, one.1)

-- ---- transactions

multi_apart : (b : Bool) (state : State) (txn : Txn) (parts : List Sub) (q : List ℕ) → finite.get (nodes_after txn state.nodes parts) q ≡ finite.get state.nodes q
    → finite.get (cond b (told_parts state txn state.nodes (answers_unapplied (pos 0) parts)) (told_parts state txn (nodes_after txn state.nodes parts) (answers_of txn state.nodes parts))).0.nodes q ≡ finite.get state.nodes q
multi_apart true state txn parts q e = refl
multi_apart false state txn parts q e = e

op_apart : (state : State) (txn : Txn) (op : Op) (q : List ℕ) → finite.contains_key (touched_by state.nodes txn op) q ≡ false → finite.get (step_by state txn op).0.nodes q ≡ finite.get state.nodes q
op_apart state txn (ops.Create path content acl ephemeral count) q h = create_apart finite.empty state.nodes txn path content acl ephemeral count q h
op_apart state txn (ops.CreateOld path content acl ephemeral) q h = create_apart finite.empty state.nodes txn path content acl ephemeral (negsuc 0) q h
op_apart state txn (ops.Delete path) q h = delete_apart finite.empty state.nodes txn path q h
op_apart state txn (ops.SetData path content version) q h = data_apart finite.empty state.nodes txn path content version q h
op_apart state txn (ops.SetAcl path acl version) q h = acl_apart finite.empty state.nodes path acl version q h
op_apart state txn (ops.OpenSession timeout) q h = refl
op_apart state txn ops.CloseSession q h = (all_apart finite.empty (owned_by state.nodes txn.session) state.nodes txn q h).0
op_apart state txn (ops.Multi parts) q h = multi_apart (list_any is_error parts) state txn parts q (parts_apart finite.empty parts state.nodes txn q h).0
op_apart state txn (ops.Error code) q h = refl

pub step_apart : (state : State) (txn : Txn) (q : List ℕ) → finite.contains_key (touched state.nodes txn) q ≡ false → finite.get (step state txn).0.nodes q ≡ finite.get state.nodes q
step_apart state txn q h = op_apart state txn txn.op q h
