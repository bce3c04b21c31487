-- An instruction changes a path in one way.
use Rattle.std.proofs.Common.{◌≡◌, ℕ, ℤ, negsuc, Bool, true, false, cond, ◌||◌, ◌&&◌, if◌then◌else◌, List, [], ◌∷◌, ◌++◌, map, Option, Some, None, is_some, unwrap_or, refl, sym, ap, subst, ◌∙◌, is_lt, Less, Equal, Greater}
use Rattle.std.proofs.lemmas.Bool.{false≢true, and_parts}
use Rattle.std.proofs.lemmas.Cmp.{nat_list_cmp_total, int_eq_equiv}
use Rattle.std.proofs.lemmas.List.{append-nil}
use Rattle.std.specs.declared.cmp.Ordering.{Ordering}
use Rattle.std.specs.FinMap as finite
use Rattle.std.specs.FinMap.{is_sorted}
use Rattle.std.specs.List.{AllByRecursion, list_any, flat_map}
use Rattle.std.specs.List.Sorted.{IsStrictlySortedBy}
use Rattle.std.specs.Option.{option_map}
use Rattle.std.specs.Ordering.{eq_by_cmp, int_eq}
use Rattle.zk_acl.specs.declared.acl.Acl.{Acl}
use Rattle.zk_acl.specs.declared.stat.Stat.{Stat}
use Rattle.zk_path.specs.Paths.{parent_of}
use Rattle.zk_table.specs.declared.node.Node.{Node}
use Rattle.zk_table.specs.declared.sub.Sub.{Sub}
use Rattle.zk_table.specs.declared.sub.Sub.TheVariants as parts
use Rattle.zk_table.specs.declared.txn.Op.{Op}
use Rattle.zk_table.specs.declared.txn.Op.TheVariants as ops
use Rattle.zk_table.specs.declared.txn.Txn.{Txn}
use Rattle.zk_table.specs.Codes.{node_exists}
use Rattle.zk_table.specs.Parts.{is_error}
use Rattle.zk_table.specs.Nodes.{created, with_child, without_child, written, guarded}
use Rattle.zk_table.specs.Multis.{apply_part}
use Rattle.zk_table.specs.Operations.{done_unless, create_fault, create, delete_fault, delete, missing_fault, set_data, set_acl, without, without_all}
use Rattle.zk_table.specs.States.{NodeMap, path_cmp, owned_by, changed_found, changed, changed_above, parent_changed, stat_at}
use Rattle.zk_table.specs.Steps.{step, step_by}
use Rattle.zk_table.proofs.Sorted.{to_true}
use Rattle.zk_machine.proofs.Texts.{same_is}
use Rattle.zk_machine.specs.declared.change.Change.{Change}
use Rattle.zk_machine.specs.declared.change.ChangeKind.TheVariants.{DataChanged, ChildrenChanged}
use Rattle.zk_machine.specs.Changes.{changed_unless, compared, change_at, changes_between, part_changes, op_changes}
use Rattle.zk_machine.specs.ChangeLaws.{changes_by_part, changes_by_op, PathsRise, InstructionsAreTheTransaction, InstructionsChangeInOneWay}

same_int : (a : ℤ) → int_eq a a ≡ true
same_int a = int_eq_equiv.refl a

or_true : (a : Bool) {b : Bool} → b ≡ true → (a || b) ≡ true
or_true true e = refl
or_true false e = e

-- ---- one node before and after

-- a node that remains keeps its mzxid or its pzxid
abbrev IsOneWay : Option Node → Option Node → Type 0
IsOneWay None after = Unit {0}
IsOneWay (Some before) None = Unit {0}
IsOneWay (Some before) (Some after) = (int_eq before.mzxid after.mzxid || int_eq before.pzxid after.pzxid) ≡ true

unchanged : (x : Option Node) → IsOneWay x x
unchanged None = tt
unchanged (Some node) = ap (λ b. b || int_eq node.pzxid node.pzxid) (same_int node.mzxid)

-- at most one change, and of this path
abbrev IsOneAt : List ℕ → List Change → Type 0
IsOneAt path [] = Unit {0}
IsOneAt path (c ∷ []) = c.path ≡ path
IsOneAt path (c ∷ d ∷ cs) = ⊥

one_compared : (path : List ℕ) (x y : Option Node) → IsOneWay x y → IsOneAt path (compared path x y)
one_compared path None None h = tt
one_compared path None (Some after) h = refl
one_compared path (Some before) None h = refl
one_compared path (Some before) (Some after) h = by_tests (int_eq before.mzxid after.mzxid) (int_eq before.pzxid after.pzxid) h
  where
    by_tests : (s t : Bool) → (s || t) ≡ true → IsOneAt path (changed_unless s path DataChanged ++ changed_unless t path ChildrenChanged)
    by_tests true true h = tt
    by_tests true false h = refl
    by_tests false true h = refl
    by_tests false false h = absurd (false≢true h)

-- ---- along sorted paths

less : (r : Ordering) → is_lt r ≡ true → r ≡ Less
less Less e = refl
less Equal e = absurd (false≢true e)
less Greater e = absurd (false≢true e)

abbrev below_all : {X : Type 0} → List ℕ → List (List ℕ × X) → Bool
below_all x [] = true
below_all x (e ∷ es) = is_lt (path_cmp x e.0) && below_all x es

abbrev paths : List Change → List (List ℕ)
paths cs = map (λ c. c.path) cs

module _ (f : List ℕ → List Change) (one : (q : List ℕ) → IsOneAt q (f q)) where
  abbrev along : {X : Type 0} → List (List ℕ × X) → List Change
  along es = flat_map f (map (λ e. e.0) es)

  later : {X : Type 0} (x : List ℕ) (es : List (List ℕ × X)) → below_all x es ≡ true → AllByRecursion (λ p. path_cmp x p ≡ Less) (paths (along es))
  later x [] h = tt
  later x (e ∷ es) h = in_front (f e.0) (one e.0) (later x es (and_parts _ _ h).1)
    where
      in_front : (cs : List Change) → IsOneAt e.0 cs → AllByRecursion (λ p. path_cmp x p ≡ Less) (paths (along es)) → AllByRecursion (λ p. path_cmp x p ≡ Less) (paths (cs ++ along es))
      in_front [] is rest = rest
      in_front (c ∷ []) is rest = (ap (path_cmp x) is ∙ less _ (and_parts _ _ h).0, rest)
      in_front (c ∷ d ∷ cs) is rest = absurd is

  along_rise : {X : Type 0} (es : List (List ℕ × X)) → is_sorted path_cmp es ≡ true → PathsRise (along es)
  unfolding IsStrictlySortedBy
  along_rise [] h = tt
  along_rise (e ∷ es) h = in_front (f e.0) (one e.0) (later e.0 es (and_parts _ _ h).0) (along_rise es (and_parts _ _ h).1)
    where
      in_front : (cs : List Change) → IsOneAt e.0 cs → AllByRecursion (λ p. path_cmp e.0 p ≡ Less) (paths (along es)) → PathsRise (along es) → PathsRise (cs ++ along es)
      in_front [] is behind rest = rest
      in_front (c ∷ []) is behind rest = (subst (λ x. AllByRecursion (λ p. path_cmp x p ≡ Less) (paths (along es))) (sym is) behind, rest)
      in_front (c ∷ d ∷ cs) is behind rest = absurd is

-- ---- two states compared

abbrev AreOneWay : NodeMap → NodeMap → Type 0
AreOneWay m n = (q : List ℕ) → IsOneWay (finite.get m q) (finite.get n q)

one_way_rises : (m n : NodeMap) → AreOneWay m n → PathsRise (changes_between m n)
one_way_rises m n h = along_rise (change_at m n) (λ q. one_compared q (finite.get m q) (finite.get n q) (h q)) _ (to_true _ (finite.entries_sorted _))

none_changed : (m : NodeMap) → AreOneWay m m
none_changed m q = unchanged (finite.get m q)

-- ---- nodes that are deleted, or keep their mzxid

abbrev mzxid_at : Option Node → Option ℤ
mzxid_at x = option_map (λ node. node.mzxid) x

abbrev IsKept : Option Node → Option Node → Type 0
IsKept x None = Unit {0}
IsKept x (Some after) = mzxid_at x ≡ Some after.mzxid

kept_itself : (x : Option Node) → IsKept x x
kept_itself None = tt
kept_itself (Some node) = refl

kept_on : (x y z : Option Node) → IsKept x y → IsKept y z → IsKept x z
kept_on x y None h k = tt
kept_on x None (Some after) h k = absurd (false≢true (ap is_some k))
kept_on x (Some between) (Some after) h k = h ∙ k

kept_one_way : (x y : Option Node) → IsKept x y → IsOneWay x y
kept_one_way None y h = tt
kept_one_way (Some before) None h = tt
kept_one_way (Some before) (Some after) h =
    ap (λ o. int_eq before.mzxid (unwrap_or o before.mzxid) || int_eq before.pzxid after.pzxid) (sym h)
    ∙ ap (λ b. b || int_eq before.pzxid after.pzxid) (same_int before.mzxid)

abbrev AreKept : NodeMap → NodeMap → Type 0
AreKept m n = (q : List ℕ) → IsKept (finite.get m q) (finite.get n q)

-- a property of the changed node, and of every unchanged one, holds for all
at_change : (P : Option Node → Option Node → Type 0) (m : NodeMap) (path : List ℕ) (change : Node → Node) → ((x : Option Node) → P x x) → ((node : Node) → P (Some node) (Some (change node))) → (q : List ℕ) → P (finite.get m q) (finite.get (changed m path change) q)
at_change P m path change same there q = by_node (finite.get m path) refl
  where
    by_node : (x : Option Node) → finite.get m path ≡ x → P (finite.get m q) (finite.get (changed_found m path change x) q)
    by_node None e = same (finite.get m q)
    by_node (Some node) e =
        subst (P (finite.get m q)) (sym (finite.get-insert nat_list_cmp_total m path (change node) q))
        (elim (eq_by_cmp path_cmp q path) as (λ b. eq_by_cmp path_cmp q path ≡ b → P (finite.get m q) (cond b (Some (change node)) (finite.get m q))) [
          | true ↦ λ s. subst (λ x. P x (Some (change node))) (sym (ap (finite.get m) (same_is q path s) ∙ e)) (there node)
          | false ↦ λ s. same (finite.get m q)
        ] refl)

parent_kept : (m : NodeMap) (above : Option (List ℕ)) (change : Node → Node) → ((node : Node) → (change node).mzxid ≡ node.mzxid) → AreKept m (changed_above m above change)
parent_kept m None change keeps = λ q. kept_itself (finite.get m q)
parent_kept m (Some above) change keeps = at_change IsKept m above change kept_itself (λ node. ap Some (sym (keeps node)))

removed_kept : (m : NodeMap) (path : List ℕ) → AreKept m (finite.remove m path)
removed_kept m path q =
    subst (IsKept (finite.get m q)) (sym (finite.get-remove nat_list_cmp_total m path q))
    (elim (eq_by_cmp path_cmp q path) as (λ b. IsKept (finite.get m q) (cond b None (finite.get m q))) [
      | true ↦ tt
      | false ↦ kept_itself (finite.get m q)
    ])

without_kept : (txn : Txn) (m : NodeMap) (path : List ℕ) → AreKept m (without txn m path)
without_kept txn m path q =
    kept_on (finite.get m q) (finite.get (finite.remove m path) q) (finite.get (without txn m path) q) (removed_kept m path q)
    (parent_kept (finite.remove m path) (parent_of path) (without_child txn.zxid) (λ node. refl) q)

all_without_kept : (txn : Txn) (m : NodeMap) (gone : List (List ℕ)) → AreKept m (without_all txn m gone)
all_without_kept txn m [] q = kept_itself (finite.get m q)
all_without_kept txn m (path ∷ gone) q =
    kept_on (finite.get m q) (finite.get (without txn m path) q) (finite.get (without_all txn (without txn m path) gone) q) (without_kept txn m path q)
    (all_without_kept txn (without txn m path) gone q)

-- ---- the operations

unless_one_way : (fault : Option ℤ) (m n : NodeMap) (path : List ℕ) (stat : Option Stat) → (fault ≡ None → AreOneWay m n) → AreOneWay m (done_unless fault m path n stat).nodes
unless_one_way None m n path stat h = h refl
unless_one_way (Some code) m n path stat h = none_changed m

is_free : (m : NodeMap) (path : List ℕ) → create_fault m path ≡ None → finite.get m path ≡ None
is_free m path e = by_node (finite.get m path) _ e
  where
    by_node : (x : Option Node) (other : Option ℤ) → cond (is_some x) (Some node_exists) other ≡ None → x ≡ None
    by_node None other e = refl
    by_node (Some node) other e = absurd (false≢true (sym (ap is_some e)))

create_one_way : (m : NodeMap) (txn : Txn) (path : List ℕ) (content : Option (List ℕ)) (acl : List Acl) (ephemeral : Bool) (count : ℤ) → AreOneWay m (create m txn path content acl ephemeral count).nodes
create_one_way m txn path content acl ephemeral count = unless_one_way (create_fault m path) m after path None (λ e. there (is_free m path e))
  where
    with_node : NodeMap
    with_node = finite.insert m path (created txn content acl ephemeral)

    after : NodeMap
    after = parent_changed with_node path (with_child txn.zxid count)

    there : finite.get m path ≡ None → AreOneWay m after
    there free q = elim (eq_by_cmp path_cmp q path) as (λ b. eq_by_cmp path_cmp q path ≡ b → IsOneWay (finite.get m q) (finite.get after q)) [
      | true ↦ λ s. subst (λ x. IsOneWay x (finite.get after q)) (sym (ap (finite.get m) (same_is q path s) ∙ free)) tt
      | false ↦ λ s. kept_one_way (finite.get m q) (finite.get after q) (subst (λ x. IsKept x (finite.get after q))
          (finite.get-insert nat_list_cmp_total m path (created txn content acl ephemeral) q ∙ ap (λ b. cond b (Some (created txn content acl ephemeral)) (finite.get m q)) s)
          (parent_kept with_node (parent_of path) (with_child txn.zxid count) (λ node. refl) q))
    ] refl

delete_one_way : (m : NodeMap) (txn : Txn) (path : List ℕ) → AreOneWay m (delete m txn path).nodes
delete_one_way m txn path = unless_one_way (delete_fault m path) m (without txn m path) path None (λ _ q. kept_one_way (finite.get m q) (finite.get (without txn m path) q) (without_kept txn m path q))

set_data_one_way : (m : NodeMap) (txn : Txn) (path : List ℕ) (content : Option (List ℕ)) (version : ℤ) → AreOneWay m (set_data m txn path content version).nodes
set_data_one_way m txn path content version =
    let change : Node → Node = written txn content version in
    unless_one_way (missing_fault m path) m (changed m path change) path (stat_at (changed m path change) path)
    (λ _. at_change IsOneWay m path change unchanged (λ node. or_true (int_eq node.mzxid (change node).mzxid) (same_int node.pzxid)))

set_acl_one_way : (m : NodeMap) (path : List ℕ) (acl : List Acl) (version : ℤ) → AreOneWay m (set_acl m path acl version).nodes
set_acl_one_way m path acl version =
    let change : Node → Node = guarded acl version in
    unless_one_way (missing_fault m path) m (changed m path change) path (stat_at (changed m path change) path)
    (λ _. at_change IsOneWay m path change unchanged (λ node. unchanged (Some node)))

close_one_way : (txn : Txn) (m : NodeMap) (gone : List (List ℕ)) → AreOneWay m (without_all txn m gone)
close_one_way txn m gone q = kept_one_way (finite.get m q) (finite.get (without_all txn m gone) q) (all_without_kept txn m gone q)

part_one_way : (txn : Txn) (m : NodeMap) (part : Sub) → AreOneWay m (apply_part txn m part).nodes
part_one_way txn m (parts.Create path content acl ephemeral count) = create_one_way m txn path content acl ephemeral count
part_one_way txn m (parts.Delete path) = delete_one_way m txn path
part_one_way txn m (parts.SetData path content version) = set_data_one_way m txn path content version
part_one_way txn m (parts.Check path version) = none_changed m
part_one_way txn m (parts.Error code) = none_changed m

-- ---- transactions

parts_whole : (txn : Txn) (m : NodeMap) (subs : List Sub) → flat_map (λ changes. changes) (changes_by_part txn m subs) ≡ part_changes txn m subs
parts_whole txn m [] = refl
parts_whole txn m (part ∷ subs) = ap (λ l. changes_between m (apply_part txn m part).nodes ++ l) (parts_whole txn (apply_part txn m part).nodes subs)

parts_rise : (txn : Txn) (m : NodeMap) (subs : List Sub) → AllByRecursion PathsRise (changes_by_part txn m subs)
parts_rise txn m [] = tt
parts_rise txn m (part ∷ subs) =
    (one_way_rises m (apply_part txn m part).nodes (part_one_way txn m part), parts_rise txn (apply_part txn m part).nodes subs)

pub instructions_whole : InstructionsAreTheTransaction
instructions_whole state txn = by_op txn.op
  where
    one : flat_map (λ changes. changes) (changes_between state.nodes (step state txn).0.nodes ∷ []) ≡ changes_between state.nodes (step state txn).0.nodes
    one = append-nil (changes_between state.nodes (step state txn).0.nodes)

    of_parts : (subs : List Sub) (b : Bool) → flat_map (λ changes. changes) (if b then [] else changes_by_part txn state.nodes subs) ≡ (if b then [] else part_changes txn state.nodes subs)
    of_parts subs true = refl
    of_parts subs false = parts_whole txn state.nodes subs

    by_op : (op : Op) → flat_map (λ changes. changes) (changes_by_op state txn op) ≡ op_changes state txn op
    by_op (ops.Create path content acl ephemeral count) = one
    by_op (ops.CreateOld path content acl ephemeral) = one
    by_op (ops.Delete path) = one
    by_op (ops.SetData path content version) = one
    by_op (ops.SetAcl path acl version) = one
    by_op (ops.OpenSession timeout) = one
    by_op ops.CloseSession = one
    by_op (ops.Multi subs) = of_parts subs (list_any is_error subs)
    by_op (ops.Error code) = one

pub instructions_one_way : InstructionsChangeInOneWay
instructions_one_way state txn = by_op txn.op refl
  where
    m : NodeMap
    m = state.nodes

    one : (op : Op) → txn.op ≡ op → AreOneWay m (step_by state txn op).0.nodes → AllByRecursion PathsRise (changes_between m (step state txn).0.nodes ∷ [])
    one op is h = (one_way_rises m (step state txn).0.nodes (subst (λ (o : Op). AreOneWay m (step_by state txn o).0.nodes) (sym is) h), tt)

    of_parts : (subs : List Sub) (b : Bool) → AllByRecursion PathsRise (if b then [] else changes_by_part txn m subs)
    of_parts subs true = tt
    of_parts subs false = parts_rise txn m subs

    by_op : (op : Op) → txn.op ≡ op → AllByRecursion PathsRise (changes_by_op state txn op)
    by_op (ops.Create path content acl ephemeral count) is = one _ is (create_one_way m txn path content acl ephemeral count)
    by_op (ops.CreateOld path content acl ephemeral) is = one _ is (create_one_way m txn path content acl ephemeral (negsuc 0))
    by_op (ops.Delete path) is = one _ is (delete_one_way m txn path)
    by_op (ops.SetData path content version) is = one _ is (set_data_one_way m txn path content version)
    by_op (ops.SetAcl path acl version) is = one _ is (set_acl_one_way m path acl version)
    by_op (ops.OpenSession timeout) is = one _ is (none_changed m)
    by_op ops.CloseSession is = one _ is (close_one_way txn m (owned_by m txn.session))
    by_op (ops.Multi subs) is = of_parts subs (list_any is_error subs)
    by_op (ops.Error code) is = one _ is (none_changed m)
