-- The nodes after each operation.
use Rattle.std.proofs.Common.{◌≡◌, ℕ, ℤ, ◌+◌, ◌<◌, ◌≤◌, ◌==◌, Bool, true, false, cond, List, ◌∷◌, length, get_or, drop, is_some, IsSome, Option, Some, None, Result, Ok, Err, OnOk, refl, sym, ap, ◌∙◌, arith}
use Rattle.std.proofs.lemmas.Bool.{false≢true, ltb-false, ne_eqb}
use Rattle.std.proofs.lemmas.List.{at_drop_more}
use Rattle.std.specs.FinMap as finite
use Rattle.std.specs.Prelude.{is_none, nat_lt}
use Rattle.zk_acl.specs.declared.acl.Acl.{Acl}
use Rattle.zk_acl.specs.declared.stat.Stat.{Stat}
use Rattle.zk_path.specs.Paths.{parent_of}
use Rattle.zk_path.specs.declared.memory.NoMemory.{NoMemory}
use Rattle.zk_table.specs.Codes.{bad_arguments, no_node, not_empty}
use Rattle.zk_table.specs.Nodes.{created, with_child}
use Rattle.zk_table.specs.declared.node.Node.{Node}
use Rattle.zk_table.specs.declared.sub.Sub.{Sub}
use Rattle.zk_table.specs.declared.txn.Txn.{Txn}
use Rattle.zk_table.specs.Multis.{apply_part, nodes_after}
use Rattle.zk_table.specs.Operations.{done_unless, create, create_fault, delete, delete_fault, missing_fault, without}
use Rattle.zk_table.specs.States.{NodeMap, children_of, changed, changed_found, parent_changed}
use Rattle.zk_requests.proofs.Recounts.{delete_there, delete_childless}
use Rattle.zk_fold.specs.NodeIndexes.{put_below, put_unless}

pub created_nodes : (f : Option ℤ) (n : NodeMap) (path : List ℕ) (node : Node) (zxid count : ℤ) → put_unless f n path node zxid count ≡ (done_unless f n path (parent_changed (finite.insert n path node) path (with_child zxid count)) None).nodes
created_nodes None n path node zxid count = refl
created_nodes (Some f) n path node zxid count = refl

-- ---- whether a node can be deleted

by_fault : (f : Option ℤ) (n new : NodeMap) (path : List ℕ) → is_none f ≡ true → new ≡ (done_unless f n path new None).nodes
by_fault None n new path e = refl
by_fault (Some f) n new path e = absurd (false≢true e)

pub gone : (n : NodeMap) (txn : Txn) (path : List ℕ) → is_none (delete_fault n path) ≡ true → without txn n path ≡ (delete n txn path).nodes
gone n txn path e = by_fault (delete_fault n path) n (without txn n path) path e

by_refusal : (f : Option ℤ) (n new : NodeMap) (path : List ℕ) → is_none f ≡ false → n ≡ (done_unless f n path new None).nodes
by_refusal None n new path e = absurd (false≢true (sym e))
by_refusal (Some f) n new path e = refl

pub kept : (n : NodeMap) (txn : Txn) (path : List ℕ) → is_none (delete_fault n path) ≡ false → n ≡ (delete n txn path).nodes
kept n txn path e = by_refusal (delete_fault n path) n (without txn n path) path e

none_is : (f : Option ℤ) → is_none f ≡ true → f ≡ None
none_is None e = refl
none_is (Some f) e = absurd (false≢true e)

module _ (n : NodeMap) (path : List ℕ) (loose : is_none (delete_fault n path) ≡ true) where
  pub loose_below : IsSome (parent_of path)
  loose_below = by_parent (parent_of path) refl
    where
      by_parent : (above : Option (List ℕ)) → parent_of path ≡ above → IsSome above
      by_parent None e = absurd (false≢true (ap (λ p. is_none (cond (is_none p) (Some bad_arguments) (cond (finite.contains_key n path) (cond (nat_lt 0 (length (children_of n path))) (Some not_empty) None) (Some no_node)))) (sym e) ∙ loose))
      by_parent (Some above) e = refl

  above_is : (above : List ℕ) × (parent_of path ≡ Some above)
  above_is = from (parent_of path) loose_below
    where
      from : (x : Option (List ℕ)) → IsSome x → (above : List ℕ) × (x ≡ Some above)
      from None e = absurd (false≢true e)
      from (Some above) e = (above, refl)

  pub loose_there : finite.contains_key n path ≡ true
  loose_there = delete_there n path above_is.0 (sym above_is.1) (none_is (delete_fault n path) loose)

  pub loose_childless : length (children_of n path) ≡ 0
  loose_childless = delete_childless n path above_is.0 (sym above_is.1) (none_is (delete_fault n path) loose)

-- ---- setting a part of an existing node

pub set_nodes : (n : NodeMap) (path : List ℕ) (change : Node → Node) (stat : Option Stat) → changed n path change ≡ (done_unless (missing_fault n path) n path (changed n path change) stat).nodes
set_nodes n path change stat = by_node (finite.get n path)
  where
    by_node : (x : Option Node) → changed_found n path change x ≡ (done_unless (cond (is_some x) None (Some no_node)) n path (changed_found n path change x) stat).nodes
    by_node None = refl
    by_node (Some node) = refl

-- ---- the parts of a multi, one by one

pub nodes_onward : (txn : Txn) (parts : List Sub) (at : ℕ) (part : Sub) (before after : NodeMap) → at < length parts → part ≡ get_or parts at part → after ≡ (apply_part txn before part).nodes → nodes_after txn before (drop at parts) ≡ nodes_after txn after (drop (at + 1) parts)
nodes_onward txn parts at part before after below is done =
    at_drop_more (nodes_after txn before) parts at part below
    ∙ ap (λ p. nodes_after txn before (p ∷ drop (at + 1) parts)) (sym is)
    ∙ ap (λ n. nodes_after txn n (drop (at + 1) parts)) (sym done)

pub created_told : (r : Result (Unit {0}) NoMemory) (n new : NodeMap) (path : List ℕ) (node : Node) (zxid : ℤ) (txn : Txn) (content : Option (List ℕ)) (acl : List Acl) (ephemeral : Bool) (k count : ℤ) → zxid ≡ txn.zxid → k ≡ count → node ≡ created txn content acl ephemeral → OnOk r (new ≡ put_below n path node zxid k) → OnOk r (new ≡ (create n txn path content acl ephemeral count).nodes)
created_told (Ok done) n new path node zxid txn content acl ephemeral k count read counted is ok =
    ok ∙ ap (λ z. put_below n path node z k) read ∙ ap (put_below n path node txn.zxid) counted ∙ ap (λ x. put_below n path x txn.zxid count) is ∙ created_nodes (create_fault n path) n path (created txn content acl ephemeral) txn.zxid count
created_told (Err refused) n new path node zxid txn content acl ephemeral k count read counted is ok = tt

-- ---- if a node can be deleted

pub root_stays : (n : NodeMap) (path : List ℕ) → None ≡ parent_of path → false ≡ is_none (delete_fault n path)
root_stays n path none = ap (λ p. is_none (cond (is_none p) (Some bad_arguments) (cond (finite.contains_key n path) (cond (nat_lt 0 (length (children_of n path))) (Some not_empty) None) (Some no_node)))) none

empty_test : (c : ℕ) → is_none (cond (nat_lt 0 c) (Some not_empty) None) ≡ (c == 0)
empty_test c = elim (nat_lt 0 c) as (λ b. nat_lt 0 c ≡ b → is_none (cond b (Some not_empty) None) ≡ (c == 0)) [
  | true ↦ λ h. sym (ne_eqb c 0 (λ e. false≢true (ap (nat_lt 0) (sym e) ∙ h)))
  | false ↦ λ h. let least : c ≤ 0 = ltb-false 0 c h in let none : c ≡ 0 = omega arith in sym (ap (λ n. n == 0) none)
] refl

module _ (n : NodeMap) (path above : List ℕ) (below : Some above ≡ parent_of path) where
  known : is_none (cond (finite.contains_key n path) (cond (nat_lt 0 (length (children_of n path))) (Some not_empty) None) (Some no_node)) ≡ is_none (delete_fault n path)
  known = ap (λ p. is_none (cond (is_none p) (Some bad_arguments) (cond (finite.contains_key n path) (cond (nat_lt 0 (length (children_of n path))) (Some not_empty) None) (Some no_node)))) below

  pub nothing_goes : finite.contains_key n path ≡ false → false ≡ is_none (delete_fault n path)
  nothing_goes free = ap (λ b. is_none (cond b (cond (nat_lt 0 (length (children_of n path))) (Some not_empty) None) (Some no_node))) (sym free) ∙ known

  pub childless_goes : finite.contains_key n path ≡ true → (k : ℕ) → k ≡ length (children_of n path) → (k == 0) ≡ is_none (delete_fault n path)
  childless_goes there k is =
      ap (λ c. c == 0) is ∙ sym (empty_test (length (children_of n path)))
      ∙ ap (λ b. is_none (cond b (cond (nat_lt 0 (length (children_of n path))) (Some not_empty) None) (Some no_node))) (sym there) ∙ known
