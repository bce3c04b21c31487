-- An operation that the table does not reject is a change that it takes.
use Rattle.std.proofs.Common.{◌≡◌, ℕ, ℤ, pos, negsuc, ◌<◌, List, [], ◌∷◌, ◌++◌, length, Bool, true, false, filter, is_some, is_none, nat_lt, Option, Some, None, refl, sym, ap, subst, ◌∙◌, ⊎_elim, arith}
use Rattle.std.proofs.lemmas.Bool.{cond-true, cond-false, cases_Bool, both_ways, false_from_ne_true, or_cases, lt-ltb}
use Rattle.std.proofs.lemmas.Bool.Decides.{Decides-int_eq}
use Rattle.std.specs.FinMap.{get, insert, remove, contains_key, keys, contains_key-keys}
use Rattle.std.specs.List.{AllByRecursion, list_any}
use Rattle.std.specs.Ordering.{int_eq, eq_by_cmp}
use Rattle.std.specs.Option.{option_and_then}
use Rattle.zk_acl.specs.declared.acl.Acl.{Acl}
use Rattle.zk_acl.specs.declared.stat.Stat.{Stat}
use Rattle.zk_path.specs.Paths.{parent_of, fault_of}
use Rattle.zk_table.specs.declared.node.Node.{Node}
use Rattle.zk_table.specs.declared.sub.Sub.{Sub}
use Rattle.zk_table.specs.declared.sub.Sub.TheVariants as subs
use Rattle.zk_table.specs.declared.txn.Txn.{Txn}
use Rattle.zk_table.specs.Codes.{no_node, node_exists, not_empty, bad_arguments, no_children_for_ephemerals}
use Rattle.zk_table.specs.Nodes.{created, with_child, without_child}
use Rattle.zk_table.specs.States.{NodeMap, path_cmp, children_of, is_child_of, is_parent, changed_above}
use Rattle.zk_table.specs.Operations.{done_unless, create, create_fault, parent_fault, delete, delete_fault, set_data, set_acl, missing_fault, without}
use Rattle.zk_table.specs.Multis.{apply_part, nodes_after, answers_of, first_refusal}
use Rattle.zk_tree.proofs.Kept.{tests_alike}
use Rattle.zk_replay.specs.Rules as rules
use Rattle.zk_replay.specs.Drafts.{DraftMap}
use Rattle.zk_replay_laws.specs.Histories.{IsCountedPart}
use Rattle.zk_replay_laws.proofs.Paths.{some_inj, none_some}
use Rattle.zk_replay_laws.proofs.Gets.{path_is_itself, same_path}
use Rattle.zk_replay_laws.proofs.Changes.{Change, Makes, Deletes, Writes, Guards, There}
use Rattle.zk_replay_laws.proofs.Timelines.{AreTaken}
use Rattle.zk_replay_laws.proofs.Transactions.{applied_all, replayed_all, applied_append, taken_append, replayed_append, filled_path, longer_than_parent}

-- ---- the changes of an operation

abbrev pub makes : Option (List ℕ) → ℤ → List ℕ → Node → ℤ → List Change
makes None zxid path node count = []
makes (Some above) zxid path node count = Makes zxid path above node count ∷ []

abbrev pub deletes : Option (List ℕ) → ℤ → List ℕ → List Change
deletes None zxid path = []
deletes (Some above) zxid path = Deletes zxid path above ∷ []

-- these changes lead from some nodes to others, and the table takes each
pub record Leads (m : NodeMap) (cs : List Change) (m' : NodeMap) : Type 0 where
  pub is : m' ≡ applied_all m cs
  pub taken : AreTaken m cs

-- ---- codes

no_code : (code : ℤ) → (code ≡ pos 0 → ⊥) → Some code ≡ Some (pos 0) → ⊥
no_code code apart e = apart (some_inj e)

err_of : (fault : Option ℤ) (old : NodeMap) (path : List ℕ) (new : NodeMap) (stat : Option Stat) → (done_unless fault old path new stat).answer.err ≡ pos 0 → (fault ≡ Some (pos 0) → ⊥) → (fault ≡ None) × ((done_unless fault old path new stat).nodes ≡ new)
err_of None old path new stat e apart = (refl, refl)
err_of (Some code) old path new stat e apart = absurd (apart (ap Some e))

-- ---- creates

parent_plain : (o : Option Node) → (parent_fault o ≡ Some (pos 0) → ⊥)
parent_plain None e = no_code no_node (λ h. absurd (cc)) e
parent_plain (Some n) e =
    ⊎_elim
    (λ plain. none_some (sym (cond-true (int_eq n.owner (pos 0)) None (Some no_children_for_ephemerals) plain) ∙ e))
    (λ owned. no_code no_children_for_ephemerals (λ h. absurd (cc)) (sym (cond-false (int_eq n.owner (pos 0)) None (Some no_children_for_ephemerals) owned) ∙ e))
    (cases_Bool (int_eq n.owner (pos 0)))

create_apart : (m : NodeMap) (path : List ℕ) → create_fault m path ≡ Some (pos 0) → ⊥
create_apart m path e =
    ⊎_elim
    (λ has. no_code node_exists (λ h. absurd (cc)) (sym (cond-true (contains_key m path) (Some node_exists) _ has) ∙ e))
    (λ none. parent_plain (option_and_then (get m) (parent_of path)) (sym (cond-false (contains_key m path) (Some node_exists) _ none) ∙ e))
    (cases_Bool (contains_key m path))

none_if : {X : Type 0} (o : Option X) → is_some o ≡ false → o ≡ None
none_if None e = refl
none_if (Some x) e = absurd (cc)

pub record ParentThere (m : NodeMap) (path : List ℕ) : Type 0 where
  pub above : List ℕ
  pub parent : parent_of path ≡ Some above
  pub node : Node
  pub there : get m above ≡ Some node
  pub plain : int_eq node.owner (pos 0) ≡ true

parent_there : (m : NodeMap) (path : List ℕ) → parent_fault (option_and_then (get m) (parent_of path)) ≡ None → ParentThere m path
parent_there m path e = by_parent (parent_of path) refl
  where
    plain_if : (n : Node) → parent_fault (Some n) ≡ None → int_eq n.owner (pos 0) ≡ true
    plain_if n h = ⊎_elim (λ plain. plain) (λ owned. absurd (none_some (sym h ∙ cond-false (int_eq n.owner (pos 0)) None (Some no_children_for_ephemerals) owned))) (cases_Bool (int_eq n.owner (pos 0)))

    by_node : (above : List ℕ) (n : Option Node) → parent_of path ≡ Some above → get m above ≡ n → ParentThere m path
    by_node above None is none = absurd (none_some (sym e ∙ ap (λ o. parent_fault (option_and_then (get m) o)) is ∙ ap parent_fault none))
    by_node above (Some n) is some = record {
      above = above;
      parent = is;
      node = n;
      there = some;
      plain = plain_if n (sym (ap (λ o. parent_fault (option_and_then (get m) o)) is ∙ ap parent_fault some) ∙ e);
    }

    by_parent : (o : Option (List ℕ)) → parent_of path ≡ o → ParentThere m path
    by_parent None none = absurd (none_some (sym e ∙ ap (λ o. parent_fault (option_and_then (get m) o)) none))
    by_parent (Some above) is = by_node above (get m above) is refl

pub create_leads : (m : NodeMap) (txn : Txn) (path : List ℕ) (content : Option (List ℕ)) (acl : List Acl) (ephemeral : Bool) (count : ℤ) → fault_of path ≡ None → int_eq count (negsuc 0) ≡ false → (create m txn path content acl ephemeral count).answer.err ≡ pos 0 → Leads m (makes (parent_of path) txn.zxid path (created txn content acl ephemeral) count) (create m txn path content acl ephemeral count).nodes
create_leads m txn path content acl ephemeral count good counted e =
    let node = created txn content acl ephemeral in
    let ok = err_of (create_fault m path) m path _ None e (create_apart m path) in
    let absent = ⊎_elim (λ has. absurd (none_some (sym ok.0 ∙ cond-true (contains_key m path) (Some node_exists) _ has))) (λ none. none) (cases_Bool (contains_key m path)) in
    let above = parent_there m path (sym (cond-false (contains_key m path) (Some node_exists) _ absent) ∙ ok.0) in
    subst (λ o. Leads m (makes o txn.zxid path node count) (create m txn path content acl ephemeral count).nodes) (sym above.parent)
    (record {
      is = ok.1 ∙ ap (λ o. changed_above (insert m path node) o (with_child txn.zxid count)) above.parent;
      taken = (
        record {
          absent = none_if (get m path) absent;
          parent = above.parent;
          parent_node = above.node;
          parent_there = above.there;
          plain = above.plain;
          new = refl;
          counted = counted;
          filled = filled_path path good;
          shorter = longer_than_parent path above.above good above.parent;
        },
        tt,
      );
    })

-- ---- deletes

delete_apart : (m : NodeMap) (path : List ℕ) → delete_fault m path ≡ Some (pos 0) → ⊥
delete_apart m path e =
    ⊎_elim
    (λ root. no_code bad_arguments (λ h. absurd (cc)) (sym (cond-true (is_none (parent_of path)) (Some bad_arguments) _ root) ∙ e))
    (λ child. let e1 = sym (cond-false (is_none (parent_of path)) (Some bad_arguments) _ child) ∙ e in
    ⊎_elim
    (λ has. let e2 = sym (cond-true (contains_key m path) _ (Some no_node) has) ∙ e1 in
    ⊎_elim
    (λ full. no_code not_empty (λ h. absurd (cc)) (sym (cond-true (nat_lt 0 (length (children_of m path))) (Some not_empty) None full) ∙ e2))
    (λ empty. none_some (sym (cond-false (nat_lt 0 (length (children_of m path))) (Some not_empty) None empty) ∙ e2))
    (cases_Bool (nat_lt 0 (length (children_of m path)))))
    (λ none. no_code no_node (λ h. absurd (cc)) (sym (cond-false (contains_key m path) _ (Some no_node) none) ∙ e1))
    (cases_Bool (contains_key m path)))
    (cases_Bool (is_none (parent_of path)))

there_if : (o : Option Node) → is_some o ≡ true → (n : Node) × (o ≡ Some n)
there_if None e = absurd (cc)
there_if (Some n) e = (n, refl)

-- a child of a node is listed
child_listed : (path q : List ℕ) (ks : List (List ℕ)) → parent_of q ≡ Some path → list_any (eq_by_cmp path_cmp q) ks ≡ true → 0 < length (filter (is_child_of path) ks)
child_listed path q [] parent e = absurd (cc)
child_listed path q (k ∷ ks) parent e =
    ⊎_elim
    (λ here.
    let is : is_child_of path k ≡ true = ap (λ o. is_parent o path) (sym (ap parent_of (same_path q k here)) ∙ parent) ∙ tests_alike path path ∙ path_is_itself path in
    let h = ap length (cond-true (is_child_of path k) (k ∷ filter (is_child_of path) ks) (filter (is_child_of path) ks) is) in omega (arith, h))
    (λ else.
    let more = child_listed path q ks parent (⊎_elim (λ h. absurd (both_ways _ else h)) (λ h. h) (or_cases _ _ e)) in
    ⊎_elim
    (λ is. let h = ap length (cond-true (is_child_of path k) (k ∷ filter (is_child_of path) ks) (filter (is_child_of path) ks) is) in omega (arith, h))
    (λ not. let h = ap length (cond-false (is_child_of path k) (k ∷ filter (is_child_of path) ks) (filter (is_child_of path) ks) not) in omega (arith, h, more))
    (cases_Bool (is_child_of path k)))
    (cases_Bool (eq_by_cmp path_cmp q k))

childless_if : (m : NodeMap) (path : List ℕ) → nat_lt 0 (length (children_of m path)) ≡ false → (q : List ℕ) → parent_of q ≡ Some path → get m q ≡ None
childless_if m path empty q parent =
    none_if (get m q) (false_from_ne_true _ (λ has. both_ways _ empty (lt-ltb _ _ (child_listed path q (keys m) parent (sym (contains_key-keys m q) ∙ has)))))

is_none_some : (o : Option (List ℕ)) → is_none o ≡ false → (above : List ℕ) × (o ≡ Some above)
is_none_some None e = absurd (cc)
is_none_some (Some above) e = (above, refl)

pub delete_leads : (m : NodeMap) (txn : Txn) (path : List ℕ) → fault_of path ≡ None → (delete m txn path).answer.err ≡ pos 0 → Leads m (deletes (parent_of path) txn.zxid path) (delete m txn path).nodes
delete_leads m txn path good e =
    let ok = err_of (delete_fault m path) m path (without txn m path) None e (delete_apart m path) in
    let child = ⊎_elim (λ root. absurd (none_some (sym ok.0 ∙ cond-true (is_none (parent_of path)) (Some bad_arguments) _ root))) (λ c. c) (cases_Bool (is_none (parent_of path))) in
    let e1 = sym (cond-false (is_none (parent_of path)) (Some bad_arguments) _ child) ∙ ok.0 in
    let has = ⊎_elim (λ h. h) (λ none. absurd (none_some (sym e1 ∙ cond-false (contains_key m path) _ (Some no_node) none))) (cases_Bool (contains_key m path)) in
    let e2 = sym (cond-true (contains_key m path) _ (Some no_node) has) ∙ e1 in
    let empty = ⊎_elim (λ full. absurd (none_some (sym e2 ∙ cond-true (nat_lt 0 (length (children_of m path))) (Some not_empty) None full))) (λ h. h) (cases_Bool (nat_lt 0 (length (children_of m path)))) in
    let above = is_none_some (parent_of path) child in
    let node = there_if (get m path) has in
    subst (λ o. Leads m (deletes o txn.zxid path) (delete m txn path).nodes) (sym above.1)
    (record {
      is = ok.1 ∙ ap (λ o. changed_above (remove m path) o (without_child txn.zxid)) above.1;
      taken = (
        record {
          node = node.0;
          there = node.1;
          parent = above.1;
          childless = childless_if m path empty;
          filled = filled_path path good;
          shorter = longer_than_parent path above.0 good above.1;
        },
        tt,
      );
    })

-- ---- content and lists of access rights

missing_apart : (m : NodeMap) (path : List ℕ) → missing_fault m path ≡ Some (pos 0) → ⊥
missing_apart m path e =
    ⊎_elim
    (λ has. none_some (sym (cond-true (contains_key m path) None (Some no_node) has) ∙ e))
    (λ none. no_code no_node (λ h. absurd (cc)) (sym (cond-false (contains_key m path) None (Some no_node) none) ∙ e))
    (cases_Bool (contains_key m path))

found_if : (m : NodeMap) (path : List ℕ) → missing_fault m path ≡ None → There m path
found_if m path e = there_if (get m path) (⊎_elim (λ has. has) (λ none. absurd (none_some (sym e ∙ cond-false (contains_key m path) None (Some no_node) none))) (cases_Bool (contains_key m path)))

pub set_data_leads : (m : NodeMap) (txn : Txn) (path : List ℕ) (content : Option (List ℕ)) (version : ℤ) → (set_data m txn path content version).answer.err ≡ pos 0 → Leads m (Writes txn path content version ∷ []) (set_data m txn path content version).nodes
set_data_leads m txn path content version e =
    let ok = err_of (missing_fault m path) m path _ _ e (missing_apart m path) in
    record { is = ok.1; taken = (found_if m path ok.0, tt) }

pub set_acl_leads : (m : NodeMap) (zxid : ℤ) (path : List ℕ) (acl : List Acl) (version : ℤ) → (set_acl m path acl version).answer.err ≡ pos 0 → Leads m (Guards zxid path acl version ∷ []) (set_acl m path acl version).nodes
set_acl_leads m zxid path acl version e =
    let ok = err_of (missing_fault m path) m path _ _ e (missing_apart m path) in
    record { is = ok.1; taken = (found_if m path ok.0, tt) }

-- ---- parts of a multi

abbrev pub part_changes : Txn → Sub → List Change
part_changes txn (subs.Create path content acl ephemeral count) = makes (parent_of path) txn.zxid path (created txn content acl ephemeral) count
part_changes txn (subs.Delete path) = deletes (parent_of path) txn.zxid path
part_changes txn (subs.SetData path content version) = Writes txn path content version ∷ []
part_changes txn _ = []

abbrev pub parts_changes : Txn → List Sub → List Change
parts_changes txn [] = []
parts_changes txn (part ∷ parts) = part_changes txn part ++ parts_changes txn parts

unchanged : (m : NodeMap) → Leads m [] m
unchanged m = record { is = refl; taken = tt }

part_leads : (m : NodeMap) (txn : Txn) (part : Sub) → IsCountedPart part → (apply_part txn m part).answer.err ≡ pos 0 → Leads m (part_changes txn part) (apply_part txn m part).nodes
part_leads m txn (subs.Create path content acl ephemeral count) counted e = create_leads m txn path content acl ephemeral count counted.0 counted.1 e
part_leads m txn (subs.Delete path) counted e = delete_leads m txn path counted e
part_leads m txn (subs.SetData path content version) counted e = set_data_leads m txn path content version e
part_leads m txn (subs.Check path version) counted e = unchanged m
part_leads m txn (subs.Error code) counted e = unchanged m

pub leads_append : (m m' m'' : NodeMap) (xs ys : List Change) → Leads m xs m' → Leads m' ys m'' → Leads m (xs ++ ys) m''
leads_append m m' m'' xs ys first rest = record {
  is = rest.is ∙ ap (λ k. applied_all k ys) first.is ∙ sym (applied_append m xs ys);
  taken = taken_append m xs ys first.taken (subst (λ k. AreTaken k ys) first.is rest.taken);
}

pub parts_lead : (m : NodeMap) (txn : Txn) (parts : List Sub) → AllByRecursion IsCountedPart parts → first_refusal (answers_of txn m parts) ≡ pos 0 → Leads m (parts_changes txn parts) (nodes_after txn m parts)
parts_lead m txn [] counted e = unchanged m
parts_lead m txn (part ∷ parts) counted e =
    let first = apply_part txn m part in
    ⊎_elim
    (λ done. leads_append m first.nodes (nodes_after txn first.nodes parts) (part_changes txn part) (parts_changes txn parts)
    (part_leads m txn part counted.0 ((Decides-int_eq first.answer.err (pos 0)).0 done))
    (parts_lead first.nodes txn parts counted.1 (sym (cond-true (int_eq first.answer.err (pos 0)) _ first.answer.err done) ∙ e)))
    (λ failed. absurd (both_ways _ failed ((Decides-int_eq first.answer.err (pos 0)).1 (sym (cond-false (int_eq first.answer.err (pos 0)) _ first.answer.err failed) ∙ e))))
    (cases_Bool (int_eq first.answer.err (pos 0)))

-- ---- the same on a draft

made_alike : (d : DraftMap) (o : Option (List ℕ)) (zxid : ℤ) (path : List ℕ) (node : Node) (count : ℤ) → rules.create_below d zxid path node count o ≡ replayed_all d (makes o zxid path node count)
made_alike d None zxid path node count = refl
made_alike d (Some above) zxid path node count = refl

deleted_alike : (d : DraftMap) (o : Option (List ℕ)) (zxid : ℤ) (path : List ℕ) → rules.delete_below d zxid path o ≡ replayed_all d (deletes o zxid path)
deleted_alike d None zxid path = refl
deleted_alike d (Some above) zxid path = refl

part_replayed : (d : DraftMap) (txn : Txn) (part : Sub) → rules.apply_part txn d part ≡ replayed_all d (part_changes txn part)
part_replayed d txn (subs.Create path content acl ephemeral count) = made_alike d (parent_of path) txn.zxid path (created txn content acl ephemeral) count
part_replayed d txn (subs.Delete path) = deleted_alike d (parent_of path) txn.zxid path
part_replayed d txn (subs.SetData path content version) = refl
part_replayed d txn (subs.Check path version) = refl
part_replayed d txn (subs.Error code) = refl

no_parts : (txn : Txn) (d : DraftMap) → rules.apply_parts txn d [] ≡ d
unfolding rules.apply_parts
no_parts txn d = refl

more_parts : (txn : Txn) (d : DraftMap) (part : Sub) (parts : List Sub) → rules.apply_parts txn d (part ∷ parts) ≡ rules.apply_parts txn (rules.apply_part txn d part) parts
unfolding rules.apply_parts
more_parts txn d part parts = refl

pub parts_replayed : (d : DraftMap) (txn : Txn) (parts : List Sub) → rules.apply_parts txn d parts ≡ replayed_all d (parts_changes txn parts)
parts_replayed d txn [] = no_parts txn d
parts_replayed d txn (part ∷ parts) =
    more_parts txn d part parts
    ∙ ap (λ k. rules.apply_parts txn k parts) (part_replayed d txn part)
    ∙ parts_replayed (replayed_all d (part_changes txn part)) txn parts
    ∙ sym (replayed_append d (part_changes txn part) (parts_changes txn parts))
