-- A transaction that the table does not reject is a list of changes that it takes.
use Rattle.std.proofs.Common.{◌≡◌, ◌⊎◌, inl, inr, ℕ, ℤ, pos, List, [], ◌∷◌, ◌++◌, Bool, true, false, cond, ◌||◌, is_eq, Option, Some, None, refl, sym, ap, subst, ◌∙◌, ⊎_elim}
use Rattle.std.proofs.lemmas.Bool.{cases_Bool, both_ways, or_parts, false_from_ne_true}
use Rattle.std.specs.List.{AllByRecursion, list_any}
use Rattle.std.specs.Ordering.{int_eq, eq_by_cmp}
use Rattle.std.specs.Prelude.{int_lt}
use Rattle.zk_path.specs.Paths.{parent_of}
use Rattle.zk_table.specs.declared.node.Node.{Node}
use Rattle.zk_table.specs.declared.sub.Sub.{Sub}
use Rattle.zk_table.specs.declared.sub.Sub.TheVariants as subs
use Rattle.zk_table.specs.declared.txn.Op.{Op}
use Rattle.zk_table.specs.declared.txn.Op.TheVariants as ops
use Rattle.zk_table.specs.declared.txn.Txn.{Txn}
use Rattle.zk_table.specs.Nodes.{created}
use Rattle.zk_table.specs.Parts.{is_error}
use Rattle.zk_table.specs.States.{NodeMap, State, path_cmp, owned_by}
use Rattle.zk_table.specs.Steps.{step_by}
use Rattle.zk_table.specs.Operations.{without_all}
use Rattle.zk_table.specs.Multis.{multi, told_parts, answers_unapplied, answers_of, nodes_after}
use Rattle.zk_machine.proofs.Owned as machine
use Rattle.zk_tree.proofs.Kept.{tests_alike}
use Rattle.zk_replay_laws.specs.Histories as histories
use Rattle.zk_replay_laws.specs.Histories.{is_failed, IsServed, IsCounted, IsCountedPart, IsLogged, ListsNodes}
use Rattle.zk_replay_laws.proofs.Changes.{Change, Writes, Guards, applied, zxid_of}
use Rattle.zk_replay_laws.proofs.Gets.{path_is_itself}
use Rattle.zk_replay_laws.proofs.Servers.{IsClosedMap, closed_after, pzxid_after}
use Rattle.zk_replay_laws.proofs.Timelines.{AreTaken, IsBoundedBy}
use Rattle.zk_replay_laws.proofs.Transactions.{applied_all}
use Rattle.zk_replay_laws.proofs.Taking.{Leads, makes, deletes, part_changes, parts_changes, create_leads, delete_leads, set_data_leads, set_acl_leads, parts_lead}
use Rattle.zk_replay_laws.proofs.Sound.{IsSound}
use Rattle.zk_replay_laws.proofs.Closing as closing
use Rattle.zk_replay_laws.proofs.Closing.{deletes_all, deletes_lead}
use Rattle.zk_replay_laws.proofs.Owned.{any_order, all_ready, none_owned}

-- ---- the words of the definitions

pub in_alike : (q : List ℕ) (paths : List (List ℕ)) → histories.is_in q paths ≡ closing.is_in q paths
in_alike q [] = refl
in_alike q (p ∷ ps) = ap (λ b. b || histories.is_in q ps) (tests_alike p q) ∙ ap (λ b. eq_by_cmp path_cmp q p || b) (in_alike q ps)

pub distinct_back : (paths : List (List ℕ)) → closing.AreDistinct paths → histories.AreDistinct paths
distinct_back [] h = tt
distinct_back (p ∷ ps) h = (in_alike p ps ∙ h.0, distinct_back ps h.1)

pub distinct_alike : (paths : List (List ℕ)) → histories.AreDistinct paths → closing.AreDistinct paths
distinct_alike [] h = tt
distinct_alike (p ∷ ps) h = (sym (in_alike p ps) ∙ h.0, distinct_alike ps h.1)

own_distinct : (nodes : NodeMap) (session : ℤ) (paths : List (List ℕ)) → machine.AreOwned nodes session paths → closing.AreDistinct paths
own_distinct nodes session [] owned = tt
own_distinct nodes session (p ∷ ps) owned = (false_from_ne_true _ (λ has. both_ways _ (ap is_eq (owned.2 p has)) (path_is_itself p)), own_distinct nodes session ps owned.3)

pub owned_distinct : (nodes : NodeMap) (session : ℤ) → closing.AreDistinct (owned_by nodes session)
owned_distinct nodes session = own_distinct nodes session (owned_by nodes session) (machine.all_owned nodes session)

-- ---- the changes of a transaction

abbrev pub op_changes : Txn → List (List ℕ) → Op → List Change
op_changes txn listed (ops.Create path content acl ephemeral count) = makes (parent_of path) txn.zxid path (created txn content acl ephemeral) count
op_changes txn listed (ops.Delete path) = deletes (parent_of path) txn.zxid path
op_changes txn listed (ops.SetData path content version) = Writes txn path content version ∷ []
op_changes txn listed (ops.SetAcl path acl version) = Guards txn.zxid path acl version ∷ []
op_changes txn listed ops.CloseSession = deletes_all txn.zxid listed
op_changes txn listed (ops.Multi parts) = cond (list_any is_error parts) [] (parts_changes txn parts)
op_changes txn listed _ = []

unchanged : (m : NodeMap) → Leads m [] m
unchanged m = record { is = refl; taken = tt }

not_failed : {P : Type 0} → (false ≡ true) ⊎ P → P
not_failed (inl e) = absurd (cc)
not_failed (inr p) = p

multi_leads : (s : State) (txn : Txn) (parts : List Sub) → AllByRecursion IsCountedPart parts → (list_any is_error parts ≡ true) ⊎ ((multi s txn parts).1.err ≡ pos 0) → Leads s.nodes (cond (list_any is_error parts) [] (parts_changes txn parts)) (multi s txn parts).0.nodes
multi_leads s txn parts counted h = by_test (list_any is_error parts) refl
  where
    by_test : (b : Bool) → list_any is_error parts ≡ b → Leads s.nodes (cond (list_any is_error parts) [] (parts_changes txn parts)) (multi s txn parts).0.nodes
    by_test true e = subst (λ c. Leads s.nodes (cond c [] (parts_changes txn parts)) (cond c (told_parts s txn s.nodes (answers_unapplied (pos 0) parts)) (told_parts s txn (nodes_after txn s.nodes parts) (answers_of txn s.nodes parts))).0.nodes) (sym e) (unchanged s.nodes)
    by_test false e = subst (λ c. Leads s.nodes (cond c [] (parts_changes txn parts)) (cond c (told_parts s txn s.nodes (answers_unapplied (pos 0) parts)) (told_parts s txn (nodes_after txn s.nodes parts) (answers_of txn s.nodes parts))).0.nodes) (sym e)
        (parts_lead s.nodes txn parts counted (not_failed (subst (λ c. (c ≡ true) ⊎ ((cond c (told_parts s txn s.nodes (answers_unapplied (pos 0) parts)) (told_parts s txn (nodes_after txn s.nodes parts) (answers_of txn s.nodes parts))).1.err ≡ pos 0)) e h)))

close_leads : (s : State) (txn : Txn) (listed : List (List ℕ)) → IsSound s.nodes → ListsNodes s txn.session listed → Leads s.nodes (deletes_all txn.zxid listed) (without_all txn s.nodes (owned_by s.nodes txn.session))
close_leads s txn listed sound lists =
    let same : (x : List ℕ) → closing.is_in x listed ≡ closing.is_in x (owned_by s.nodes txn.session) = λ x. sym (in_alike x listed) ∙ lists.owned x ∙ in_alike x (owned_by s.nodes txn.session) in
    subst (λ k. Leads s.nodes (deletes_all txn.zxid listed) k) (any_order txn s.nodes listed (owned_by s.nodes txn.session) same)
    (deletes_lead s.nodes txn listed sound.closed (distinct_alike listed lists.distinct)
    (⊎_elim
    (λ zero. none_ready listed (λ x. same x ∙ ap (closing.is_in x) (none_owned s.nodes txn.session zero)))
    (λ some. all_ready s.nodes txn.session some sound listed (λ q has. sym (same q) ∙ has))
    (cases_Bool (int_eq txn.session (pos 0)))))
  where
    none_ready : (paths : List (List ℕ)) → ((x : List ℕ) → closing.is_in x paths ≡ false) → closing.AllReady s.nodes paths
    none_ready [] none = tt
    none_ready (p ∷ ps) none = absurd (both_ways _ (or_parts _ _ (none p)).0 (path_is_itself p))

-- a session that ends lists its nodes
abbrev pub ListsAll : State → Txn → Op → List (List ℕ) → Type 0
ListsAll s txn ops.CloseSession paths = ListsNodes s txn.session paths
ListsAll s txn _ paths = Unit {0}

pub op_leads : (s : State) (txn : Txn) (listed : List (List ℕ)) (op : Op) → IsSound s.nodes → (is_failed op ≡ true) ⊎ ((step_by s txn op).1.err ≡ pos 0) → IsCounted op → ListsAll s txn op listed → Leads s.nodes (op_changes txn listed op) (step_by s txn op).0.nodes
op_leads s txn listed (ops.Create path content acl ephemeral count) sound served counted lists = create_leads s.nodes txn path content acl ephemeral count counted.0 counted.1 (not_failed served)
op_leads s txn listed (ops.CreateOld path content acl ephemeral) sound served counted lists = absurd counted
op_leads s txn listed (ops.Delete path) sound served counted lists = delete_leads s.nodes txn path counted (not_failed served)
op_leads s txn listed (ops.SetData path content version) sound served counted lists = set_data_leads s.nodes txn path content version (not_failed served)
op_leads s txn listed (ops.SetAcl path acl version) sound served counted lists = set_acl_leads s.nodes txn.zxid path acl version (not_failed served)
op_leads s txn listed (ops.OpenSession timeout) sound served counted lists = unchanged s.nodes
op_leads s txn listed ops.CloseSession sound served counted lists = close_leads s txn listed sound lists
op_leads s txn listed (ops.Multi parts) sound served counted lists = multi_leads s txn parts counted served
op_leads s txn listed (ops.Error code) sound served counted lists = unchanged s.nodes

-- ---- all of one zxid

abbrev pub AllOf : ℤ → List Change → Type 0
AllOf zxid [] = Unit {0}
AllOf zxid (c ∷ cs) = (zxid_of c ≡ zxid) × AllOf zxid cs

all_append : (zxid : ℤ) (xs ys : List Change) → AllOf zxid xs → AllOf zxid ys → AllOf zxid (xs ++ ys)
all_append zxid [] ys first rest = rest
all_append zxid (x ∷ xs) ys first rest = (first.0, all_append zxid xs ys first.1 rest)

makes_of : (o : Option (List ℕ)) (zxid : ℤ) (path : List ℕ) (node : Node) (count : ℤ) → AllOf zxid (makes o zxid path node count)
makes_of None zxid path node count = tt
makes_of (Some above) zxid path node count = (refl, tt)

deletes_of : (o : Option (List ℕ)) (zxid : ℤ) (path : List ℕ) → AllOf zxid (deletes o zxid path)
deletes_of None zxid path = tt
deletes_of (Some above) zxid path = (refl, tt)

part_of : (txn : Txn) (part : Sub) → AllOf txn.zxid (part_changes txn part)
part_of txn (subs.Create path content acl ephemeral count) = makes_of (parent_of path) txn.zxid path (created txn content acl ephemeral) count
part_of txn (subs.Delete path) = deletes_of (parent_of path) txn.zxid path
part_of txn (subs.SetData path content version) = (refl, tt)
part_of txn (subs.Check path version) = tt
part_of txn (subs.Error code) = tt

parts_of : (txn : Txn) (parts : List Sub) → AllOf txn.zxid (parts_changes txn parts)
parts_of txn [] = tt
parts_of txn (part ∷ parts) = all_append txn.zxid (part_changes txn part) (parts_changes txn parts) (part_of txn part) (parts_of txn parts)

all_deletes_of : (zxid : ℤ) (paths : List (List ℕ)) → AllOf zxid (deletes_all zxid paths)
all_deletes_of zxid [] = tt
all_deletes_of zxid (p ∷ ps) = all_append zxid (deletes (parent_of p) zxid p) (deletes_all zxid ps) (deletes_of (parent_of p) zxid p) (all_deletes_of zxid ps)

if_of : (b : Bool) (zxid : ℤ) (cs : List Change) → AllOf zxid cs → AllOf zxid (cond b [] cs)
if_of true zxid cs all = tt
if_of false zxid cs all = all

pub op_of : (txn : Txn) (listed : List (List ℕ)) (op : Op) → AllOf txn.zxid (op_changes txn listed op)
op_of txn listed (ops.Create path content acl ephemeral count) = makes_of (parent_of path) txn.zxid path (created txn content acl ephemeral) count
op_of txn listed (ops.CreateOld path content acl ephemeral) = tt
op_of txn listed (ops.Delete path) = deletes_of (parent_of path) txn.zxid path
op_of txn listed (ops.SetData path content version) = (refl, tt)
op_of txn listed (ops.SetAcl path acl version) = (refl, tt)
op_of txn listed (ops.OpenSession timeout) = tt
op_of txn listed ops.CloseSession = all_deletes_of txn.zxid listed
op_of txn listed (ops.Multi parts) = if_of (list_any is_error parts) txn.zxid (parts_changes txn parts) (parts_of txn parts)
op_of txn listed (ops.Error code) = tt

-- a bound on the zxids of nodes lasts through changes of lower zxids
pub bounded_through : (bound zxid : ℤ) (m : NodeMap) (cs : List Change) → AllOf zxid cs → int_lt bound zxid ≡ false → AreTaken m cs → IsClosedMap m → IsBoundedBy bound m → IsBoundedBy bound (applied_all m cs)
bounded_through bound zxid m [] all below taken closed bounded = bounded
bounded_through bound zxid m (c ∷ cs) all below taken closed bounded =
    bounded_through bound zxid (applied m c) cs all.1 below taken.1 (closed_after m c taken.0 closed)
    (λ q n there. ⊎_elim (λ e. ap (int_lt bound) (e ∙ all.0) ∙ below) (λ old. ap (int_lt bound) old.same ∙ bounded q old.node old.there) (pzxid_after m c taken.0 closed q n there))
