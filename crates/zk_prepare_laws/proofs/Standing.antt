-- Owners are open sessions, transaction after transaction.
use Rattle.std.proofs.Common.{◌≡◌, ◌≢◌, inl, inr, ℕ, ℤ, pos, negsuc, true, false, cond, List, [], ◌∷◌, ◌++◌, Some, is_some, unwrap_or, codes, refl, sym, ap, subst, ◌∙◌}
use Rattle.std.proofs.lemmas.Bool.{false≢true}
use Rattle.std.proofs.lemmas.Cmp.{nat_list_cmp_total}
use Rattle.std.proofs.lemmas.List.{append-nil, append_assoc}
use Rattle.std.specs.FinMap as finite
use Rattle.std.specs.FinMap.{get, insert, empty}
use Rattle.std.specs.Int.{w64}
use Rattle.std.specs.Int.RustNames.{FitsSigned}
use Rattle.std.specs.List.{list_any}
use Rattle.std.specs.Option.{option_map}
use Rattle.std.specs.Ordering.{eq_by_cmp}
use Rattle.zk_table.specs.declared.node.Node.{Node}
use Rattle.zk_table.specs.declared.sub.Sub.{Sub}
use Rattle.zk_table.specs.declared.txn.Op.{Op}
use Rattle.zk_table.specs.declared.txn.Op.TheVariants as ops
use Rattle.zk_table.specs.declared.txn.Txn.{Txn}
use Rattle.zk_table.specs.Parts.{is_error}
use Rattle.zk_table.specs.Nodes.{first_node}
use Rattle.zk_table.specs.Histories.{tree_of}
use Rattle.zk_table.specs.Multis.{nodes_after, answers_of, answers_unapplied, told_parts}
use Rattle.zk_table.specs.Operations.{create, delete, set_data, set_acl}
use Rattle.zk_table.specs.States.{NodeMap, State, start_state, path_cmp}
use Rattle.zk_table.specs.Steps.{step, step_by}
use Rattle.zk_tree.specs.Trees.{owner_at}
use Rattle.zk_requests.specs.Requests.{is_open}
use Rattle.zk_prepare.proofs.Tails.{state_after-append}
use Rattle.zk_prepare_laws.specs.Consequences.{HasOpenOwners}
use Rattle.zk_prepare_laws.specs.Prepared.{IsPrepared, ArePrepared, HaveSessions, is_in_session}
use Rattle.zk_prepare_laws.proofs.Owners.{ComesFrom, create_comes, delete_comes, set_data_comes, set_acl_comes, parts_come, close_leaves}
use Rattle.zk_prepare_laws.proofs.Sessions.{session_is_open, still_open, others_open}

-- who owns a node is an open session, and a number of 64 bits
abbrev pub Stands : State → Type 0
Stands state = (path : List ℕ) (owner : ℤ) → owner_at state.nodes path ≡ Some owner → owner ≢ pos 0 → (is_open state owner ≡ true) × FitsSigned w64 owner

-- in whose name something is done
abbrev IsAllowed : State → Txn → Type 0
IsAllowed state txn = (is_open state txn.session ≡ true) × FitsSigned w64 txn.session

-- ---- one transaction

comes_stands : (state : State) (txn : Txn) (nodes : NodeMap) (last : ℤ) → ComesFrom txn.session state.nodes nodes → IsAllowed state txn → Stands state → Stands (record { nodes = nodes; sessions = state.sessions; last = last })
comes_stands state txn nodes last comes allowed stands = λ path owner is some. elim (comes path owner is some) [
  | inl own ↦ subst (λ (owner : ℤ). (is_open state owner ≡ true) × FitsSigned w64 owner) (sym own) allowed
  | inr was ↦ stands path owner was some
]

close_stands : (state : State) (txn : Txn) → IsAllowed state txn → Stands state → Stands (step_by state txn ops.CloseSession).0
close_stands state txn allowed stands = λ path owner is some.
    let left = close_leaves txn state.nodes txn.session path owner is some in
    let was = stands path owner left.0 some in
    (others_open state.sessions txn.session owner allowed.1 was.1 left.1 was.0, was.1)

multi_stands : (state : State) (txn : Txn) (parts : List Sub) → IsAllowed state txn → Stands state → Stands (step_by state txn (ops.Multi parts)).0
multi_stands state txn parts allowed stands =
    elim (list_any is_error parts) as (λ b. Stands (cond b (told_parts state txn state.nodes (answers_unapplied (pos 0) parts)) (told_parts state txn (nodes_after txn state.nodes parts) (answers_of txn state.nodes parts))).0) [
      | true ↦ stands
      | false ↦ comes_stands state txn (nodes_after txn state.nodes parts) txn.zxid (parts_come txn state.nodes parts) allowed stands
    ]

op_stands : (state : State) (txn : Txn) (op : Op) → (is_in_session op ≡ true → IsAllowed state txn) → Stands state → Stands (step_by state txn op).0
op_stands state txn (ops.Create path content acl ephemeral count) allowed stands =
    comes_stands state txn (create state.nodes txn path content acl ephemeral count).nodes txn.zxid (create_comes txn state.nodes path content acl ephemeral count) (allowed refl) stands
op_stands state txn (ops.CreateOld path content acl ephemeral) allowed stands =
    comes_stands state txn (create state.nodes txn path content acl ephemeral (negsuc 0)).nodes txn.zxid (create_comes txn state.nodes path content acl ephemeral (negsuc 0)) (allowed refl) stands
op_stands state txn (ops.Delete path) allowed stands =
    comes_stands state txn (delete state.nodes txn path).nodes txn.zxid (delete_comes txn.session txn state.nodes path) (allowed refl) stands
op_stands state txn (ops.SetData path content version) allowed stands =
    comes_stands state txn (set_data state.nodes txn path content version).nodes txn.zxid (set_data_comes txn.session txn state.nodes path content version) (allowed refl) stands
op_stands state txn (ops.SetAcl path acl version) allowed stands =
    comes_stands state txn (set_acl state.nodes path acl version).nodes txn.zxid (set_acl_comes txn.session state.nodes path acl version) (allowed refl) stands
op_stands state txn (ops.OpenSession timeout) allowed stands = λ path owner is some.
    let was = stands path owner is some in (still_open state.sessions txn.session owner timeout was.0, was.1)
op_stands state txn ops.CloseSession allowed stands = close_stands state txn (allowed refl) stands
op_stands state txn (ops.Multi parts) allowed stands = multi_stands state txn parts (allowed refl) stands
op_stands state txn (ops.Error code) allowed stands = stands

pub stands_after : (state : State) (txn : Txn) → IsPrepared state txn → (is_in_session txn.op ≡ true → FitsSigned w64 txn.session) → Stands state → Stands (step state txn).0
stands_after state txn prepared fits stands = op_stands state txn txn.op (λ acts. (session_is_open state txn prepared acts, fits acts)) stands

-- ---- from the start on

free_put : (m : NodeMap) (path : List ℕ) → ((q : List ℕ) (owner : ℤ) → owner_at m q ≡ Some owner → owner ≡ pos 0) → (q : List ℕ) (owner : ℤ) → owner_at (insert m path first_node) q ≡ Some owner → owner ≡ pos 0
free_put m path free q owner is =
    elim (eq_by_cmp path_cmp q path) as (λ b. option_map (λ (node : Node). node.owner) (cond b (Some first_node) (get m q)) ≡ Some owner → owner ≡ pos 0) [
      | true ↦ λ e. sym (ap (λ o. unwrap_or o owner) e)
      | false ↦ λ e. free q owner e
    ] (sym (ap (option_map (λ (node : Node). node.owner)) (finite.get-insert nat_list_cmp_total m path first_node q)) ∙ is)

free_empty : (q : List ℕ) (owner : ℤ) → owner_at empty q ≡ Some owner → owner ≡ pos 0
free_empty q owner is = absurd (false≢true (ap is_some (sym (ap (option_map (λ (node : Node). node.owner)) (finite.get-empty path_cmp q)) ∙ is)))

stands_first : Stands start_state
stands_first = λ path owner is some. absurd (some (free_put _ (codes "/zookeeper/quota") (free_put _ (codes "/zookeeper") (free_put empty (codes "/") free_empty)) path owner is))

-- the rest of a list, after what it has
stands_on : (all before rest : List Txn) → ArePrepared all → HaveSessions all → all ≡ before ++ rest → Stands (tree_of before) → Stands (tree_of all)
stands_on all before [] prepared sessions is stands = subst (λ (l : List Txn). Stands (tree_of l)) (sym (is ∙ append-nil before)) stands
stands_on all before (txn ∷ rest) prepared sessions is stands =
    let after : Stands (step (tree_of before) txn).0 = stands_after (tree_of before) txn (prepared before txn rest is) (sessions before txn rest is) stands in
    stands_on all (before ++ txn ∷ []) rest prepared sessions (is ∙ sym (append_assoc before (txn ∷ []) rest)) (subst Stands (sym (state_after-append start_state before (txn ∷ []))) after)

pub owners_are_open : (txns : List Txn) → ArePrepared txns → HaveSessions txns → HasOpenOwners (tree_of txns)
owners_are_open txns prepared sessions path owner is some = (stands_on txns [] txns prepared sessions refl stands_first path owner is some).0
