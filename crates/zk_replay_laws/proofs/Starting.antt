-- The state that a history leads to is sound.
use Rattle.std.proofs.Common.{◌≡◌, ◌≢◌, ℕ, ℤ, pos, List, [], ◌∷◌, ◌++◌, map, length, true, false, codes, Some, refl, sym, ap, subst, ◌∙◌, ⊎_elim, arith}
use Rattle.std.proofs.lemmas.Bool.Decides.{Decides-int_eq}
use Rattle.std.specs.FinMap.{get, insert, empty, get-empty}
use Rattle.std.specs.Ordering.{int_eq}
use Rattle.std.specs.Prelude.{int_lt}
use Rattle.zk_path.specs.Paths.{parent_of}
use Rattle.zk_table.specs.declared.node.Node.{Node}
use Rattle.zk_table.specs.declared.txn.Op.{Op}
use Rattle.zk_table.specs.declared.txn.Op.TheVariants as ops
use Rattle.zk_table.specs.declared.txn.Txn.{Txn}
use Rattle.zk_table.specs.Nodes.{first_node}
use Rattle.zk_table.specs.States.{NodeMap, State, path_cmp, start_state, owned_by}
use Rattle.zk_table.specs.Histories.{state_after}
use Rattle.zk_table.specs.Steps.{step}
use Rattle.zk_newer_records.specs.declared.newer_record.NewerRecord.{NewerRecord}
use Rattle.zk_replay_laws.specs.Histories.{IsLogged, AreLogged, AreRising}
use Rattle.zk_replay_laws.proofs.Paths.{some_inj, none_some}
use Rattle.zk_replay_laws.proofs.Gets.{cases_path, get_inserted, get_inserted_elsewhere}
use Rattle.zk_replay_laws.proofs.Changes.{There}
use Rattle.zk_replay_laws.proofs.Timelines.{IsBoundedBy}
use Rattle.zk_replay_laws.proofs.Taking.{Leads}
use Rattle.zk_replay_laws.proofs.Sound.{IsSound, IsGoodKey, sound_after_all}
use Rattle.zk_replay_laws.proofs.Orders.{AllAbove, all_above, lt_not_above}
use Rattle.zk_replay_laws.proofs.Leading.{ListsAll, distinct_back, owned_distinct, op_changes, op_leads, op_of, bounded_through}
use Rattle.zk_replay_laws.proofs.Windows.{txn_of, AllBounded}

-- ---- the state before any transaction

abbrev first : NodeMap
first = insert empty (codes "/") first_node

abbrev second : NodeMap
second = insert first (codes "/zookeeper") first_node

data IsFirst (q : List ℕ) : Type 0 where
  is_slash : q ≡ codes "/" → IsFirst q
  is_zookeeper : q ≡ codes "/zookeeper" → IsFirst q
  is_quota : q ≡ codes "/zookeeper/quota" → IsFirst q

first_only : (q : List ℕ) (n : Node) → get start_state.nodes q ≡ Some n → IsFirst q × (n ≡ first_node)
first_only q n there =
    ⊎_elim
    (λ e. (is_quota e, some_inj (sym there ∙ ap (get start_state.nodes) e ∙ get_inserted second (codes "/zookeeper/quota") first_node)))
    (λ a.
    let in_second = sym (get_inserted_elsewhere second (codes "/zookeeper/quota") first_node q a) ∙ there in
    ⊎_elim
    (λ e. (is_zookeeper e, some_inj (sym in_second ∙ ap (get second) e ∙ get_inserted first (codes "/zookeeper") first_node)))
    (λ b.
    let in_first = sym (get_inserted_elsewhere first (codes "/zookeeper") first_node q b) ∙ in_second in
    ⊎_elim
    (λ e. (is_slash e, some_inj (sym in_first ∙ ap (get first) e ∙ get_inserted empty (codes "/") first_node)))
    (λ c. absurd (none_some (sym (get_inserted_elsewhere empty (codes "/") first_node q c ∙ get-empty path_cmp q) ∙ in_first)))
    (cases_path q (codes "/")))
    (cases_path q (codes "/zookeeper")))
    (cases_path q (codes "/zookeeper/quota"))

slash_differs : codes "/" ≢ codes "/zookeeper"
slash_differs e = let h = ap length e in absurd (omega (arith, h))

slash_differs_too : codes "/" ≢ codes "/zookeeper/quota"
slash_differs_too e = let h = ap length e in absurd (omega (arith, h))

zookeeper_differs : codes "/zookeeper" ≢ codes "/zookeeper/quota"
zookeeper_differs e = let h = ap length e in absurd (omega (arith, h))

slash_there : get start_state.nodes (codes "/") ≡ Some first_node
slash_there =
    get_inserted_elsewhere second (codes "/zookeeper/quota") first_node (codes "/") slash_differs_too
    ∙ get_inserted_elsewhere first (codes "/zookeeper") first_node (codes "/") slash_differs
    ∙ get_inserted empty (codes "/") first_node

zookeeper_there : get start_state.nodes (codes "/zookeeper") ≡ Some first_node
zookeeper_there =
    get_inserted_elsewhere second (codes "/zookeeper/quota") first_node (codes "/zookeeper") zookeeper_differs
    ∙ get_inserted first (codes "/zookeeper") first_node

start_closed : (q above : List ℕ) → IsFirst q → parent_of q ≡ Some above → There start_state.nodes above
start_closed q above (is_slash e) parent = absurd (none_some (ap parent_of (sym e) ∙ parent))
start_closed q above (is_zookeeper e) parent = (first_node, ap (get start_state.nodes) (some_inj (sym parent ∙ ap parent_of e)) ∙ slash_there)
start_closed q above (is_quota e) parent = (first_node, ap (get start_state.nodes) (some_inj (sym parent ∙ ap parent_of e)) ∙ zookeeper_there)

start_key : (q : List ℕ) → IsFirst q → IsGoodKey q
start_key q (is_slash e) = record {
  filled = λ none. let h = ap length (sym e ∙ none) in absurd (omega (arith, h));
  shorter = λ above parent. absurd (none_some (ap parent_of (sym e) ∙ parent));
}
start_key q (is_zookeeper e) = record {
  filled = λ none. let h = ap length (sym e ∙ none) in absurd (omega (arith, h));
  shorter = λ above parent.
      let a : length above ≡ length (codes "/") = ap length (some_inj (sym parent ∙ ap parent_of e)) in
      let b = ap length e in
      omega (arith, a, b);
}
start_key q (is_quota e) = record {
  filled = λ none. let h = ap length (sym e ∙ none) in absurd (omega (arith, h));
  shorter = λ above parent.
      let a : length above ≡ length (codes "/zookeeper") = ap length (some_inj (sym parent ∙ ap parent_of e)) in
      let b = ap length e in
      omega (arith, a, b);
}

no_owner : int_eq (pos 0) (pos 0) ≡ true
no_owner = (Decides-int_eq (pos 0) (pos 0)).1 refl

first_plain : (q : List ℕ) (n : Node) → get start_state.nodes q ≡ Some n → int_eq n.owner (pos 0) ≡ true
first_plain q n there = ap (λ x. int_eq x.owner (pos 0)) (first_only q n there).1 ∙ no_owner

pub start_sound : IsSound start_state.nodes
start_sound = record {
  closed = λ q above there parent. start_closed q above (first_only q there.0 there.1).0 parent;
  plain = λ q above n there parent at. first_plain above n at;
  root = λ q n root there. first_plain q n there;
  keys = λ q there. start_key q (first_only q there.0 there.1).0;
}

pub start_bounded : (zxid : ℤ) → int_lt zxid (pos 0) ≡ false → IsBoundedBy zxid start_state.nodes
start_bounded zxid low q n there = ap (λ x. int_lt zxid x.pzxid) (first_only q n there).1 ∙ low

-- ---- a history

lists_own : (s : State) (txn : Txn) (op : Op) → ListsAll s txn op (owned_by s.nodes txn.session)
lists_own s txn (ops.Create path content acl ephemeral count) = tt
lists_own s txn (ops.CreateOld path content acl ephemeral) = tt
lists_own s txn (ops.Delete path) = tt
lists_own s txn (ops.SetData path content version) = tt
lists_own s txn (ops.SetAcl path acl version) = tt
lists_own s txn (ops.OpenSession timeout) = tt
lists_own s txn ops.CloseSession = record { distinct = distinct_back (owned_by s.nodes txn.session) (owned_distinct s.nodes txn.session); owned = λ path. refl }
lists_own s txn (ops.Multi parts) = tt
lists_own s txn (ops.Error code) = tt

txn_leads : (s : State) (txn : Txn) → IsSound s.nodes → IsLogged s txn → Leads s.nodes (op_changes txn (owned_by s.nodes txn.session) txn.op) (step s txn).0.nodes
txn_leads s txn sound is = op_leads s txn (owned_by s.nodes txn.session) txn.op sound is.served is.counted (lists_own s txn txn.op)

sound_step : (s : State) (txn : Txn) → IsSound s.nodes → IsLogged s txn → IsSound (step s txn).0.nodes
sound_step s txn sound is = let leads = txn_leads s txn sound is in subst IsSound (sym leads.is) (sound_after_all s.nodes _ leads.taken sound)

pub history_sound : (s : State) (txns : List Txn) → AreLogged s txns → IsSound s.nodes → IsSound (state_after s txns).nodes
history_sound s [] logged sound = sound
history_sound s (txn ∷ txns) logged sound = history_sound (step s txn).0 txns logged.1 (sound_step s txn sound logged.0)

abbrev AllBelow : ℤ → List Txn → Type 0
AllBelow zxid [] = Unit {0}
AllBelow zxid (txn ∷ txns) = (int_lt zxid txn.zxid ≡ false) × AllBelow zxid txns

history_bounded : (zxid : ℤ) (s : State) (txns : List Txn) → AllBelow zxid txns → AreLogged s txns → IsSound s.nodes → IsBoundedBy zxid s.nodes → IsBoundedBy zxid (state_after s txns).nodes
history_bounded zxid s [] below logged sound bounded = bounded
history_bounded zxid s (txn ∷ txns) below logged sound bounded =
    let leads = txn_leads s txn sound logged.0 in
    history_bounded zxid (step s txn).0 txns below.1 logged.1 (sound_step s txn sound logged.0)
    (subst (IsBoundedBy zxid) (sym leads.is) (bounded_through zxid txn.zxid s.nodes _ (op_of txn (owned_by s.nodes txn.session) txn.op) below.0 leads.taken sound.closed bounded))

-- ---- what follows on it

abbrev EachAbove : List Txn → List Txn → Type 0
EachAbove xs [] = Unit {0}
EachAbove xs (y ∷ ys) = AllBelow y.zxid xs × EachAbove xs ys

above_rest : (zxid : ℤ) (xs ys : List Txn) → AllAbove zxid (xs ++ ys) → AllAbove zxid ys
above_rest zxid [] ys above = above
above_rest zxid (x ∷ xs) ys above = above_rest zxid xs ys above.1

each_more : (x : Txn) (xs ys : List Txn) → AllAbove x.zxid ys → EachAbove xs ys → EachAbove (x ∷ xs) ys
each_more x xs [] above each = tt
each_more x xs (y ∷ ys) above each = ((lt_not_above x.zxid y.zxid above.0, each.0), each_more x xs ys above.1 each.1)

each_none : (ys : List Txn) → EachAbove [] ys
each_none [] = tt
each_none (y ∷ ys) = (tt, each_none ys)

each_above : (last : ℤ) (xs ys : List Txn) → AreRising last (xs ++ ys) → EachAbove xs ys
each_above last [] ys rising = each_none ys
each_above last (x ∷ xs) ys rising = each_more x xs ys (above_rest x.zxid xs ys (all_above x.zxid (xs ++ ys) rising.1)) (each_above x.zxid xs ys rising.1)

bounded_each : (earlier : List Txn) (rs : List NewerRecord) → AreLogged start_state earlier → EachAbove earlier (map txn_of rs) → AllAbove (pos 0) (map txn_of rs) → AllBounded rs (state_after start_state earlier).nodes
bounded_each earlier [] logged each above = tt
bounded_each earlier (r ∷ rs) logged each above =
    (history_bounded r.txn.zxid start_state earlier each.0 logged start_sound (start_bounded r.txn.zxid (lt_not_above (pos 0) r.txn.zxid above.0)), bounded_each earlier rs logged each.1 above.1)

pub window_bounded : (earlier : List Txn) (rs : List NewerRecord) → AreLogged start_state earlier → AreRising (pos 0) (earlier ++ map txn_of rs) → AllBounded rs (state_after start_state earlier).nodes
window_bounded earlier rs logged rising =
    bounded_each earlier rs logged (each_above (pos 0) earlier (map txn_of rs) rising) (above_rest (pos 0) earlier (map txn_of rs) (all_above (pos 0) (earlier ++ map txn_of rs) rising))
