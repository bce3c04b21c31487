-- If the record of a closed session lists no node of another, a 3.5 to 3.8 server's table and that
-- of 3.4 delete the same nodes.
use Rattle.std.proofs.Common.{◌≡◌, ℕ, ℤ, pos, Bool, true, false, cond, not, ◌||◌, List, [], ◌∷◌, map, filter, is_eq, Less, Some, None, nat_lt, int_le, refl, sym, ap, ◌∙◌}
use Rattle.std.proofs.lemmas.Bool.{false≢true}
use Rattle.std.proofs.lemmas.Cmp.{nat_list_cmp_total, eq_by_cmp_equiv}
use Rattle.std.proofs.lemmas.Slice.Eq.{bytes_eq-Decides}
use Rattle.std.specs.FinMap as finite
use Rattle.std.specs.FinMap.{find}
use Rattle.std.specs.List.{AllByRecursion, list_any}
use Rattle.std.specs.List.Sorted.{IsStrictlySortedBy}
use Rattle.std.specs.Ordering.{int_eq}
use Rattle.std.specs.Str.{bytes_eq}
use Rattle.zk_records.specs.Records.{record_of}
use Rattle.zk_records.specs.Sizes.{size_of}
use Rattle.zk_records.specs.Written.{most_bytes}
use Rattle.zk_log.specs.declared.fault.LogFault.TheVariants as log_faults
use Rattle.zk_newer_records.specs.NewerRecords.{listed_in, tells_why}
use Rattle.zk_newer_records.specs.declared.newer_record.Encoding.{Encoding}
use Rattle.zk_newer_records.specs.declared.newer_record.Encoding.TheVariants as forms
use Rattle.zk_newer_records.specs.declared.newer_record.NewerRecord.{NewerRecord}
use Rattle.zk_table.specs.Histories.{state_after, tree_of}
use Rattle.zk_table.specs.Operations.{without_all}
use Rattle.zk_table.specs.States.{NodeMap, State, owned_by, path_cmp}
use Rattle.zk_table.specs.Steps.{step_by}
use Rattle.zk_tree.proofs.Lists.{rising_keys, same_itself}
use Rattle.zk_table.specs.declared.node.Node.{Node}
use Rattle.zk_table.specs.declared.txn.Op.{Op}
use Rattle.zk_table.specs.declared.txn.Op.TheVariants as ops
use Rattle.zk_table.specs.declared.txn.Txn.{Txn}
use Rattle.zk_mend.proofs.Refusals.{passed}
use Rattle.zk_mend.specs.NewerLogs.{LogPosition, start_place, after_record, is_others, owns, closes_others, txns_in, AllMayCome, MayCome}
use Rattle.zk_mend.specs.NewerTables.{going, goes_with, newer_close, newer_state, newer_step_by, MendedTreeIsTheServers}
use Rattle.zk_mend.specs.declared.fault.MendFault.{MendFault}
use Rattle.zk_mend.specs.declared.fault.MendFault.TheVariants as faults

-- ---- each entry of a map is found in it

found_ahead : (x : List ℕ × Node) (xs es : List (List ℕ × Node)) → AllByRecursion (λ k. path_cmp x.0 k ≡ Less) (map (λ e. e.0) es) → AllByRecursion (λ e. find path_cmp e.0 xs ≡ Some e.1) es → AllByRecursion (λ e. find path_cmp e.0 (x ∷ xs) ≡ Some e.1) es
found_ahead x xs [] h a = tt
found_ahead x xs (e ∷ es) h a =
    (ap (λ b. cond b (Some x.1) (find path_cmp e.0 xs)) ((eq_by_cmp_equiv nat_list_cmp_total).symm e.0 x.0 ∙ ap is_eq h.0) ∙ a.0, found_ahead x xs es h.1 a.1)

all_found : (es : List (List ℕ × Node)) → IsStrictlySortedBy path_cmp (map (λ e. e.0) es) → AllByRecursion (λ e. find path_cmp e.0 es ≡ Some e.1) es
unfolding IsStrictlySortedBy
all_found [] h = tt
all_found (e ∷ es) h = (ap (λ b. cond b (Some e.1) (find path_cmp e.0 es)) (same_itself e.0), found_ahead e es es h.0 (all_found es h.1))

-- ---- the nodes that are deleted

module _ (nodes : NodeMap) (session : ℤ) where
  -- a node that is not the session's, if no other session's node is listed
  unlisted : (path : List ℕ) (node : Node) (listed : List (List ℕ)) → finite.get nodes path ≡ Some node → owns session node ≡ false → list_any (λ l. is_others session (finite.get nodes l)) listed ≡ false → list_any (bytes_eq path) listed ≡ false
  unlisted path node [] found other none = refl
  unlisted path node (l ∷ listed) found other none =
      elim (bytes_eq path l) as (λ b. bytes_eq path l ≡ b → (b || list_any (bytes_eq path) listed) ≡ false) [
        | true ↦ λ same.
            let there : finite.get nodes l ≡ Some node = ap (finite.get nodes) (sym ((bytes_eq-Decides path l).0 same)) ∙ found in
            let others : is_others session (finite.get nodes l) ≡ true = ap (is_others session) there ∙ ap not other in
            absurd (false≢true (sym (either (is_others session (finite.get nodes l)) _ none).0 ∙ others))
        | false ↦ λ apart. unlisted path node listed found other (either (is_others session (finite.get nodes l)) _ none).1
      ] refl
    where
      either : (a b : Bool) → (a || b) ≡ false → (a ≡ false) × (b ≡ false)
      either true b e = absurd (false≢true (sym e))
      either false b e = (refl, e)

  goes_owned : (listed : List (List ℕ)) (e : List ℕ × Node) → finite.get nodes e.0 ≡ Some e.1 → list_any (λ l. is_others session (finite.get nodes l)) listed ≡ false → goes_with session listed e ≡ owns session e.1
  goes_owned listed e found none =
      elim (owns session e.1) as (λ b. owns session e.1 ≡ b → (b || list_any (bytes_eq e.0) listed) ≡ b) [
        | true ↦ λ own. refl
        | false ↦ λ other. unlisted e.0 e.1 listed found other none
      ] refl

  going_owned : (listed : List (List ℕ)) (es : List (List ℕ × Node)) → AllByRecursion (λ e. finite.get nodes e.0 ≡ Some e.1) es → list_any (λ l. is_others session (finite.get nodes l)) listed ≡ false → filter (goes_with session listed) es ≡ filter (λ e. owns session e.1) es
  going_owned listed [] found none = refl
  going_owned listed (e ∷ es) found none = λ i. cond (goes_owned listed e found.0 none i) (e ∷ going_owned listed es found.1 none i) (going_owned listed es found.1 none i)

-- session 0 owns nothing
nobody : (es : List (List ℕ × Node)) → filter (λ (e : List ℕ × Node). false) es ≡ []
nobody [] = refl
nobody (e ∷ es) = nobody es

owned_are : (nodes : NodeMap) (session : ℤ) → map (λ e. e.0) (filter (λ e. owns session e.1) (finite.entries nodes)) ≡ owned_by nodes session
owned_are nodes session =
    elim (int_eq session (pos 0)) as (λ b. map (λ (e : List ℕ × Node). e.0) (filter (λ e. cond b false (int_eq e.1.owner session)) (finite.entries nodes)) ≡ cond b [] (map (λ (e : List ℕ × Node). e.0) (filter (λ e. int_eq e.1.owner session) (finite.entries nodes)))) [
      | true ↦ ap (map (λ (e : List ℕ × Node). e.0)) (nobody (finite.entries nodes))
      | false ↦ refl
    ]

same_going : (nodes : NodeMap) (session : ℤ) (listed : List (List ℕ)) → list_any (λ l. is_others session (finite.get nodes l)) listed ≡ false → going nodes session listed ≡ owned_by nodes session
same_going nodes session listed none =
    ap (map (λ (e : List ℕ × Node). e.0)) (going_owned nodes session listed (finite.entries nodes) there none) ∙ owned_are nodes session
  where
    get_all : (es : List (List ℕ × Node)) → AllByRecursion (λ e. find path_cmp e.0 (finite.entries nodes) ≡ Some e.1) es → AllByRecursion (λ e. finite.get nodes e.0 ≡ Some e.1) es
    get_all [] a = tt
    get_all (e ∷ es) a = (finite.get-entries nodes e.0 ∙ a.0, get_all es a.1)

    there : AllByRecursion (λ e. finite.get nodes e.0 ≡ Some e.1) (finite.entries nodes)
    there = get_all (finite.entries nodes) (all_found (finite.entries nodes) (rising_keys nodes))

-- ---- one record

same_by : (state : State) (txn : Txn) (op : Op) (form : Encoding) → list_any (λ l. is_others txn.session (finite.get state.nodes l)) (listed_in form) ≡ false → (newer_step_by state txn op form).0 ≡ (step_by state txn op).0
same_by state txn ops.CloseSession (forms.ClosePaths listed) none =
    ap (λ paths. record { nodes = without_all txn state.nodes paths; sessions = (newer_close state txn listed).0.sessions; last = (newer_close state txn listed).0.last }) (same_going state.nodes txn.session listed none)
same_by state txn op form none = refl

last_passed : (a b c d : Bool) (k l m n : MendFault) → cond a (Some k) (cond b (Some l) (cond c (Some m) (cond d (Some n) None))) ≡ None → d ≡ false
last_passed a b c d k l m n e =
    let second = (passed a k (cond b (Some l) (cond c (Some m) (cond d (Some n) None))) e).1 in
    let third = (passed b l (cond c (Some m) (cond d (Some n) None)) second).1 in
    (passed d n None (passed c m (cond d (Some n) None) third).1).0

none_of_others : (place : LogPosition) (newer : NewerRecord) → MayCome place newer → closes_others place.state.nodes newer ≡ false
none_of_others place newer m =
    last_passed (not (tells_why newer)) (nat_lt most_bytes (size_of (record_of newer.txn))) (int_le newer.txn.zxid place.last) (closes_others place.state.nodes newer)
    (faults.NoReason place.at) (faults.TooLong place.at) (faults.Log (log_faults.Order place.at)) (faults.OtherNodes place.at) m.goes

-- ---- one after another

same_state : (place : LogPosition) (newers : List NewerRecord) → AllMayCome place newers → newer_state place.state newers ≡ state_after place.state (txns_in newers)
same_state place [] come = refl
same_state place (newer ∷ newers) come =
    ap (λ state. newer_state state newers) (same_by place.state newer.txn newer.txn.op newer.form (none_of_others place newer come.0))
    ∙ same_state (after_record place newer) newers come.1

pub mended_tree_is_the_servers : MendedTreeIsTheServers
mended_tree_is_the_servers bytes mended is =
    ap tree_of is.entries.journal ∙ sym (same_state start_place is.entries.newers is.entries.mends.come)
