-- The records of a window, replayed one by one on a draft that was seen within it.
use Rattle.std.proofs.Common.{◌≡◌, inl, inr, ℕ, ℤ, zero, suc, pos, List, [], ◌∷◌, ◌++◌, map, take, Bool, true, false, cond, Option, Some, None, refl, sym, ap, subst, ◌∙◌, ⊎_elim}
use Rattle.std.proofs.lemmas.Bool.{cond-true, cond-false, cases_Bool, both_ways, or_left, or_right, false_from_ne_true}
use Rattle.std.proofs.lemmas.Bool.Decides.{Decides-int_eq}
use Rattle.std.proofs.lemmas.List.{append_assoc}
use Rattle.std.specs.FinMap.{get, empty, entries}
use Rattle.std.specs.List.{AllByRecursion, list_any}
use Rattle.std.specs.Ordering.{int_eq}
use Rattle.std.specs.Prelude.{int_lt}
use Rattle.zk_path.specs.Paths.{parent_of}
use Rattle.zk_table.specs.declared.node.Node.{Node}
use Rattle.zk_table.specs.declared.sub.Sub.{Sub}
use Rattle.zk_table.specs.declared.sub.Sub.TheVariants as subs
use Rattle.zk_table.specs.declared.txn.Op.{Op}
use Rattle.zk_table.specs.declared.txn.Op.TheVariants as ops
use Rattle.zk_table.specs.declared.txn.Txn.{Txn}
use Rattle.zk_table.specs.Nodes.{created}
use Rattle.zk_table.specs.Parts.{is_error}
use Rattle.zk_table.specs.States.{NodeMap, State, owned_by}
use Rattle.zk_table.specs.Histories.{state_after}
use Rattle.zk_table.specs.Operations.{without_all}
use Rattle.zk_table.specs.Steps.{step, step_by}
use Rattle.zk_acl.specs.declared.acl.Acl.{Acl}
use Rattle.zk_newer_records.specs.NewerRecords.{listed_of}
use Rattle.zk_newer_records.specs.declared.newer_record.NewerRecord.{NewerRecord}
use Rattle.zk_replay.specs.declared.draft_node.DraftNode.{DraftNode}
use Rattle.zk_replay.specs.Drafts as drafts
use Rattle.zk_replay.specs.Drafts.{DraftMap, owned_in}
use Rattle.zk_replay.specs.Rules as rules
use Rattle.zk_replay.specs.Rules.{nodes_replayed}
use Rattle.zk_replay_laws.specs.Histories.{Closings, Listed, Unlisted, ListsAs, ListsIfClosed, ListsNodes, IsCounted, IsInWindow, AreInWindow, CreatesNone, creates, is_create, AreRising, EndsIfClosed}
use Rattle.zk_replay_laws.proofs.Changes.{Change, applied, replayed}
use Rattle.zk_replay_laws.proofs.Timelines.{Occurs, occurs_now, AreTaken, AllFrom, IsBoundedBy, AreBounded, IsHistory, history_after}
use Rattle.zk_replay_laws.proofs.Timelines as timelines
use Rattle.zk_replay_laws.proofs.Transactions.{applied_all, replayed_all, applied_append, taken_append}
use Rattle.zk_replay_laws.proofs.Taking.{Leads, makes, deletes, part_changes, parts_changes, parts_replayed}
use Rattle.zk_replay_laws.proofs.Owners.{AllNeverOwn}
use Rattle.zk_replay_laws.proofs.Orders.{AllAbove, all_above, lt_not_above}
use Rattle.zk_replay_laws.proofs.Removals.{IsDraftTree}
use Rattle.zk_replay_laws.proofs.Simulation.{AllSeen, not_below_itself}
use Rattle.zk_replay_laws.proofs.Settling.{AllGot, all_got}
use Rattle.zk_replay_laws.proofs.Sound.{IsSound, sound_after_all}
use Rattle.zk_replay_laws.proofs.Closing as closing
use Rattle.zk_replay_laws.proofs.Closing.{AllReady, deletes_all, all_deleted}
use Rattle.zk_replay_laws.proofs.Owned.{owns_nothing, owned_node, owned_listed, all_ready, none_owned}
use Rattle.zk_replay_laws.proofs.Choosing.{both_true, first_those, others, in_first_those, distinct_first_those, others_within, others_apart, all_within, distinct_first, distinct_rest, ready_first, ready_rest, deletes_append}
use Rattle.zk_replay_laws.proofs.DraftOwners.{owned_in_draft, listed_in_draft, owned_once}
use Rattle.zk_replay_laws.proofs.Skipping.{OwnedAt, draft_owned, owner_left, owned_after, skip_all}
use Rattle.zk_replay_laws.proofs.Leading.{ListsAll, in_alike, distinct_back, owned_distinct, op_changes, op_leads, AllOf, op_of}
use Rattle.zk_replay_laws.proofs.Steps.{step_seen}

abbrev pub txn_of : NewerRecord → Txn
txn_of r = r.txn

-- the nodes of a session that ends without a list: first those that the draft has, too
abbrev pub order : Closings → NodeMap → DraftMap → ℤ → List (List ℕ) → List (List ℕ)
order Listed m d session listed = listed
order Unlisted m d session [] = first_those (drafts.owned_by d session) (owned_by m session)
order Unlisted m d session (p ∷ ps) = p ∷ ps

abbrev pub changes_of : Closings → State → DraftMap → NewerRecord → List Change
changes_of closings s d r = op_changes r.txn (order closings s.nodes d r.txn.session (listed_of r)) r.txn.op

abbrev pub all_changes : Closings → State → DraftMap → List NewerRecord → List Change
all_changes closings s d [] = []
all_changes closings s d (r ∷ rs) = changes_of closings s d r ++ all_changes closings (step s r.txn).0 (nodes_replayed d r) rs

-- ---- the record's changes on the server

ordered_lists : (s : State) (d : DraftMap) (session : ℤ) (closings : Closings) (listed : List (List ℕ)) → ListsAs closings s session listed → ListsNodes s session (order closings s.nodes d session listed)
ordered_lists s d session Listed listed lists = lists
ordered_lists s d session Unlisted [] lists =
    let owned = owned_by s.nodes session in
    let paths = first_those (drafts.owned_by d session) owned in
    record {
      distinct = distinct_back paths (distinct_first_those (drafts.owned_by d session) owned (owned_distinct s.nodes session));
      owned = λ path. in_alike path paths ∙ in_first_those path (drafts.owned_by d session) owned ∙ sym (in_alike path owned);
    }
ordered_lists s d session Unlisted (p ∷ ps) (inl none) = absurd (cc)
ordered_lists s d session Unlisted (p ∷ ps) (inr lists) = lists

order_lists : (s : State) (d : DraftMap) (closings : Closings) (txn : Txn) (listed : List (List ℕ)) (op : Op) → ListsIfClosed closings s txn op listed → ListsAll s txn op (order closings s.nodes d txn.session listed)
order_lists s d closings txn listed (ops.Create path content acl ephemeral count) lists = tt
order_lists s d closings txn listed (ops.CreateOld path content acl ephemeral) lists = tt
order_lists s d closings txn listed (ops.Delete path) lists = tt
order_lists s d closings txn listed (ops.SetData path content version) lists = tt
order_lists s d closings txn listed (ops.SetAcl path acl version) lists = tt
order_lists s d closings txn listed (ops.OpenSession timeout) lists = tt
order_lists s d closings txn listed ops.CloseSession lists = ordered_lists s d txn.session closings listed lists
order_lists s d closings txn listed (ops.Multi parts) lists = tt
order_lists s d closings txn listed (ops.Error code) lists = tt

pub record_leads : (closings : Closings) (s : State) (d : DraftMap) (r : NewerRecord) (rs : List NewerRecord) → IsSound s.nodes → IsInWindow closings s r rs → Leads s.nodes (changes_of closings s d r) (step s r.txn).0.nodes
record_leads closings s d r rs sound is =
    op_leads s r.txn (order closings s.nodes d r.txn.session (listed_of r)) r.txn.op sound is.logged.served is.logged.counted (order_lists s d closings r.txn (listed_of r) r.txn.op is.lists)

pub sound_next : (closings : Closings) (s : State) (r : NewerRecord) (rs : List NewerRecord) → IsSound s.nodes → IsInWindow closings s r rs → IsSound (step s r.txn).0.nodes
sound_next closings s r rs sound is = let leads = record_leads closings s empty r rs sound is in subst IsSound (sym leads.is) (sound_after_all s.nodes (changes_of closings s empty r) leads.taken sound)

-- ---- zxids of changes

from_append : (zxid : ℤ) (xs ys : List Change) → AllFrom zxid xs → AllFrom zxid ys → AllFrom zxid (xs ++ ys)
from_append zxid [] ys first rest = rest
from_append zxid (x ∷ xs) ys first rest = (first.0, from_append zxid xs ys first.1 rest)

from_of : (zxid own : ℤ) (cs : List Change) → AllOf own cs → int_lt own zxid ≡ false → AllFrom zxid cs
from_of zxid own [] all not_below = tt
from_of zxid own (c ∷ cs) all not_below = (ap (λ x. int_lt x zxid) all.0 ∙ not_below, from_of zxid own cs all.1 not_below)

changes_have_zxid : (closings : Closings) (s : State) (d : DraftMap) (r : NewerRecord) → AllOf r.txn.zxid (changes_of closings s d r)
changes_have_zxid closings s d r = op_of r.txn (order closings s.nodes d r.txn.session (listed_of r)) r.txn.op

from_all : (closings : Closings) (s : State) (d : DraftMap) (zxid : ℤ) (rs : List NewerRecord) → AllAbove zxid (map txn_of rs) → AllFrom zxid (all_changes closings s d rs)
from_all closings s d zxid [] above = tt
from_all closings s d zxid (r ∷ rs) above =
    from_append zxid (changes_of closings s d r) (all_changes closings (step s r.txn).0 (nodes_replayed d r) rs)
    (from_of zxid r.txn.zxid (changes_of closings s d r) (changes_have_zxid closings s d r) (lt_not_above zxid r.txn.zxid above.0))
    (from_all closings (step s r.txn).0 (nodes_replayed d r) zxid rs above.1)

rising_append : (zxid : ℤ) (xs ys : List Change) → AllOf zxid xs → AllFrom zxid ys → timelines.AreRising ys → timelines.AreRising (xs ++ ys)
rising_append zxid [] ys all from rising = rising
rising_append zxid (x ∷ xs) ys all from rising =
    (subst (λ z. AllFrom z (xs ++ ys)) (sym all.0) (from_append zxid xs ys (from_of zxid zxid xs all.1 (not_below_itself zxid)) from), rising_append zxid xs ys all.1 from rising)

rising_all : (closings : Closings) (s : State) (d : DraftMap) (last : ℤ) (rs : List NewerRecord) → AreRising last (map txn_of rs) → timelines.AreRising (all_changes closings s d rs)
rising_all closings s d last [] rising = tt
rising_all closings s d last (r ∷ rs) rising =
    let next = (step s r.txn).0 in
    let replayed_next = nodes_replayed d r in
    rising_append r.txn.zxid (changes_of closings s d r) (all_changes closings next replayed_next rs) (changes_have_zxid closings s d r)
    (from_all closings next replayed_next r.txn.zxid rs (all_above r.txn.zxid (map txn_of rs) rising.1))
    (rising_all closings next replayed_next r.txn.zxid rs rising.1)

-- ---- bounds

abbrev pub AllBounded : List NewerRecord → NodeMap → Type 0
AllBounded [] m = Unit {0}
AllBounded (r ∷ rs) m = IsBoundedBy r.txn.zxid m × AllBounded rs m

bounded_append : (m : NodeMap) (zxid : ℤ) (xs ys : List Change) → AllOf zxid xs → IsBoundedBy zxid m → AreBounded ys m → AreBounded (xs ++ ys) m
bounded_append m zxid [] ys all bounded rest = rest
bounded_append m zxid (x ∷ xs) ys all bounded rest = (subst (λ z. IsBoundedBy z m) (sym all.0) bounded, bounded_append m zxid xs ys all.1 bounded rest)

bounded_all : (closings : Closings) (s : State) (d : DraftMap) (m : NodeMap) (rs : List NewerRecord) → AllBounded rs m → AreBounded (all_changes closings s d rs) m
bounded_all closings s d m [] bounded = tt
bounded_all closings s d m (r ∷ rs) bounded =
    bounded_append m r.txn.zxid (changes_of closings s d r) (all_changes closings (step s r.txn).0 (nodes_replayed d r) rs) (changes_have_zxid closings s d r) bounded.0
    (bounded_all closings (step s r.txn).0 (nodes_replayed d r) m rs bounded.1)

-- ---- the window as a history of changes

pub all_taken : (closings : Closings) (s : State) (d : DraftMap) (rs : List NewerRecord) → IsSound s.nodes → AreInWindow closings s rs → AreTaken s.nodes (all_changes closings s d rs)
all_taken closings s d [] sound window = tt
all_taken closings s d (r ∷ rs) sound window =
    let leads = record_leads closings s d r rs sound window.0 in
    let rest = all_changes closings (step s r.txn).0 (nodes_replayed d r) rs in
    taken_append s.nodes (changes_of closings s d r) rest leads.taken (subst (λ m. AreTaken m rest) leads.is (all_taken closings (step s r.txn).0 (nodes_replayed d r) rs (sound_next closings s r rs sound window.0) window.1))

pub window_history : (closings : Closings) (s : State) (d : DraftMap) (rs : List NewerRecord) (last : ℤ) → IsSound s.nodes → AreInWindow closings s rs → AreRising last (map txn_of rs) → AllBounded rs s.nodes → IsHistory s.nodes (all_changes closings s d rs)
window_history closings s d rs last sound window rising bounded = record {
  taken = all_taken closings s d rs sound window;
  rising = rising_all closings s d last rs rising;
  bounded = bounded_all closings s d s.nodes rs bounded;
  closed = sound.closed;
}

-- ---- moments

occurs_skip : (m : NodeMap) (xs ys : List Change) (P : NodeMap → Type 0) → Occurs (applied_all m xs) ys P → Occurs m (xs ++ ys) P
occurs_skip m [] ys P p = p
occurs_skip m (x ∷ xs) ys P p = inr (occurs_skip (applied m x) xs ys P p)

no_more : (n : ℕ) (txns : List Txn) → txns ≡ [] → take n txns ≡ []
no_more n txns e = ap (take n) e ∙ take_none n
  where
    take_none : (k : ℕ) → take k (map txn_of []) ≡ []
    take_none zero = refl
    take_none (suc k) = refl

pub occurs_at : (closings : Closings) (s : State) (d : DraftMap) (rs : List NewerRecord) → IsSound s.nodes → AreInWindow closings s rs → (P : NodeMap → Type 0) (n : ℕ) → P (state_after s (take n (map txn_of rs))).nodes → Occurs s.nodes (all_changes closings s d rs) P
occurs_at closings s d [] sound window P n p = subst (λ l. P (state_after s l).nodes) (no_more n (map txn_of []) refl) p
occurs_at closings s d (r ∷ rs) sound window P zero p = occurs_now s.nodes (all_changes closings s d (r ∷ rs)) P p
occurs_at closings s d (r ∷ rs) sound window P (suc n) p =
    let rest = all_changes closings (step s r.txn).0 (nodes_replayed d r) rs in
    occurs_skip s.nodes (changes_of closings s d r) rest P (subst (λ m. Occurs m rest P) (record_leads closings s d r rs sound window.0).is (occurs_at closings (step s r.txn).0 (nodes_replayed d r) rs (sound_next closings s r rs sound window.0) window.1 P n p))

-- ---- part of a history

pub history_rest : (m : NodeMap) (xs ys : List Change) → IsHistory m (xs ++ ys) → IsHistory (applied_all m xs) ys
history_rest m [] ys h = h
history_rest m (x ∷ xs) ys h = history_rest (applied m x) xs ys (history_after m x (xs ++ ys) h)

pub seen_rest : (closings : Closings) (m : NodeMap) (xs ys : List Change) → IsHistory m (xs ++ ys) → (d : DraftMap) → IsDraftTree d → AllSeen closings m (xs ++ ys) d → AllSeen closings (applied_all m xs) ys (replayed_all d xs) × IsDraftTree (replayed_all d xs)
seen_rest closings m [] ys h d tree seen = (seen, tree)
seen_rest closings m (x ∷ xs) ys h d tree seen =
    let first = step_seen closings m x (xs ++ ys) h d tree seen in
    seen_rest closings (applied m x) xs ys (history_after m x (xs ++ ys) h) (replayed d x) first.1 first.0

-- ---- a session that ended owns nothing in the draft

owned_none : (d : DraftMap) (session : ℤ) → ((q : List ℕ) (x : DraftNode) → get d q ≡ Some x → int_eq x.node.owner session ≡ false) → (es : List (List ℕ × DraftNode)) → AllGot (get d) es → owned_in session es ≡ []
owned_none d session none [] got = refl
owned_none d session none (e ∷ es) got = cond-false (int_eq e.1.node.owner session) _ _ (none e.0 e.1 got.0) ∙ owned_none d session none es got.1

nothing_owned : (d : DraftMap) (session : ℤ) → (int_eq session (pos 0) ≡ false → (q : List ℕ) (x : DraftNode) → get d q ≡ Some x → int_eq x.node.owner session ≡ false) → drafts.owned_by d session ≡ []
nothing_owned d session none =
    ⊎_elim
    (λ zero. cond-true (int_eq session (pos 0)) [] _ zero)
    (λ some. cond-false (int_eq session (pos 0)) [] _ some ∙ owned_none d session (none some) (entries d) (all_got d))
    (cases_Bool (int_eq session (pos 0)))

-- ---- later creates are not for a session that ended

never_append : (session : ℤ) (xs ys : List Change) → AllNeverOwn session xs → AllNeverOwn session ys → AllNeverOwn session (xs ++ ys)
never_append session [] ys first rest = rest
never_append session (x ∷ xs) ys first rest = (first.0, never_append session xs ys first.1 rest)

never_deletes : (session : ℤ) (o : Option (List ℕ)) (zxid : ℤ) (path : List ℕ) → AllNeverOwn session (deletes o zxid path)
never_deletes session None zxid path = tt
never_deletes session (Some above) zxid path = (tt, tt)

never_deletes_all : (session zxid : ℤ) (paths : List (List ℕ)) → AllNeverOwn session (deletes_all zxid paths)
never_deletes_all session zxid [] = tt
never_deletes_all session zxid (p ∷ ps) = never_append session (deletes (parent_of p) zxid p) (deletes_all zxid ps) (never_deletes session (parent_of p) zxid p) (never_deletes_all session zxid ps)

module _ (session : ℤ) (some : int_eq session (pos 0) ≡ false) (txn : Txn) where
  other_owner : (ephemeral : Bool) → int_eq txn.session session ≡ false → int_eq (cond ephemeral txn.session (pos 0)) session ≡ false
  other_owner true other = other
  other_owner false other = false_from_ne_true _ (λ e. both_ways _ some ((Decides-int_eq session (pos 0)).1 (sym ((Decides-int_eq (pos 0) session).0 e))))

  never_makes : (o : Option (List ℕ)) (path : List ℕ) (content : Option (List ℕ)) (acl : List Acl) (ephemeral : Bool) (count : ℤ) → int_eq txn.session session ≡ false → AllNeverOwn session (makes o txn.zxid path (created txn content acl ephemeral) count)
  never_makes None path content acl ephemeral count other = tt
  never_makes (Some above) path content acl ephemeral count other = (other_owner ephemeral other, tt)

  never_part : (part : Sub) → (is_create part ≡ true → int_eq txn.session session ≡ false) → AllNeverOwn session (part_changes txn part)
  never_part (subs.Create path content acl ephemeral count) other = never_makes (parent_of path) path content acl ephemeral count (other refl)
  never_part (subs.Delete path) other = never_deletes session (parent_of path) txn.zxid path
  never_part (subs.SetData path content version) other = (tt, tt)
  never_part (subs.Check path version) other = tt
  never_part (subs.Error code) other = tt

  never_parts : (parts : List Sub) → (list_any is_create parts ≡ true → int_eq txn.session session ≡ false) → AllNeverOwn session (parts_changes txn parts)
  never_parts [] other = tt
  never_parts (part ∷ parts) other = never_append session (part_changes txn part) (parts_changes txn parts) (never_part part (λ e. other (or_left _ _ e))) (never_parts parts (λ e. other (or_right _ _ e)))

  never_if : (b : Bool) (cs : List Change) → AllNeverOwn session cs → AllNeverOwn session (cond b [] cs)
  never_if true cs all = tt
  never_if false cs all = all

  never_op : (listed : List (List ℕ)) (op : Op) → (creates op ≡ true → int_eq txn.session session ≡ false) → AllNeverOwn session (op_changes txn listed op)
  never_op listed (ops.Create path content acl ephemeral count) other = never_makes (parent_of path) path content acl ephemeral count (other refl)
  never_op listed (ops.CreateOld path content acl ephemeral) other = tt
  never_op listed (ops.Delete path) other = never_deletes session (parent_of path) txn.zxid path
  never_op listed (ops.SetData path content version) other = (tt, tt)
  never_op listed (ops.SetAcl path acl version) other = (tt, tt)
  never_op listed (ops.OpenSession timeout) other = tt
  never_op listed ops.CloseSession other = never_deletes_all session txn.zxid listed
  never_op listed (ops.Multi parts) other = never_if (list_any is_error parts) (parts_changes txn parts) (never_parts parts other)
  never_op listed (ops.Error code) other = tt

never_all : (closings : Closings) (session : ℤ) → int_eq session (pos 0) ≡ false → (s : State) (d : DraftMap) (rs : List NewerRecord) → AllByRecursion (CreatesNone session) rs → AllNeverOwn session (all_changes closings s d rs)
never_all closings session some s d [] all = tt
never_all closings session some s d (r ∷ rs) all =
    never_append session (changes_of closings s d r) (all_changes closings (step s r.txn).0 (nodes_replayed d r) rs)
    (never_op session some r.txn (order closings s.nodes d r.txn.session (listed_of r)) r.txn.op all.0)
    (never_all closings session some (step s r.txn).0 (nodes_replayed d r) rs all.1)

-- ---- one record on the draft

abbrev NoRest : DraftMap → Txn → List (List ℕ) → Op → Type 0
NoRest d txn listed ops.CloseSession = drafts.owned_by (replayed_all d (deletes_all txn.zxid listed)) txn.session ≡ []
NoRest d txn listed _ = Unit {0}

no_deletes : (d : DraftMap) (zxid : ℤ) → rules.delete_all d zxid [] ≡ d
unfolding rules.delete_all
no_deletes d zxid = refl

makes_alike : (d : DraftMap) (o : Option (List ℕ)) (zxid : ℤ) (path : List ℕ) (node : Node) (count : ℤ) → rules.create_below d zxid path node count o ≡ replayed_all d (makes o zxid path node count)
makes_alike d None zxid path node count = refl
makes_alike d (Some above) zxid path node count = refl

deletes_alike : (d : DraftMap) (o : Option (List ℕ)) (zxid : ℤ) (path : List ℕ) → rules.delete_below d zxid path o ≡ replayed_all d (deletes o zxid path)
deletes_alike d None zxid path = refl
deletes_alike d (Some above) zxid path = refl

parts_alike : (d : DraftMap) (txn : Txn) (parts : List Sub) (b : Bool) → cond b d (rules.apply_parts txn d parts) ≡ replayed_all d (cond b [] (parts_changes txn parts))
parts_alike d txn parts true = refl
parts_alike d txn parts false = parts_replayed d txn parts

op_replayed : (d : DraftMap) (txn : Txn) (listed : List (List ℕ)) (op : Op) → IsCounted op → NoRest d txn listed op → rules.nodes_by d txn listed op ≡ replayed_all d (op_changes txn listed op)
op_replayed d txn listed (ops.Create path content acl ephemeral count) counted rest = makes_alike d (parent_of path) txn.zxid path (created txn content acl ephemeral) count
op_replayed d txn listed (ops.CreateOld path content acl ephemeral) counted rest = absurd counted
op_replayed d txn listed (ops.Delete path) counted rest = deletes_alike d (parent_of path) txn.zxid path
op_replayed d txn listed (ops.SetData path content version) counted rest = refl
op_replayed d txn listed (ops.SetAcl path acl version) counted rest = refl
op_replayed d txn listed (ops.OpenSession timeout) counted rest = refl
op_replayed d txn listed ops.CloseSession counted rest =
    ap (λ k. rules.delete_all k txn.zxid (drafts.owned_by k txn.session)) (all_deleted d txn.zxid listed)
    ∙ ap (rules.delete_all (replayed_all d (deletes_all txn.zxid listed)) txn.zxid) rest
    ∙ no_deletes (replayed_all d (deletes_all txn.zxid listed)) txn.zxid
op_replayed d txn listed (ops.Multi parts) counted rest = parts_alike d txn parts (list_any is_error parts)
op_replayed d txn listed (ops.Error code) counted rest = refl

-- ---- all records

abbrev pub all_replayed : DraftMap → List NewerRecord → DraftMap
all_replayed d [] = d
all_replayed d (r ∷ rs) = all_replayed (nodes_replayed d r) rs

-- a record that ends no session changes the same with any list
abbrev ends_session : Op → Bool
ends_session ops.CloseSession = true
ends_session _ = false

lists_no_matter : (txn : Txn) (one other : List (List ℕ)) (op : Op) → ends_session op ≡ false → op_changes txn one op ≡ op_changes txn other op
lists_no_matter txn one other (ops.Create path content acl ephemeral count) e = refl
lists_no_matter txn one other (ops.CreateOld path content acl ephemeral) e = refl
lists_no_matter txn one other (ops.Delete path) e = refl
lists_no_matter txn one other (ops.SetData path content version) e = refl
lists_no_matter txn one other (ops.SetAcl path acl version) e = refl
lists_no_matter txn one other (ops.OpenSession timeout) e = refl
lists_no_matter txn one other ops.CloseSession e = absurd (cc)
lists_no_matter txn one other (ops.Multi parts) e = refl
lists_no_matter txn one other (ops.Error code) e = refl

session_ended : (op : Op) → ends_session op ≡ true → op ≡ ops.CloseSession
session_ended (ops.Create path content acl ephemeral count) e = absurd (cc)
session_ended (ops.CreateOld path content acl ephemeral) e = absurd (cc)
session_ended (ops.Delete path) e = absurd (cc)
session_ended (ops.SetData path content version) e = absurd (cc)
session_ended (ops.SetAcl path acl version) e = absurd (cc)
session_ended (ops.OpenSession timeout) e = absurd (cc)
session_ended ops.CloseSession e = refl
session_ended (ops.Multi parts) e = absurd (cc)
session_ended (ops.Error code) e = absurd (cc)

module _ (closings : Closings) (s : State) (r : NewerRecord) (rs : List NewerRecord) (sound : IsSound s.nodes) (is : IsInWindow closings s r rs) (d : DraftMap) (tree : IsDraftTree d) where
  abbrev changes : List Change
  changes = changes_of closings s d r

  abbrev rest : List Change
  rest = all_changes closings (step s r.txn).0 (nodes_replayed d r) rs

  abbrev session : ℤ
  session = r.txn.session

  leads : Leads s.nodes changes (step s r.txn).0.nodes
  leads = record_leads closings s d r rs sound is

  module _ (h : IsHistory s.nodes (changes ++ rest)) (seen : AllSeen closings s.nodes (changes ++ rest) d) where
    rest_history : IsHistory (applied_all s.nodes changes) rest
    rest_history = history_rest s.nodes changes rest h

    abbrev IsFollowed : Type 0
    IsFollowed = AllSeen closings (applied_all s.nodes changes) rest (nodes_replayed d r) × IsDraftTree (nodes_replayed d r)

    never_later : r.txn.op ≡ ops.CloseSession → int_eq session (pos 0) ≡ false → AllNeverOwn session rest
    never_later e some = never_all closings session some (step s r.txn).0 (nodes_replayed d r) rs (subst (λ o. EndsIfClosed r.txn o rs) e is.ends)

    nodes_closed : r.txn.op ≡ ops.CloseSession → applied_all s.nodes changes ≡ without_all r.txn s.nodes (owned_by s.nodes session)
    nodes_closed e = sym leads.is ∙ ap (λ o. (step_by s r.txn o).0.nodes) e

    -- ---- as the record lists them

    module _ (same : changes ≡ op_changes r.txn (listed_of r) r.txn.op) where
      after : AllSeen closings (applied_all s.nodes changes) rest (replayed_all d changes) × IsDraftTree (replayed_all d changes)
      after = seen_rest closings s.nodes changes rest h d tree seen

      owned_later : r.txn.op ≡ ops.CloseSession → int_eq session (pos 0) ≡ false → (q : List ℕ) (x : DraftNode) → get (replayed_all d changes) q ≡ Some x → int_eq x.node.owner session ≡ false
      owned_later e some q x there =
          false_from_ne_true _ (λ owned.
          let at = draft_owned closings session (applied_all s.nodes changes) rest rest_history.taken rest_history.closed (never_later e some) (replayed_all d changes) after.0 q x there owned in
          both_ways _ (owns_nothing s.nodes session some r.txn q at.0 (ap (λ m. get m q) (sym (nodes_closed e)) ∙ at.1.0)) at.1.1)

      no_rest : (op : Op) → r.txn.op ≡ op → NoRest d r.txn (listed_of r) op
      no_rest (ops.Create path content acl ephemeral count) e = tt
      no_rest (ops.CreateOld path content acl ephemeral) e = tt
      no_rest (ops.Delete path) e = tt
      no_rest (ops.SetData path content version) e = tt
      no_rest (ops.SetAcl path acl version) e = tt
      no_rest (ops.OpenSession timeout) e = tt
      no_rest ops.CloseSession e =
          let is_deletes : changes ≡ deletes_all r.txn.zxid (listed_of r) = same ∙ ap (op_changes r.txn (listed_of r)) e in
          subst (λ cs. drafts.owned_by (replayed_all d cs) session ≡ []) is_deletes (nothing_owned (replayed_all d changes) session (owned_later e))
      no_rest (ops.Multi parts) e = tt
      no_rest (ops.Error code) e = tt

      record_replayed : nodes_replayed d r ≡ replayed_all d changes
      record_replayed = op_replayed d r.txn (listed_of r) r.txn.op is.logged.counted (no_rest r.txn.op refl) ∙ ap (replayed_all d) (sym same)

      as_listed : IsFollowed
      as_listed = (subst (AllSeen closings (applied_all s.nodes changes) rest) (sym record_replayed) after.0, subst IsDraftTree (sym record_replayed) after.1)

    -- ---- without a list

    module _ (unlisted : closings ≡ Unlisted) (ends : r.txn.op ≡ ops.CloseSession) (none : listed_of r ≡ []) where
      abbrev owned : List (List ℕ)
      owned = owned_by s.nodes session

      abbrev own_in_draft : List (List ℕ)
      own_in_draft = drafts.owned_by d session

      are_deletes : changes ≡ deletes_all r.txn.zxid (first_those own_in_draft owned)
      are_deletes = ap (λ l. op_changes r.txn (order closings s.nodes d session l) r.txn.op) none ∙ ap (λ c. op_changes r.txn (order c s.nodes d session []) r.txn.op) unlisted ∙ ap (op_changes r.txn (first_those own_in_draft owned)) ends

      is_replayed : nodes_replayed d r ≡ replayed_all d (deletes_all r.txn.zxid own_in_draft)
      is_replayed =
          ap (rules.nodes_by d r.txn (listed_of r)) ends
          ∙ ap (rules.close d r.txn) none
          ∙ ap (λ k. rules.delete_all k r.txn.zxid (drafts.owned_by k session)) (no_deletes d r.txn.zxid)
          ∙ all_deleted d r.txn.zxid own_in_draft

      -- session 0 owns nothing
      no_session : int_eq session (pos 0) ≡ true → IsFollowed
      no_session none_owns =
          let in_draft : own_in_draft ≡ [] = cond-true (int_eq session (pos 0)) [] _ none_owns in
          let on_server : owned ≡ [] = none_owned s.nodes session none_owns in
          let same : nodes_replayed d r ≡ d = is_replayed ∙ ap (λ l. replayed_all d (deletes_all r.txn.zxid l)) in_draft in
          let nothing : changes ≡ [] = are_deletes ∙ ap (λ l. deletes_all r.txn.zxid (first_those l owned)) in_draft ∙ ap (λ l. deletes_all r.txn.zxid (first_those [] l)) on_server in
          (subst (λ k. AllSeen closings (applied_all s.nodes changes) rest k) (sym same) (subst (λ cs. AllSeen closings (applied_all s.nodes cs) rest d) (sym nothing) (subst (λ cs. AllSeen closings s.nodes (cs ++ rest) d) nothing seen)), subst IsDraftTree (sym same) tree)

      module _ (some : int_eq session (pos 0) ≡ false) where
        never : AllNeverOwn session (changes ++ rest)
        never = never_append session changes rest (subst (AllNeverOwn session) (sym are_deletes) (never_deletes_all session r.txn.zxid (first_those own_in_draft owned))) (never_later ends some)

        in_both : (q : List ℕ) → closing.is_in q own_in_draft ≡ true → closing.is_in q owned ≡ true
        in_both q has =
            let x = owned_in_draft d tree session some q has in
            let at = draft_owned closings session s.nodes (changes ++ rest) h.taken h.closed never d seen q x.0 x.1.0 x.1.1 in
            owned_listed s.nodes session some q at.0 at.1.0 at.1.1

        is_order : first_those own_in_draft owned ≡ own_in_draft ++ others own_in_draft owned
        is_order = cond-true _ _ _ (both_true (owned_once d tree session) (all_within own_in_draft owned in_both))

        abbrev gone_there : List Change
        gone_there = deletes_all r.txn.zxid (others own_in_draft owned)

        abbrev gone_in_both : List Change
        gone_in_both = deletes_all r.txn.zxid own_in_draft

        both_parts : changes ≡ gone_in_both ++ gone_there
        both_parts = are_deletes ∙ ap (deletes_all r.txn.zxid) is_order ∙ deletes_append r.txn.zxid own_in_draft (others own_in_draft owned)

        split_list : (cs : List Change) → changes ++ cs ≡ gone_in_both ++ (gone_there ++ cs)
        split_list cs = ap (λ l. l ++ cs) both_parts ∙ append_assoc gone_in_both gone_there cs

        all_lists_ready : AllReady s.nodes (own_in_draft ++ others own_in_draft owned)
        all_lists_ready = subst (AllReady s.nodes) is_order (all_ready s.nodes session some sound (first_those own_in_draft owned) (λ q has. sym (in_first_those q own_in_draft owned) ∙ has))

        lists_distinct : closing.AreDistinct (own_in_draft ++ others own_in_draft owned)
        lists_distinct = subst closing.AreDistinct is_order (distinct_first_those own_in_draft owned (owned_distinct s.nodes session))

        history : IsHistory s.nodes (gone_in_both ++ (gone_there ++ rest))
        history = subst (IsHistory s.nodes) (split_list rest) h

        first : AllSeen closings (applied_all s.nodes gone_in_both) (gone_there ++ rest) (replayed_all d gone_in_both) × IsDraftTree (replayed_all d gone_in_both)
        first = seen_rest closings s.nodes gone_in_both (gone_there ++ rest) history d tree (subst (λ cs. AllSeen closings s.nodes cs d) (split_list rest) seen)

        -- no node of the session is left in the draft
        none_left : (q : List ℕ) (x : DraftNode) → get (replayed_all d gone_in_both) q ≡ Some x → int_eq x.node.owner session ≡ false
        none_left q x there = false_from_ne_true _ (λ own.
            let left = owner_left s.nodes r.txn.zxid own_in_draft (ready_first s.nodes own_in_draft (others own_in_draft owned) all_lists_ready) d tree q x there in
            both_ways _ left.0 (listed_in_draft d tree session some q left.1.node left.1.there (ap (λ o. int_eq o session) (sym left.1.same) ∙ own)))

        still_owned : (q : List ℕ) → closing.is_in q (others own_in_draft owned) ≡ true → OwnedAt session (applied_all s.nodes gone_in_both) q
        still_owned q has =
            let node = owned_node s.nodes session some q (others_within q own_in_draft owned has) in
            owned_after session s.nodes r.txn.zxid own_in_draft sound.closed lists_distinct_first (ready_first s.nodes own_in_draft (others own_in_draft owned) all_lists_ready) q (others_apart q own_in_draft owned has) (node.0, (node.1.0, node.1.1))
          where
            lists_distinct_first : closing.AreDistinct own_in_draft
            lists_distinct_first = distinct_first own_in_draft (others own_in_draft owned) lists_distinct

        skipped : AllSeen closings (applied_all (applied_all s.nodes gone_in_both) gone_there) rest (replayed_all d gone_in_both)
        skipped =
            skip_all closings unlisted session (applied_all s.nodes gone_in_both) r.txn.zxid (others own_in_draft owned) rest
            (ready_rest s.nodes r.txn.zxid own_in_draft (others own_in_draft owned) sound.closed lists_distinct all_lists_ready)
            (distinct_rest own_in_draft (others own_in_draft owned) lists_distinct)
            (history_rest s.nodes gone_in_both (gone_there ++ rest) history) (replayed_all d gone_in_both) none_left still_owned first.0

        as_unlisted : IsFollowed
        as_unlisted = (
          subst (AllSeen closings (applied_all s.nodes changes) rest) (sym is_replayed)
              (subst (λ m. AllSeen closings m rest (replayed_all d gone_in_both)) (sym (ap (applied_all s.nodes) both_parts ∙ applied_append s.nodes gone_in_both gone_there)) skipped),
          subst IsDraftTree (sym is_replayed) first.1,
        )

    -- ---- either

    by_end : closings ≡ Unlisted → listed_of r ≡ [] → IsFollowed
    by_end unlisted none =
        ⊎_elim
        (λ ends.
        let closes = session_ended r.txn.op ends in
        ⊎_elim (λ none_owns. no_session unlisted closes none none_owns) (λ some. as_unlisted unlisted closes none some) (cases_Bool (int_eq session (pos 0))))
        (λ other. as_listed (lists_no_matter r.txn (order closings s.nodes d session (listed_of r)) (listed_of r) r.txn.op other))
        (cases_Bool (ends_session r.txn.op))

    by_list : (c : Closings) → closings ≡ c → (listed : List (List ℕ)) → listed_of r ≡ listed → IsFollowed
    by_list Listed e listed is_list = as_listed (ap (λ c. op_changes r.txn (order c s.nodes d session (listed_of r)) r.txn.op) e)
    by_list Unlisted e [] is_list = by_end e is_list
    by_list Unlisted e (p ∷ ps) is_list =
        as_listed (ap (λ c. op_changes r.txn (order c s.nodes d session (listed_of r)) r.txn.op) e ∙ ap (λ l. op_changes r.txn (order Unlisted s.nodes d session l) r.txn.op) is_list ∙ ap (λ l. op_changes r.txn l r.txn.op) (sym is_list))

    pub record_seen : AllSeen closings (step s r.txn).0.nodes rest (nodes_replayed d r) × (IsDraftTree (nodes_replayed d r) × IsHistory (step s r.txn).0.nodes rest)
    record_seen =
        let followed = by_list closings refl (listed_of r) refl in (
          subst (λ m. AllSeen closings m rest (nodes_replayed d r)) (sym leads.is) followed.0,
          (followed.1, subst (λ m. IsHistory m rest) (sym leads.is) rest_history),
        )

pub window_seen : (closings : Closings) (s : State) (rs : List NewerRecord) → IsSound s.nodes → AreInWindow closings s rs → (d : DraftMap) → IsHistory s.nodes (all_changes closings s d rs) → IsDraftTree d → AllSeen closings s.nodes (all_changes closings s d rs) d → AllSeen closings (state_after s (map txn_of rs)).nodes [] (all_replayed d rs) × IsDraftTree (all_replayed d rs)
window_seen closings s [] sound window d h tree seen = (seen, tree)
window_seen closings s (r ∷ rs) sound window d h tree seen =
    let first = record_seen closings s r rs sound window.0 d tree h seen in
    window_seen closings (step s r.txn).0 rs (sound_next closings s r rs sound window.0) window.1 (nodes_replayed d r) first.1.1 first.1.0 first.0
