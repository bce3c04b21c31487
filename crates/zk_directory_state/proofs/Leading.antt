-- Stages, record by record, and the state that they lead to.
use Rattle.std.proofs.Common.{◌≡◌, ℤ, Bool, true, false, List, [], ◌∷◌, ◌++◌, map, refl, sym, ap, ◌∙◌, subst}
use Rattle.std.specs.Prelude.{int_le}
use Rattle.zk_table.specs.Histories.{state_after}
use Rattle.zk_table.specs.States.{State}
use Rattle.zk_table.specs.Steps.{step}
use Rattle.zk_replay.specs.Bases.{IsSettled}
use Rattle.zk_replay.specs.declared.draft.Draft.{Draft}
use Rattle.zk_fold.specs.Folds.{FoldView}
use Rattle.zk_newer_records.specs.declared.newer_record.NewerRecord.{NewerRecord}
use Rattle.zk_replay.specs.Restoring.{IsReplayed, IsRestored, IsTableIn, LeavesWindow, StaysInWindow, Takes, TakesInWindow}
use Rattle.zk_replay.specs.Rules.{nodes_replayed}
use Rattle.zk_replay.specs.declared.stage.Stage.{Stage}
use Rattle.zk_replay.specs.declared.stage.Stage.TheVariants as stages
use Rattle.zk_directory_state.specs.Restorations.{Replays}
use Rattle.zk_directory_state.specs.States.{IsStateAfter, IsStateFrom, after_window, in_window, last_of, replayed, replayed_one, txn_of}

-- ---- records in order

pub no_records : (stage : Stage) (exact : ℤ) → Replays stage exact [] stage
no_records stage exact = refl

pub one_more : (old middle new : Stage) (exact : ℤ) (records : List NewerRecord) (newer : NewerRecord) → Replays old exact records middle → Takes middle exact newer new → Replays old exact (records ++ newer ∷ []) new
one_more old middle new exact [] newer r t = (new, subst (λ (s : Stage). Takes s exact newer new) r t, refl)
one_more old middle new exact (first ∷ records) newer r t = (r.0, r.1, one_more r.0 middle new exact records newer r.2 t)

pub joined : (old middle new : Stage) (exact : ℤ) (records more : List NewerRecord) → Replays old exact records middle → Replays middle exact more new → Replays old exact (records ++ more) new
joined old middle new exact [] more r s = subst (λ (m : Stage). Replays m exact more new) r s
joined old middle new exact (first ∷ records) more r s = (r.0, r.1, joined r.0 middle new exact records more r.2 s)

-- ---- the table

-- the records after one that was applied
table_on : (middle : Stage) (first : State) (exact : ℤ) (records : List NewerRecord) (end : Stage) (state : State) → IsTableIn first middle → Replays middle exact records end
    → ((next : FoldView) → Replays (stages.Table next) exact records end → state ≡ state_after next.state (map txn_of records)) → state ≡ state_after first (map txn_of records)
table_on (stages.Window draft last) first exact records end state t rest leads = absurd t
table_on (stages.Table next) first exact records end state t rest leads = leads next rest ∙ ap (λ z. state_after z (map txn_of records)) t.0

pub leads_table : (table : FoldView) (exact : ℤ) (records : List NewerRecord) (end : Stage) (state : State) → Replays (stages.Table table) exact records end → IsRestored end state → state ≡ state_after table.state (map txn_of records)
leads_table table exact [] end state r s = subst (λ (e : Stage). IsRestored e state) r s
leads_table table exact (newer ∷ records) end state r s =
    table_on r.0 (step table.state newer.txn).0 exact records end state r.1 r.2 (λ next rest. leads_table next exact records end state rest s)

-- ---- the window

pub in_yes : (exact : ℤ) (newer : NewerRecord) (records : List NewerRecord) → int_le newer.txn.zxid exact ≡ true → in_window exact (newer ∷ records) ≡ newer ∷ in_window exact records
unfolding in_window
in_yes exact newer records e = rw e refl

pub in_no : (exact : ℤ) (newer : NewerRecord) (records : List NewerRecord) → int_le newer.txn.zxid exact ≡ false → in_window exact (newer ∷ records) ≡ []
unfolding in_window
in_no exact newer records e = rw e refl

pub after_yes : (exact : ℤ) (newer : NewerRecord) (records : List NewerRecord) → int_le newer.txn.zxid exact ≡ true → after_window exact (newer ∷ records) ≡ after_window exact records
unfolding after_window
after_yes exact newer records e = rw e refl

pub after_no : (exact : ℤ) (newer : NewerRecord) (records : List NewerRecord) → int_le newer.txn.zxid exact ≡ false → after_window exact (newer ∷ records) ≡ newer ∷ records
unfolding after_window
after_no exact newer records e = rw e refl

pub nothing_in : (exact : ℤ) → in_window exact [] ≡ []
unfolding in_window
nothing_in exact = refl

pub nothing_after : (exact : ℤ) → after_window exact [] ≡ []
unfolding after_window
nothing_after exact = refl

pub same_draft : (draft : Draft) → replayed draft [] ≡ draft
unfolding replayed
same_draft draft = refl

pub replays_on : (draft : Draft) (newer : NewerRecord) (records : List NewerRecord) → replayed draft (newer ∷ records) ≡ replayed (replayed_one draft newer) records
unfolding replayed
replays_on draft newer records = refl

pub same_last : (last : ℤ) → last_of last [] ≡ last
unfolding last_of
same_last last = refl

pub last_on : (last : ℤ) (newer : NewerRecord) (records : List NewerRecord) → last_of last (newer ∷ records) ≡ last_of newer.txn.zxid records
unfolding last_of
last_on last newer records = refl

pub draft_is : (old new : Draft) (newer : NewerRecord) → IsReplayed old newer new → new ≡ replayed_one old newer
draft_is old new newer r =
    ap (λ n. let d : Draft = record { nodes = n; sessions = new.sessions } in d) r.nodes
    ∙ ap (λ m. let d : Draft = record { nodes = nodes_replayed old.nodes newer; sessions = m } in d) r.sessions

-- a window of no further records
ends_here : (draft : Draft) (last exact : ℤ) (records : List NewerRecord) (base state : State) → in_window exact records ≡ [] → IsSettled draft last base → state ≡ state_after base (map txn_of (after_window exact records)) → IsStateFrom draft last exact records state
ends_here draft last exact records base state none settled applied = record {
  base = base;
  settled =
      subst (λ l. IsSettled (replayed draft l) (last_of last l) base) (sym none)
      (subst (λ d. IsSettled d (last_of last []) base) (sym (same_draft draft)) (subst (λ (z : ℤ). IsSettled draft z base) (sym (same_last last)) settled));
  applied = applied;
}

-- one record of the window
goes_through : (draft new : Draft) (last next exact : ℤ) (newer : NewerRecord) (records : List NewerRecord) (state : State) → int_le newer.txn.zxid exact ≡ true → IsReplayed draft newer new → next ≡ newer.txn.zxid
    → IsStateFrom new next exact records state → IsStateFrom draft last exact (newer ∷ records) state
goes_through draft new last next exact newer records state e r n s = record {
  base = s.base;
  settled =
      let w = in_window exact records in
      let as_draft : replayed new w ≡ replayed draft (newer ∷ w) = ap (λ d. replayed d w) (draft_is draft new newer r) ∙ sym (replays_on draft newer w) in
      let as_last : last_of next w ≡ last_of last (newer ∷ w) = ap (λ z. last_of z w) n ∙ sym (last_on last newer w) in
      let moved : IsSettled (replayed draft (newer ∷ w)) (last_of last (newer ∷ w)) s.base =
      subst (λ d. IsSettled d (last_of last (newer ∷ w)) s.base) as_draft (subst (λ z. IsSettled (replayed new w) z s.base) as_last s.settled) in
      subst (λ l. IsSettled (replayed draft l) (last_of last l) s.base) (sym (in_yes exact newer records e)) moved;
  applied = s.applied ∙ ap (λ l. state_after s.base (map txn_of l)) (sym (after_yes exact newer records e));
}

-- the records after one that was replayed
window_on : (middle : Stage) (draft : Draft) (last exact : ℤ) (newer : NewerRecord) (records : List NewerRecord) (end : Stage) (state : State) → int_le newer.txn.zxid exact ≡ true
    → StaysInWindow draft newer middle → Replays middle exact records end
    → ((new : Draft) (next : ℤ) → Replays (stages.Window new next) exact records end → IsStateFrom new next exact records state) → IsStateFrom draft last exact (newer ∷ records) state
window_on (stages.Table table) draft last exact newer records end state e t rest leads = absurd t
window_on (stages.Window new next) draft last exact newer records end state e t rest leads = goes_through draft new last next exact newer records state e t.0 t.1 (leads new next rest)

-- the first record after the window, and the ones after it
leaves_on : (middle : Stage) (draft : Draft) (last exact : ℤ) (newer : NewerRecord) (records : List NewerRecord) (end : Stage) (state : State) → int_le newer.txn.zxid exact ≡ false
    → LeavesWindow draft last newer middle → Replays middle exact records end → IsRestored end state → IsStateFrom draft last exact (newer ∷ records) state
leaves_on middle draft last exact newer records end state e t rest s =
    ends_here draft last exact (newer ∷ records) t.base state (in_no exact newer records e) t.settled
    (table_on middle (step t.base newer.txn).0 exact records end state t.applied rest (λ next more. leads_table next exact records end state more s)
    ∙ ap (λ l. state_after t.base (map txn_of l)) (sym (after_no exact newer records e)))

-- one record, in the window or after it
either_on : (b : Bool) (middle : Stage) (draft : Draft) (last exact : ℤ) (newer : NewerRecord) (records : List NewerRecord) (end : Stage) (state : State) → int_le newer.txn.zxid exact ≡ b
    → TakesInWindow b draft last newer middle → Replays middle exact records end → IsRestored end state
    → ((new : Draft) (next : ℤ) → Replays (stages.Window new next) exact records end → IsStateFrom new next exact records state) → IsStateFrom draft last exact (newer ∷ records) state
either_on true middle draft last exact newer records end state e t rest s leads = window_on middle draft last exact newer records end state e t rest leads
either_on false middle draft last exact newer records end state e t rest s leads = leaves_on middle draft last exact newer records end state e t rest s

pub leads_window : (draft : Draft) (last exact : ℤ) (records : List NewerRecord) (end : Stage) (state : State) → Replays (stages.Window draft last) exact records end → IsRestored end state → IsStateFrom draft last exact records state
leads_window draft last exact [] end state r s =
    ends_here draft last exact [] state state (nothing_in exact) (subst (λ (e : Stage). IsRestored e state) r s) (ap (λ l. state_after state (map txn_of l)) (sym (nothing_after exact)))
leads_window draft last exact (newer ∷ records) end state r s =
    either_on (int_le newer.txn.zxid exact) r.0 draft last exact newer records end state refl r.1 r.2 s (λ new next rest. leads_window new next exact records end state rest s)

-- ---- any stage

pub leads : (stage : Stage) (exact : ℤ) (records : List NewerRecord) (end : Stage) (state : State) → Replays stage exact records end → IsRestored end state → IsStateAfter stage exact records state
leads (stages.Table table) exact records end state r s = leads_table table exact records end state r s
leads (stages.Window draft last) exact records end state r s = leads_window draft last exact records end state r s
