-- Digests that were compared, record by record.
use Rattle.std.proofs.Common.{◌≡◌, ℤ, Bool, true, false, List, [], ◌∷◌, ◌++◌, None, Ok, refl, sym, ap, ◌∙◌, subst}
use Rattle.std.specs.Prelude.{int_le}
use Rattle.zk_replay.specs.Bases.{IsSettled}
use Rattle.zk_replay.specs.declared.draft.Draft.{Draft}
use Rattle.zk_replay.specs.Tallies.{Tally, all_passed, all_taken, tally_passed, tally_taken}
use Rattle.zk_replay.specs.declared.count.DigestCount.{DigestCount}
use Rattle.zk_replay.specs.declared.digests.Digests.{Digests}
use Rattle.zk_directory.specs.Chains.{after_turn, history_of}
use Rattle.zk_directory.specs.declared.chain.Turn.{Turn}
use Rattle.zk_directory.specs.declared.chain.Turn.TheVariants.{Take}
use Rattle.zk_directory.specs.declared.file.FileEntry.{FileEntry}
use Rattle.zk_fold.specs.Folds.{FoldView}
use Rattle.zk_newer_records.specs.declared.newer_record.NewerRecord.{NewerRecord}
use Rattle.zk_replay.specs.Restoring.{IsRestored, IsTableIn, LeavesWindow, StaysInWindow, Takes, TakesInWindow, take_fault}
use Rattle.zk_replay.specs.declared.stage.Stage.{Stage}
use Rattle.zk_replay.specs.declared.stage.Stage.TheVariants as stages
use Rattle.zk_table.specs.States.{State}
use Rattle.zk_table.specs.Steps.{step}
use Rattle.zk_directory_state.proofs.Leading.{after_no, after_yes, draft_is, in_no, in_yes, last_on, nothing_after, nothing_in, replays_on, same_draft, same_last}
use Rattle.zk_directory_state.specs.Counts.{Counts, IsCountFrom, IsTallied, Tallies, tally_next}
use Rattle.zk_directory_state.specs.Joins.{decision, told_of}
use Rattle.zk_directory_state.specs.Restorations.{Follows, IsAfterEntry}
use Rattle.zk_directory_state.specs.States.{after_window, in_window, last_of, replayed, replayed_one}
use Rattle.zk_directory_state.specs.declared.restoration.Restore.{Restore}

-- ---- records in order

tallies_more : (old middle new : Stage) (tally between : Tally) (exact : ℤ) (records : List NewerRecord) (newer : NewerRecord) → Tallies old tally exact records middle between → Takes middle exact newer new → Tallies old tally exact (records ++ newer ∷ []) new (tally_next between newer new)
tallies_more old middle new tally between exact [] newer r t = (new, subst (λ (s : Stage). Takes s exact newer new) r.0 t, (refl, ap (λ x. tally_next x newer new) r.1))
tallies_more old middle new tally between exact (first ∷ records) newer r t = (r.0, r.1, tallies_more r.0 middle new (tally_next tally first r.0) between exact records newer r.2 t)

tallies_joined : (old middle new : Stage) (tally between end : Tally) (exact : ℤ) (records more : List NewerRecord) → Tallies old tally exact records middle between → Tallies middle between exact more new end → Tallies old tally exact (records ++ more) new end
tallies_joined old middle new tally between end exact [] more r s = subst (λ (x : Tally). Tallies old x exact more new end) r.1 (subst (λ (m : Stage). Tallies m between exact more new end) r.0 s)
tallies_joined old middle new tally between end exact (first ∷ records) more r s = (r.0, r.1, tallies_joined r.0 middle new (tally_next tally first r.0) between end exact records more r.2 s)

pub none_counted : (start : Restore) → Follows start [] start
none_counted start = λ tally is. (tally, (refl, refl), is)

pub one_counted : (start old new : Restore) (records : List NewerRecord) (newer : NewerRecord) → Follows start records old → old.exact ≡ start.exact → Takes old.stage old.exact newer new.stage → Counts old.stage old.digests newer new.stage new.digests → Follows start (records ++ newer ∷ []) new
one_counted start old new records newer so_far exact takes counts = λ tally is.
    let f = so_far tally is in
    (tally_next f.0 newer new.stage, tallies_more start.stage old.stage new.stage tally f.0 start.exact records newer f.1 (subst (λ z. Takes old.stage z newer new.stage) exact takes), counts f.0 f.2)

pub same_counted : (start old new : Restore) (records : List NewerRecord) → Follows start records old → new.stage ≡ old.stage → new.digests ≡ old.digests → Follows start records new
same_counted start old new records so_far stage digests = λ tally is.
    let f = so_far tally is in
    (f.0, subst (λ (s : Stage). Tallies start.stage tally start.exact records s f.0) (sym stage) f.1, subst (λ (s : Stage). IsTallied s new.digests f.0) (sym stage) (subst (λ (d : Digests). IsTallied old.stage d f.0) (sym digests) f.2))

pub joined_counted : (start old new : Restore) (records more : List NewerRecord) → Follows start records old → Follows old more new → old.exact ≡ start.exact → Follows start (records ++ more) new
joined_counted start old new records more first second exact = λ tally is.
    let f = first tally is in
    let g = second f.0 f.2 in
    (g.0, tallies_joined start.stage old.stage new.stage tally f.0 g.0 start.exact records more f.1 (subst (λ z. Tallies old.stage f.0 z more new.stage g.0) exact g.1), g.2)

-- ---- one entry

pub entry_taken : (old new : Restore) (entry : FileEntry) (turn : Turn) → turn ≡ Take → decision (history_of old.chain) entry ≡ Ok turn → history_of new.chain ≡ after_turn (history_of old.chain) (told_of entry) turn → new.exact ≡ old.exact
    → Takes old.stage old.exact entry.newer new.stage → take_fault old.stage old.exact entry.newer ≡ None → Counts old.stage old.digests entry.newer new.stage new.digests → IsAfterEntry old entry new turn
entry_taken old new entry turn is decided history exact takes well counts =
    subst (IsAfterEntry old entry new) (sym is) (record {
      decided = decided ∙ ap Ok is;
      history = history ∙ ap (after_turn (history_of old.chain) (told_of entry)) is;
      exact = exact;
      stage = (takes, well);
      counted = counts;
    })

-- ---- the table

none_taken : (tally : Tally) (state : State) → all_taken tally state [] ≡ tally
unfolding all_taken
none_taken tally state = refl

taken_on : (tally : Tally) (state : State) (newer : NewerRecord) (records : List NewerRecord) → all_taken tally state (newer ∷ records) ≡ all_taken (tally_taken tally newer (step state newer.txn).0.nodes) (step state newer.txn).0 records
unfolding all_taken
taken_on tally state newer records = refl

none_passed : (tally : Tally) → all_passed tally [] ≡ tally
unfolding all_passed
none_passed tally = refl

passed_on : (tally : Tally) (newer : NewerRecord) (records : List NewerRecord) → all_passed tally (newer ∷ records) ≡ all_passed (tally_passed tally newer) records
unfolding all_passed
passed_on tally newer records = refl

-- the records after one that was applied
table_on : (middle : Stage) (first : State) (tally : Tally) (exact : ℤ) (newer : NewerRecord) (records : List NewerRecord) (new : Stage) (end : Tally) → IsTableIn first middle → Tallies middle (tally_next tally newer middle) exact records new end
    → ((next : FoldView) (t : Tally) → Tallies (stages.Table next) t exact records new end → end ≡ all_taken t next.state records) → end ≡ all_taken (tally_taken tally newer first.nodes) first records
table_on (stages.Window draft last) first tally exact newer records new end t rest leads = absurd t
table_on (stages.Table next) first tally exact newer records new end t rest leads =
    leads next (tally_taken tally newer next.state.nodes) rest ∙ ap (λ z. all_taken (tally_taken tally newer z.nodes) z records) t.0

counts_table : (table : FoldView) (tally : Tally) (exact : ℤ) (records : List NewerRecord) (new : Stage) (end : Tally) → Tallies (stages.Table table) tally exact records new end → end ≡ all_taken tally table.state records
counts_table table tally exact [] new end r = r.1 ∙ sym (none_taken tally table.state)
counts_table table tally exact (newer ∷ records) new end r =
    table_on r.0 (step table.state newer.txn).0 tally exact newer records new end r.1 r.2 (λ next t rest. counts_table next t exact records new end rest)
    ∙ sym (taken_on tally table.state newer records)

-- ---- the window

-- a window of no further records
ends_here : (draft : Draft) (last exact : ℤ) (records : List NewerRecord) (base : State) (tally end : Tally) → in_window exact records ≡ [] → IsSettled draft last base → end ≡ all_taken tally base (after_window exact records) → IsCountFrom draft last exact records tally end.count
ends_here draft last exact records base tally end none settled counted = record {
  base = base;
  settled =
      subst (λ l. IsSettled (replayed draft l) (last_of last l) base) (sym none)
      (subst (λ d. IsSettled d (last_of last []) base) (sym (same_draft draft)) (subst (λ (z : ℤ). IsSettled draft z base) (sym (same_last last)) settled));
  counted =
      ap (λ x. x.count) (counted ∙ ap (λ x. all_taken x base (after_window exact records)) (sym (ap (all_passed tally) none ∙ none_passed tally)));
}

-- one record of the window
goes_through : (draft new : Draft) (last next exact : ℤ) (newer : NewerRecord) (records : List NewerRecord) (tally : Tally) (count : DigestCount) → int_le newer.txn.zxid exact ≡ true → new ≡ replayed_one draft newer → next ≡ newer.txn.zxid
    → IsCountFrom new next exact records (tally_passed tally newer) count → IsCountFrom draft last exact (newer ∷ records) tally count
goes_through draft new last next exact newer records tally count e r n s = record {
  base = s.base;
  settled =
      let w = in_window exact records in
      let as_draft : replayed new w ≡ replayed draft (newer ∷ w) = ap (λ d. replayed d w) r ∙ sym (replays_on draft newer w) in
      let as_last : last_of next w ≡ last_of last (newer ∷ w) = ap (λ z. last_of z w) n ∙ sym (last_on last newer w) in
      let moved : IsSettled (replayed draft (newer ∷ w)) (last_of last (newer ∷ w)) s.base =
      subst (λ d. IsSettled d (last_of last (newer ∷ w)) s.base) as_draft (subst (λ z. IsSettled (replayed new w) z s.base) as_last s.settled) in
      subst (λ l. IsSettled (replayed draft l) (last_of last l) s.base) (sym (in_yes exact newer records e)) moved;
  counted =
      s.counted
      ∙ ap (λ x. (all_taken x s.base (after_window exact records)).count) (sym (ap (all_passed tally) (in_yes exact newer records e) ∙ passed_on tally newer (in_window exact records)))
      ∙ ap (λ l. (all_taken (all_passed tally (in_window exact (newer ∷ records))) s.base l).count) (sym (after_yes exact newer records e));
}

window_on : (middle : Stage) (draft : Draft) (last exact : ℤ) (newer : NewerRecord) (records : List NewerRecord) (tally : Tally) (new : Stage) (end : Tally) → int_le newer.txn.zxid exact ≡ true
    → StaysInWindow draft newer middle → Tallies middle (tally_next tally newer middle) exact records new end
    → ((d : Draft) (next : ℤ) (t : Tally) → Tallies (stages.Window d next) t exact records new end → IsCountFrom d next exact records t end.count) → IsCountFrom draft last exact (newer ∷ records) tally end.count
window_on (stages.Table table) draft last exact newer records tally new end e t rest leads = absurd t
window_on (stages.Window d next) draft last exact newer records tally new end e t rest leads =
    goes_through draft d last next exact newer records tally end.count e (draft_is draft d newer t.0) t.1 (leads d next (tally_passed tally newer) rest)

-- the first record after the window, and the ones after it
leaves_on : (middle : Stage) (draft : Draft) (last exact : ℤ) (newer : NewerRecord) (records : List NewerRecord) (tally : Tally) (new : Stage) (end : Tally) → int_le newer.txn.zxid exact ≡ false
    → LeavesWindow draft last newer middle → Tallies middle (tally_next tally newer middle) exact records new end → IsCountFrom draft last exact (newer ∷ records) tally end.count
leaves_on middle draft last exact newer records tally new end e t rest =
    ends_here draft last exact (newer ∷ records) t.base tally end (in_no exact newer records e) t.settled
    (table_on middle (step t.base newer.txn).0 tally exact newer records new end t.applied rest (λ next x more. counts_table next x exact records new end more)
    ∙ sym (taken_on tally t.base newer records)
    ∙ ap (all_taken tally t.base) (sym (after_no exact newer records e)))

either_on : (b : Bool) (middle : Stage) (draft : Draft) (last exact : ℤ) (newer : NewerRecord) (records : List NewerRecord) (tally : Tally) (new : Stage) (end : Tally) → int_le newer.txn.zxid exact ≡ b
    → TakesInWindow b draft last newer middle → Tallies middle (tally_next tally newer middle) exact records new end
    → ((d : Draft) (next : ℤ) (t : Tally) → Tallies (stages.Window d next) t exact records new end → IsCountFrom d next exact records t end.count) → IsCountFrom draft last exact (newer ∷ records) tally end.count
either_on true middle draft last exact newer records tally new end e t rest leads = window_on middle draft last exact newer records tally new end e t rest leads
either_on false middle draft last exact newer records tally new end e t rest leads = leaves_on middle draft last exact newer records tally new end e t rest

counts_window : (draft : Draft) (last exact : ℤ) (records : List NewerRecord) (tally : Tally) (new : Stage) (end : Tally) (state : State) → Tallies (stages.Window draft last) tally exact records new end → IsRestored new state → IsCountFrom draft last exact records tally end.count
counts_window draft last exact [] tally new end state r s =
    ends_here draft last exact [] state tally end (nothing_in exact) (subst (λ (e : Stage). IsRestored e state) r.0 s)
    (r.1 ∙ sym (none_taken tally state) ∙ ap (all_taken tally state) (sym (nothing_after exact)))
counts_window draft last exact (newer ∷ records) tally new end state r s =
    either_on (int_le newer.txn.zxid exact) r.0 draft last exact newer records tally new end refl r.1 r.2 (λ d next t rest. counts_window d next exact records t new end state rest s)

-- ---- any stage

abbrev pub IsCountAfter : Stage → ℤ → List NewerRecord → Tally → DigestCount → Type 0
IsCountAfter (stages.Window draft last) exact records tally count = IsCountFrom draft last exact records tally count
IsCountAfter (stages.Table table) exact records tally count = count ≡ (all_taken tally table.state records).count

pub counts_after : (stage : Stage) (exact : ℤ) (records : List NewerRecord) (tally : Tally) (new : Stage) (end : Tally) (state : State) → Tallies stage tally exact records new end → IsRestored new state → IsCountAfter stage exact records tally end.count
counts_after (stages.Table table) exact records tally new end state r s = ap (λ x. x.count) (counts_table table tally exact records new end r)
counts_after (stages.Window draft last) exact records tally new end state r s = counts_window draft last exact records tally new end state r s

pub count_is : (stage : Stage) (digests : Digests) (tally : Tally) → IsTallied stage digests tally → digests.count ≡ tally.count
count_is (stages.Window draft last) digests tally is = is.count
count_is (stages.Table table) digests tally is = is.tallied.count
