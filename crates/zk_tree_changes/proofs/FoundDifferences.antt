-- The states of a directory, and what differs between two.
use Rattle.std.proofs.Common.{◌≡◌, ℕ, true, false, List, Option, Ok, Err, String, inl, inr, sym, ap, ◌∙◌, subst}
use Rattle.std.specs.Global.{Global}
use Rattle.std.specs.String.{string_bytes}
use Rattle.zk_tree_changes.specs.Changes.{Track, followed_all, stamp_at}
use Rattle.zk_tree_changes.specs.Differences.{differences}
use Rattle.zk_tree_changes.specs.Texts.{AreLines}
use Rattle.zk_directory_state.specs.Histories.{Holds}
use Rattle.zk_directory_state.specs.Notices.{notices_of}
use Rattle.zk_directory_state.specs.declared.history.Shown.{Shown}
use Rattle.zk_directory_state.specs.declared.notices.Noticed.{Noticed}
use Rattle.zk_directory_state.specs.declared.upto.Upto.{Upto}
use Rattle.zk_directory_state.specs.declared.fault.HistoryFault.{HistoryFault}
use Rattle.zk_machine.specs.Machines.{MachineView}
use Rattle.zk_tree_changes.specs.DifferenceReports.{AreCompared, AreNotCompared, FindsCompared, FindsDifference, FindsMoment, FollowsLogged, notices_of_both, track_between}
use Rattle.zk_tree_changes.specs.declared.compared.Compared.{Compared}
use Rattle.zk_tree_changes.specs.declared.compared.Moment.{Moment}

module _ (snapshots : Option (List (List ℕ))) (snapshot_bytes : List ℕ → Option (List ℕ)) (logs : Option (List (List ℕ))) (log_bytes : List ℕ → Option (List ℕ)) where
  pub moment_found : (upto : Upto) (shown : Shown) (machine : MachineView) (notices : String Global) → Holds snapshots snapshot_bytes logs log_bytes upto (Ok shown) → (let begun : MachineView = record { state = shown.restored.table.state; steps = 0; failed = false } in machine ≡ begun)
      → string_bytes notices ≡ notices_of upto shown.restored → (let moment : Moment = record { machine = machine; notices = notices } in FindsMoment snapshots snapshot_bytes logs log_bytes upto (Ok moment))
  moment_found upto shown machine notices h is are = (shown, h, ap (λ (m : MachineView). m.state) is, ap (λ (m : MachineView). m.failed) is, are)

  pub no_old : (from to : Upto) (fault : HistoryFault) → FindsMoment snapshots snapshot_bytes logs log_bytes from (Err fault) → AreNotCompared snapshots snapshot_bytes logs log_bytes from to fault
  no_old from to fault held = inr (inl held)

  pub no_new : (from to : Upto) (fault : HistoryFault) → FindsMoment snapshots snapshot_bytes logs log_bytes to (Err fault) → AreNotCompared snapshots snapshot_bytes logs log_bytes from to fault
  no_new from to fault held = inr (inr held)

  pub compared : (from to : Upto) (old new : Moment) (start changes : Track) (notices : String Global) → FindsMoment snapshots snapshot_bytes logs log_bytes from (Ok old) → FindsMoment snapshots snapshot_bytes logs log_bytes to (Ok new)
      → start ≡ track_between old.machine.state new.machine.state → FollowsLogged logs log_bytes start changes → string_bytes notices ≡ notices_of_both (string_bytes old.notices) (string_bytes new.notices)
      → (let found : Compared = record { old = old.machine; new = new.machine; changes = changes; notices = notices } in FindsCompared snapshots snapshot_bytes logs log_bytes from to (Ok found))
  compared from to old new start changes notices o n begun f both = (
    record {
      shown_old = o.0;
      shown_new = n.0;
      holds_old = o.1;
      holds_new = n.1;
      is_old = o.2;
      is_new = n.2;
      records = f.records;
      logged = f.logged;
      are_changes = f.is ∙ ap (λ (t : Track). followed_all t f.records) begun;
      are_notices = both ∙ ap (λ (l : List ℕ). notices_of_both l (string_bytes new.notices)) o.4 ∙ ap (notices_of_both (notices_of from o.0.restored)) n.4;
    },
    o.3,
    n.3,
  )

  pub difference_found : (from to : Upto) (path : List ℕ) (both : Compared) (noticed : Noticed) → FindsCompared snapshots snapshot_bytes logs log_bytes from to (Ok both)
      → AreLines (stamp_at both.changes) (differences path true both.old.state.nodes both.new.state.nodes) (string_bytes noticed.text) → noticed.notices ≡ both.notices → FindsDifference snapshots snapshot_bytes logs log_bytes from to path (Ok noticed)
  difference_found from to path both noticed h are same = record {
    old = both.old.state;
    new = both.new.state;
    changes = both.changes;
    compared = subst (λ (s : String Global). AreCompared snapshots snapshot_bytes logs log_bytes from to both.old.state both.new.state both.changes (string_bytes s)) (sym same) h.0;
    are = are;
  }
