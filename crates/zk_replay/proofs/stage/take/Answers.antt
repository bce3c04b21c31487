use Rattle.std.proofs.Common.{◌≡◌, false, w64, to_z, of_z, rules, sym, subst}
use Rattle.std.specs.Prelude.{IfOk, int_le}
use Rattle.zk_replay.specs.Restoring.{Takes}
use Rattle.zk_replay.specs.declared.stage.Stage.{Stage}
use Rattle.zk_replay.proofs.Leaving.{leaves}
use Rattle.zk_replay.proofs.stage.take.Goals as goal

pub returns-in_ok-table-in-Window-clause-taken : goal.returns-in_ok-table-in-Window-clause-taken
returns-in_ok-table-in-Window-clause-taken c =
    let last = c.in-Window.last in
    let behind : int_le c.args.newer.now.txn.zxid c.args.exact ≡ false = search rules in
    let same : to_z w64 (of_z w64 last) ≡ last = search rules in
    subst (λ (stage : Stage). IfOk c.advance.result (Takes stage c.args.exact c.args.newer.now)) (sym c.in-Window.is)
    (leaves c.in-Window.draft last c.args.exact c.args.newer.now c.in_ok-table-in-Window.table.state (to_z w64 (of_z w64 last)) c.advance.result behind same c.in_ok-table-in-Window.ensures.settled c.advance.ensures.applied)
