use Rattle.std.proofs.Common.{sym, subst}
use Rattle.std.specs.Prelude.{IfOk}
use Rattle.zk_replay.specs.Bases.{FailsBy}
use Rattle.zk_replay.specs.Restoring.{Takes, take_fault}
use Rattle.zk_replay.specs.declared.stage.Stage.{Stage}
use Rattle.zk_directory_state.specs.Counts.{Counts}
use Rattle.zk_directory_state.proofs.counting.take_counting.Goals as goal

pub returns-in-Table-clause-taken : goal.returns-in-Table-clause-taken
returns-in-Table-clause-taken c = subst (λ (s : Stage). IfOk c.advance.result (λ next. Takes s c.args.exact c.args.newer.now next.0)) (sym c.in-Table.is) c.advance.ensures.taken

pub returns-in-Table-clause-counted : goal.returns-in-Table-clause-counted
returns-in-Table-clause-counted c = subst (λ (s : Stage). IfOk c.advance.result (λ next. Counts s c.args.digests c.args.newer.now next.0 next.1)) (sym c.in-Table.is) c.advance.ensures.counted

pub returns-in-Table-clause-exact : goal.returns-in-Table-clause-exact
returns-in-Table-clause-exact c = subst (λ (s : Stage). FailsBy (take_fault s c.args.exact c.args.newer.now) c.advance.result) (sym c.in-Table.is) c.advance.ensures.exact
