use Rattle.std.proofs.Common.{sym, subst}
use Rattle.zk_replay.specs.declared.stage.Stage.{Stage}
use Rattle.zk_directory_state.specs.Counts.{IsTallied, tally_next}
use Rattle.zk_directory_state.proofs.counting.compare.Goals as goal

pub returns-in_ok-pass-in-Window : goal.returns-in_ok-pass-in-Window
returns-in_ok-pass-in-Window c = λ tally is.
    subst (λ (s : Stage). IsTallied s c.pass.new.self (tally_next tally c.args.newer.now s)) (sym c.in-Window.is) (c.in_ok-pass-in-Window.ensures tally is)
