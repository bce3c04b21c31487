use Rattle.std.proofs.Common.{rules, ◌∙◌, ap, take}
use Rattle.zk_table.specs.Histories.{state_after}
use Rattle.zk_table.specs.States.{start_state}
use Rattle.zk_model.proofs.Reading.{some_more}
use Rattle.zk_model.proofs.preparer.prep_after.Goals as goal

pub loop-done-preserved : goal.loop-done-preserved
loop-done-preserved c =
    let then = c.in_ok-take_read.ensures.state ∙ ap (state_after c.loop-done.prep.state) (c.first.ensures ∙ ap (take c.min-many.result) c.behind.ensures) in
    record {
      within = search rules;
      running = c.in_ok-take_read.ensures.running;
      taken = some_more c.loop-done.done c.min-many.result c.args.txns.now c.loop-done.prep.state c.take_read.new.prep.state (state_after start_state c.args.txns.now) then c.loop-done.invariant.taken;
    }
