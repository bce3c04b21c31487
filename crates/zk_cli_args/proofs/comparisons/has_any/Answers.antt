use Rattle.std.proofs.Common.{is_some}
use Rattle.std.specs.List.{list_any}
use Rattle.zk_cli_args.proofs.ComparisonsLaws.{any_here, any_later, values_of}
use Rattle.zk_cli_args.proofs.comparisons.has_any.Goals as goal

pub returns-then-is_some : goal.returns-then-is_some
returns-then-is_some c = any_here c.args.values.now c.loop-value.value-index _ (list_any is_some (values_of c.args.values.now)) c.loop-value-test.true c.loop-value.invariant c.if-is_some.ensures

pub loop-value-preserved : goal.loop-value-preserved
loop-value-preserved c = any_later c.args.values.now c.loop-value.value-index _ (list_any is_some (values_of c.args.values.now)) c.loop-value-test.true c.loop-value.invariant c.if-is_some.ensures
