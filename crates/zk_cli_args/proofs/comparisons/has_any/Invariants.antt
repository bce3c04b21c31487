-- No option so far is there.
use Rattle.std.proofs.Common.{◌≡◌, drop, is_some}
use Rattle.std.specs.List.{list_any}
use Rattle.zk_cli_args.proofs.ComparisonsLaws.{values_of}
use Rattle.zk_cli_args.proofs.comparisons.has_any.Given as goal

abbrev pub invariant-loop-value : goal.invariant-loop-value
invariant-loop-value l = list_any is_some (values_of (drop l.value-index l.values)) ≡ list_any is_some (values_of l.values)
