-- The values so far, and those of the remaining options.
use Rattle.std.proofs.Common.{◌≡◌, drop}
use Rattle.zk_cli_args.specs.Comparisons.{parted_all}
use Rattle.zk_cli_args.proofs.ComparisonsLaws.{after_values, options_of, values_of}
use Rattle.zk_cli_args.proofs.WordsLaws.{texts}
use Rattle.zk_cli_args.proofs.comparisons.part_all.Given as goal

abbrev pub invariant-loop-name : goal.invariant-loop-name
invariant-loop-name l = after_values (values_of l.values.items) (parted_all (options_of (drop l.name-index l.options)) (texts l.others.items)) ≡ parted_all (options_of l.options) (texts l.words)
