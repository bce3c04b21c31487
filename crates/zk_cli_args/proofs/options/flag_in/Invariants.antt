-- The words before, and the result for the remaining words.
use Rattle.std.proofs.Common.{◌≡◌, length}
use Rattle.zk_cli_args.specs.Options.{after, flag_in}
use Rattle.zk_cli_args.proofs.WordsLaws.{texts}
use Rattle.zk_cli_args.proofs.options.flag_in.Given as goal

abbrev pub invariant-loop-rest : goal.invariant-loop-rest
invariant-loop-rest l = after (texts l.front.items) (flag_in l.flag (texts l.rest)) ≡ flag_in l.flag (texts l.words)

abbrev pub decreases-loop-rest : goal.decreases-loop-rest
decreases-loop-rest l = length l.rest
