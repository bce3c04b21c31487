-- The words before, and the result for the remaining words.
use Rattle.std.proofs.Common.{◌≡◌, length}
use Rattle.zk_cli_args.specs.Options.{behind, option_in}
use Rattle.zk_cli_args.proofs.WordsLaws.{texts}
use Rattle.zk_cli_args.proofs.options.option_in.Given as goal

abbrev pub invariant-loop-rest : goal.invariant-loop-rest
invariant-loop-rest l = behind (texts l.front.items) (option_in l.name l.prefix (texts l.rest)) ≡ option_in l.name l.prefix (texts l.words)

abbrev pub decreases-loop-rest : goal.decreases-loop-rest
decreases-loop-rest l = length l.rest
