-- The values so far, and those of the remaining words.
use Rattle.std.proofs.Common.{◌≡◌, drop}
use Rattle.zk_cli_args.specs.Commands.{values_of}
use Rattle.zk_cli_args.proofs.WordsLaws.{texts, values_from, with_values}
use Rattle.zk_cli_args.proofs.command.values_of.Given as goal

abbrev pub invariant-loop-word : goal.invariant-loop-word
invariant-loop-word l = with_values (texts l.values.items) (values_from l.options_end (texts (drop l.word-index l.words))) ≡ values_of (texts l.words)
