-- The directories so far, and the others.
use Rattle.std.proofs.Common.{◌≡◌, ◌++◌, ◌≤◌, drop, map, length}
use Rattle.zk_cli_args.specs.Comparisons.{placed, words_of_folder}
use Rattle.zk_cli_args.proofs.ComparisonsLaws.{values_of}
use Rattle.zk_cli_args.proofs.WordsLaws.{texts}
use Rattle.zk_cli_args.proofs.comparisons.placed.Given as goal

abbrev pub invariant-loop-place : goal.invariant-loop-place
invariant-loop-place l = (l.place ≤ length l.values) × (map words_of_folder l.folders.items ++ placed l.place (texts (drop l.place l.values)) (values_of l.logs) ≡ placed 0 (texts l.values) (values_of l.logs))
