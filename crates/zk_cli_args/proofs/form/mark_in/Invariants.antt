-- No word so far decides.
use Rattle.std.proofs.Common.{◌≡◌, ◌+◌, drop, map}
use Rattle.std.specs.List.{position_or_len}
use Rattle.zk_cli_args.specs.Forms.{is_mark}
use Rattle.zk_cli_args.proofs.form.mark_in.Given as goal

abbrev pub invariant-loop-at : goal.invariant-loop-at
invariant-loop-at l = l.at + position_or_len is_mark (map (λ word. word.now) (drop l.at l.fn.words)) ≡ position_or_len is_mark (map (λ word. word.now) l.fn.words)
