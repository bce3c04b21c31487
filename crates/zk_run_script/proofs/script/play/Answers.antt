use Rattle.std.proofs.Common.{◌≡◌, List, ℕ, sym, ◌∙◌, rules}
use Rattle.std.specs.Str.{IsUtf8}
use Rattle.std.specs.String.{string_bytes}
use Rattle.zk_listing.proofs.ReportLineLaws.{is_ended}
use Rattle.zk_run_script.proofs.PlaysLaws.{none_yet, one_more_line, no_line_left}
use Rattle.zk_run_script.proofs.script.play.Goals as goal

pub loop-left-init : goal.loop-left-init
loop-left-init c = (c.utf8.text, none_yet c.args.servers c.args.ensemble.now c.args.text.now (string_bytes c.args.answers.now))

pub loop-left-preserved : goal.loop-left-preserved
loop-left-preserved c =
    let utf8 : IsUtf8 c.next_line-line.new.text.now = search rules in (
      utf8,
      one_more_line c.args.servers c.args.ensemble.now c.args.text.now (string_bytes c.args.answers.now) c.loop-left.left.now c.loop-left.number (string_bytes c.loop-left.answers) c.loop-left.ensemble c.loop-left.invariant.1 c.next_line-line.result.now c.next_line-line.new.text.now c.next_line-line.ensures.line
          c.in-Ok.command (string_bytes c.run_command.new.answers) c.run_command.new.ensemble c.next_line-line.ensures.shorter c.in-Ok.ensures.0 c.in-Ok-run_command.ensures.obeyed,
    )

pub returns : goal.returns
returns c =
    no_line_left c.args.servers c.args.ensemble.now c.args.text.now (string_bytes c.args.answers.now) c.loop-left.left.now c.loop-left.number (string_bytes c.loop-left.answers) c.loop-left.ensemble c.loop-left.invariant.1 (is_ended c.loop-left.left.now (sym c.is_empty.ensures ∙ c.loop-left-test.false))
