use Rattle.std.proofs.Common.{◌≡◌, List, [], Err, sym, subst, ◌∙◌, rules}
use Rattle.std.specs.Str.{IsUtf8}
use Rattle.std.specs.String.{string_bytes}
use Rattle.zk_debug.specs.Commands.{SaysNothing, ReadsCommand}
use Rattle.zk_debug.specs.declared.command_fault.CommandFault.{CommandFault}
use Rattle.zk_debug.proofs.Scripts.{none_yet, one_more_line, malformed_line, unread_line, unanswered_line, no_line_left}
use Rattle.zk_listing.proofs.ReportLineLaws.{is_ended}
use Rattle.zk_debug.proofs.script.run_script.Goals as goal

pub loop-left-init : goal.loop-left-init
loop-left-init c = (c.utf8.script, none_yet c.args.debugger.now c.args.script.now (string_bytes c.args.answers.now))

pub loop-left-preserved : goal.loop-left-preserved
loop-left-preserved c =
    let utf8 : IsUtf8 c.next_line-line.new.text.now = search rules in (
      utf8,
      one_more_line c.args.debugger.now c.args.script.now (string_bytes c.args.answers.now) c.loop-left.left.now c.loop-left.number (string_bytes c.loop-left.answers) c.loop-left.debugger c.loop-left.invariant.1 c.next_line-line.result.now c.next_line-line.new.text.now c.next_line-line.ensures.line
          c.in-Ok.command (string_bytes c.run_command.new.answers) c.run_command.new.debugger c.next_line-line.ensures.shorter c.in-Ok.ensures.0 c.in-Ok-run_command.ensures.obeyed,
    )

pub returns-in_default : goal.returns-in_default
returns-in_default c =
    unanswered_line c.args.debugger.now c.args.script.now (string_bytes c.args.answers.now) c.loop-left.left.now c.loop-left.number (string_bytes c.loop-left.answers) c.loop-left.debugger c.loop-left.invariant.1 c.next_line-line.result.now c.next_line-line.new.text.now c.next_line-line.ensures.line
    c.in-Ok.command c.in_default.field-0 (string_bytes c.run_command.new.answers) c.run_command.new.debugger c.in-Ok.ensures.0 c.in_default.ensures.obeyed c.in_default.ensures.unchanged

pub returns-in-Err-Malformed : goal.returns-in-Err-Malformed
returns-in-Err-Malformed c =
    let nothing : SaysNothing c.next_line-line.result.now = subst (λ (fault : CommandFault). ReadsCommand c.next_line-line.result.now (Err fault)) c.in-Err-Malformed.field-0-is c.in-Err-Malformed.ensures in
    malformed_line c.args.debugger.now c.args.script.now (string_bytes c.args.answers.now) c.loop-left.left.now c.loop-left.number (string_bytes c.loop-left.answers) c.loop-left.debugger c.loop-left.invariant.1 c.next_line-line.result.now c.next_line-line.new.text.now c.next_line-line.ensures.line nothing

pub returns-in-Err-NoMemory : goal.returns-in-Err-NoMemory
returns-in-Err-NoMemory c =
    unread_line c.args.debugger.now c.args.script.now (string_bytes c.args.answers.now) c.loop-left.left.now c.loop-left.number (string_bytes c.loop-left.answers) c.loop-left.debugger c.loop-left.invariant.1 c.next_line-line.result.now c.next_line-line.new.text.now c.next_line-line.ensures.line

pub returns : goal.returns
returns c =
    no_line_left c.args.debugger.now c.args.script.now (string_bytes c.args.answers.now) c.loop-left.left.now c.loop-left.number (string_bytes c.loop-left.answers) c.loop-left.debugger c.loop-left.invariant.1 (is_ended c.loop-left.left.now (sym c.is_empty.ensures ∙ c.loop-left-test.false))
