use Rattle.std.specs.String.{string_bytes}
use Rattle.zk_json_commands.proofs.WrittenReports.{next_helped}
use Rattle.zk_json_commands.proofs.report.push_helps.Goals as goal

pub loop-kind-preserved : goal.loop-kind-preserved
loop-kind-preserved c =
    next_helped c.args.marks.now c.args.kinds.now c.loop-kind.kind-index _ (string_bytes c.args.text.now) (string_bytes c.loop-kind.text) (string_bytes c.push_help.new.text) c.loop-kind-test.true c.loop-kind.invariant c.in_ok-push_help.ensures
