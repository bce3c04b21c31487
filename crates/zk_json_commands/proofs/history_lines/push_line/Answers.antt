use Rattle.std.proofs.Common.{◌≡◌, ◌==◌, false, length, rules}
use Rattle.std.proofs.lemmas.Result.{on_ok_weaker}
use Rattle.std.specs.String.{string_bytes}
use Rattle.zk_json_commands.proofs.Finished.{one_line}
use Rattle.zk_json_commands.proofs.history_lines.push_line.Goals as goal

pub returns : goal.returns
returns c =
    let some : (length c.args.paths.now == 0) ≡ false = search rules in
    on_ok_weaker c.push_some.result (one_line c.args.paths.now c.args.newer.now (string_bytes c.args.text.now) (string_bytes c.push_some.new.text) some) c.push_some.ensures
