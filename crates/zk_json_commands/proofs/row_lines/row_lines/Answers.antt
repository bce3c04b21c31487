use Rattle.std.proofs.Common.{◌<◌, length, rules}
use Rattle.std.specs.String.{string_bytes}
use Rattle.zk_json_commands.proofs.Rows.{next_row}
use Rattle.zk_json_commands.proofs.row_lines.row_lines.Goals as goal

pub loop-counted-preserved : goal.loop-counted-preserved
loop-counted-preserved c =
    let rows = c.args.rows.now in
    let at = c.loop-counted.counted-index in
    let lt : at < length rows = search rules in
    next_row c.args.key rows at _ (string_bytes c.new-text.result) (string_bytes c.loop-counted.text) (string_bytes c.push_row.new.text) lt c.loop-counted.invariant c.in_ok-push_row.ensures
