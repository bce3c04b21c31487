use Rattle.std.proofs.Common.{◌≡◌, ◌<◌, length, get_or, rules}
use Rattle.std.specs.String.{string_bytes}
use Rattle.zk_json_commands.proofs.Written.{next_written}
use Rattle.zk_json_commands.proofs.node_lines.push_entries.Goals as goal

pub loop-entry-preserved : goal.loop-entry-preserved
loop-entry-preserved c =
    let entries = c.args.entries.now in
    let at = c.loop-entry.entry-index in
    let lt : at < length entries = search rules in
    let is : c.entry-item.result ≡ get_or entries at c.entry-item.result = search rules in
    next_written entries at c.entry-item.result (string_bytes c.args.text.now) (string_bytes c.loop-entry.text) (string_bytes c.push_entry.new.text) lt is c.loop-entry.invariant c.in_ok-push_entry.ensures
