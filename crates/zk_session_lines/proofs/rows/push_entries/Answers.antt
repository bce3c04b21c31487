use Rattle.std.proofs.Common.{◌<◌, length, rules}
use Rattle.std.specs.String.{string_bytes}
use Rattle.zk_session_lines.proofs.Appended.{each_ended, each_next}
use Rattle.zk_session_lines.specs.Rows.{IsFormedRow}
use Rattle.zk_session_lines.proofs.rows.push_entries.Goals as goal

pub loop-entry-preserved : goal.loop-entry-preserved
loop-entry-preserved c =
    let entries = c.args.entries.now in
    let at = c.loop-entry.entry-index in
    let lt : at < length entries = search rules in
    each_next (IsFormedRow c.args.form) entries at _ (string_bytes c.args.text.now) (string_bytes c.loop-entry.text) (string_bytes c.push_entry.new.text) lt c.loop-entry.invariant c.in_ok-push_entry.ensures

pub returns : goal.returns
returns c = each_ended (IsFormedRow c.args.form) c.args.entries.now c.loop-entry.entry-index (string_bytes c.args.text.now) (string_bytes c.loop-entry.text) c.loop-entry-test.false c.loop-entry.invariant
