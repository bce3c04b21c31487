use Rattle.std.specs.String.{string_bytes}
use Rattle.zk_commands.proofs.OutputTexts.{five_parts}
use Rattle.zk_commands.specs.Reports.{count_lines, digest_lines, kind_lines, other_lines, end_lines, mend_report}
use Rattle.zk_commands.proofs.report.mend_report.Goals as goal

pub returns : goal.returns
unfolding mend_report
returns c =
    let told = c.args.mended.now.told in
    five_parts (count_lines told) (digest_lines told) (kind_lines told) (other_lines told) (end_lines c.args.mended.now.ending)
    (string_bytes c.new-text.result) (string_bytes c.push_counts.new.text) (string_bytes c.push_digests.new.text) (string_bytes c.push_kinds.new.text) (string_bytes c.push_others.new.text) (string_bytes c.push_end.new.text)
    c.new-text.ensures.bytes c.in_ok-push_counts.ensures c.in_ok-push_digests.ensures c.in_ok-push_kinds.ensures c.in_ok-push_others.ensures c.in_ok-push_end.ensures
