use Rattle.std.specs.String.{string_bytes}
use Rattle.std.proofs.Common.{◌++◌}
use Rattle.zk_directory_state.proofs.Lines.{gaps_more, last_more}
use Rattle.zk_directory_state.specs.Files.{gaps_text, last_after}
use Rattle.zk_directory_state.proofs.log_line.push_gaps.Goals as goal

pub loop-entry-preserved : goal.loop-entry-preserved
loop-entry-preserved c =
    let entries = c.args.entries.now in
    let i = c.loop-entry.entry-index in
    let entry = c.entry-item.result in
    record {
      gaps = gaps_more entries i entry c.loop-entry.last c.later_than-last.result (string_bytes c.loop-entry.text) (string_bytes c.push_gap_before.new.text) (string_bytes c.args.text.now ++ gaps_text c.args.last entries) c.loop-entry-test.true c.entry-item.is
          c.loop-entry.invariant.gaps c.in_ok-push_gap_before.ensures c.later_than-last.ensures;
      last = last_more entries i entry c.loop-entry.last c.later_than-last.result (last_after c.args.last entries) c.loop-entry-test.true c.entry-item.is c.loop-entry.invariant.last c.later_than-last.ensures;
    }
