use Rattle.std.specs.String.{string_bytes}
use Rattle.zk_directory_state.proofs.Lines.{last_more}
use Rattle.zk_directory_state.specs.Files.{last_after}
use Rattle.zk_json_files.proofs.Lines.{gaps_all, gaps_more}
use Rattle.std.proofs.Common.{refl}
use Rattle.zk_json_files.proofs.gap_lines.push_gaps.Goals as goal

pub loop-entry-init : goal.loop-entry-init
loop-entry-init c = record { gaps = λ more lines. (more, lines, refl); last = refl }

pub loop-entry-preserved : goal.loop-entry-preserved
loop-entry-preserved c =
    let entries = c.args.entries.now in
    let i = c.loop-entry.entry-index in
    let entry = c.entry-item.result in
    record {
      gaps = gaps_more c.args.name.now entries i entry c.args.last c.loop-entry.last c.later_than-last.result (string_bytes c.args.text.now) (string_bytes c.loop-entry.text) (string_bytes c.push_gap_before.new.text) c.loop-entry-test.true c.entry-item.is
          c.loop-entry.invariant.gaps c.in_ok-push_gap_before.ensures c.later_than-last.ensures;
      last = last_more entries i entry c.loop-entry.last c.later_than-last.result (last_after c.args.last entries) c.loop-entry-test.true c.entry-item.is c.loop-entry.invariant.last c.later_than-last.ensures;
    }

pub returns-clause-gaps : goal.returns-clause-gaps
returns-clause-gaps c =
    gaps_all c.args.name.now c.args.entries.now c.loop-entry.entry-index c.args.last c.loop-entry.last (string_bytes c.args.text.now) (string_bytes c.loop-entry.text) c.loop-entry-test.false c.loop-entry.invariant.gaps
