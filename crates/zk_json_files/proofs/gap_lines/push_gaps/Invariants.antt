-- The gaps so far, followed by those of the other entries, are all.
use Rattle.std.proofs.Common.{◌≡◌, drop}
use Rattle.std.specs.String.{string_bytes}
use Rattle.zk_directory_state.specs.Files.{last_after}
use Rattle.zk_json_files.proofs.Lines.{GapsSoFar}
use Rattle.zk_json_files.proofs.gap_lines.push_gaps.Given as goal

abbrev pub invariant-loop-entry : goal.invariant-loop-entry
invariant-loop-entry l = record {
  gaps : GapsSoFar l.name l.fn.last l.entries l.entry-index l.last (string_bytes l.fn.text) (string_bytes l.text);
  last : last_after l.last (drop l.entry-index l.entries) ≡ last_after l.fn.last l.entries;
}
