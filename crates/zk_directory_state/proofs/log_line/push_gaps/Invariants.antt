-- The gaps so far, and those of the other entries.
use Rattle.std.proofs.Common.{◌≡◌, ◌++◌, drop}
use Rattle.std.specs.String.{string_bytes}
use Rattle.zk_directory_state.specs.Files.{gaps_text, last_after}
use Rattle.zk_directory_state.proofs.log_line.push_gaps.Given as goal

abbrev pub invariant-loop-entry : goal.invariant-loop-entry
invariant-loop-entry l = record {
  gaps : string_bytes l.text ++ gaps_text l.last (drop l.entry-index l.entries) ≡ string_bytes l.fn.text ++ gaps_text l.fn.last l.entries;
  last : last_after l.last (drop l.entry-index l.entries) ≡ last_after l.fn.last l.entries;
}
