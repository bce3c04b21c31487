-- The logs so far have no entry.
use Rattle.std.proofs.Common.{◌≡◌, Option, drop}
use Rattle.zk_directory_state.specs.Evidence.{IsStart}
use Rattle.zk_directory_state.specs.declared.evidence.Start.{Start}
use Rattle.zk_directory_state.proofs.evidence.start_of.Given as goal

abbrev pub invariant-loop-bytes : goal.invariant-loop-bytes
invariant-loop-bytes l = record {
  counted : l.log ≡ l.bytes-index;
  so_far : (start : Option Start) → IsStart l.log (drop l.bytes-index l.fn.logs) start → IsStart 0 l.fn.logs start;
}
