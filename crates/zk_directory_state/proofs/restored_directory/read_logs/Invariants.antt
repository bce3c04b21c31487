-- The logs so far were read.
use Rattle.std.proofs.Common.{◌≡◌, false}
use Rattle.zk_directory_state.specs.Directories.{AreRead}
use Rattle.zk_directory_state.proofs.restored_directory.read_logs.Given as goal

abbrev pub invariant-loop-bytes : goal.invariant-loop-bytes
invariant-loop-bytes l = record {
  counted : l.read ≡ l.bytes-index;
  so_far : AreRead l.fn.start l.fn.logs l.read l.restore false l.ending;
}
