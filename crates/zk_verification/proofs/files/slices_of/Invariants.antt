-- The slices so far.
use Rattle.std.proofs.Common.{◌≡◌, map, take}
use Rattle.zk_directory_state.specs.Logs.{bytes_of}
use Rattle.zk_verification.specs.Verifications.{log_bytes}
use Rattle.zk_verification.proofs.files.slices_of.Given as goal

abbrev pub invariant-loop-log : goal.invariant-loop-log
invariant-loop-log l = map bytes_of l.slices.items ≡ map log_bytes (take l.log-index l.logs)
