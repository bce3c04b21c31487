-- The slices so far.
use Rattle.std.proofs.Common.{◌≡◌, map, take}
use Rattle.zk_directory_state.specs.Logs.{bytes_of, items_of}
use Rattle.zk_directory_state.proofs.logs.slices_of.Given as goal

abbrev pub invariant-loop-bytes : goal.invariant-loop-bytes
invariant-loop-bytes l = map bytes_of l.slices.items ≡ map items_of (take l.bytes-index l.loaded)
