-- The number so far, and the digits that are left.
use Rattle.std.proofs.Common.{◌≡◌, ◌<◌, Some, drop}
use Rattle.zk_directory.specs.Names.{value_after}
use Rattle.zk_directory.proofs.names.value_of.Given as goal

abbrev pub invariant-loop-byte : goal.invariant-loop-byte
invariant-loop-byte l = record {
  value : value_after l.case (Some l.value) (drop l.byte-index l.digits) ≡ value_after l.case (Some 0) l.digits;
  below : l.value < 9223372036854775808;
}
