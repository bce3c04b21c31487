use Rattle.std.proofs.Common.{◌≡◌, drop}
use Rattle.zk_crc.specs.Crc.{after_bytes}
use Rattle.zk_crc.proofs.crc.after_rest.Given as goal

abbrev pub invariant-loop-byte : goal.invariant-loop-byte
invariant-loop-byte l = after_bytes l.after (drop l.byte-index l.bytes) ≡ after_bytes l.register l.bytes
