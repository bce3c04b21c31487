use Rattle.std.proofs.Common.{◌≡◌, ◌*◌, drop}
use Rattle.zk_crc.specs.Crc.{after_bytes}
use Rattle.zk_crc.proofs.crc.after_words.Given as goal

abbrev pub invariant-loop-word : goal.invariant-loop-word
invariant-loop-word l = after_bytes l.after (drop (4 * l.word) l.bytes) ≡ after_bytes l.register l.bytes
