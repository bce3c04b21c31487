-- The digits so far and those of the rest are the digits of all.
use Rattle.std.proofs.Common.{◌≡◌, ◌++◌}
use Rattle.std.specs.Slice.Iter.{chunks_rest, chunks_size}
use Rattle.std.specs.String.{string_bytes}
use Rattle.hex.specs.Hex.{encode_lower}
use Rattle.zk_format.proofs.spelling.spell_bytes.Given as goal

abbrev pub invariant-loop-piece : goal.invariant-loop-piece
invariant-loop-piece l =
    (chunks_size l.piece-iterator ≡ 64) × (string_bytes l.line ++ encode_lower (chunks_rest l.piece-iterator) ≡ string_bytes l.fn.line ++ encode_lower l.fn.bytes)
