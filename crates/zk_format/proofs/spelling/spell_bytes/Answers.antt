use Rattle.std.proofs.Common.{◌≡◌, [], ◌++◌, ◌∙◌, ap, sym, append_assoc, append-nil}
use Rattle.std.proofs.lemmas.List.{nil_from_length}
use Rattle.std.specs.Slice.Iter.{chunks_rest}
use Rattle.std.specs.String.{string_bytes}
use Rattle.hex.specs.Hex.{encode_with, encode_lower}
use Rattle.zk_format.proofs.HexBytes.{digits-append}
use Rattle.zk_format.proofs.spelling.spell_bytes.Goals as goal

pub loop-piece-preserved : goal.loop-piece-preserved
loop-piece-preserved c =
    let piece = c.in-Some.piece.now in
    let rest = chunks_rest c.next.new.self in
    let so_far = c.loop-piece.invariant in
    let steps = c.in-Some.ensures.steps in
    let whole : encode_lower (chunks_rest c.loop-piece.piece-iterator) ≡ encode_lower piece ++ encode_lower rest = ap encode_lower steps.1.0 ∙ digits-append piece rest in
    (steps.0 ∙ so_far.0, rw c.in_ok-push_piece.ensures.appended (append_assoc (string_bytes c.loop-piece.line) (encode_lower piece) (encode_lower rest) ∙ rw whole at so_far.1))

pub returns : goal.returns
unfolding encode_with
returns c =
    let none : chunks_rest c.loop-piece.piece-iterator ≡ [] = nil_from_length _ c.in-None.ensures.steps.1.0 in
    sym (append-nil (string_bytes c.loop-piece.line)) ∙ rw none at c.loop-piece.invariant.1
