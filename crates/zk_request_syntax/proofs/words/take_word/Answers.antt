use Rattle.std.proofs.Common.{◌≡◌, ℕ, List, drop, take, sym, subst, ap, ◌∙◌}
use Rattle.std.specs.List.{position_or_len}
use Rattle.std.specs.Str.{IsUtf8, IsCharBoundary}
use Rattle.zk_listing.specs.Reading.{is_end}
use Rattle.zk_listing.proofs.FieldLaws.{front_of-take, back_of-drop, field_boundary}
use Rattle.zk_request_syntax.proofs.words.take_word.Goals as goal

pub split_at-requires : goal.split_at-requires
split_at-requires c =
    let text = c.args.input.now.now in
    let len : position_or_len is_end text ≡ c.word_len.result = sym (ap (λ (bs : List ℕ). position_or_len is_end bs) c.as_bytes.ensures.value) ∙ sym c.word_len.ensures in
    let utf8 : IsUtf8 text = subst IsUtf8 c.as_bytes.ensures.value c.as_bytes.ensures.utf8 in
    subst (IsCharBoundary text) len (field_boundary text utf8)

pub returns-clause-word : goal.returns-clause-word
returns-clause-word c =
    let text = c.args.input.now.now in
    let len : c.word_len.result ≡ position_or_len is_end text = c.word_len.ensures ∙ ap (λ (bs : List ℕ). position_or_len is_end bs) c.as_bytes.ensures.value in
    c.split_at.ensures.front ∙ ap (λ n. take n text) len ∙ sym (front_of-take text)

pub returns-clause-rest : goal.returns-clause-rest
returns-clause-rest c =
    let text = c.args.input.now.now in
    let len : c.word_len.result ≡ position_or_len is_end text = c.word_len.ensures ∙ ap (λ (bs : List ℕ). position_or_len is_end bs) c.as_bytes.ensures.value in
    c.split_at.ensures.back ∙ ap (λ n. drop n text) len ∙ sym (back_of-drop text)
