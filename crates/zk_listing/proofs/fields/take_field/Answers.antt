use Rattle.std.proofs.Common.{◌≡◌, ℕ, List, drop, take, sym, subst, ap, ◌∙◌}
use Rattle.std.specs.List.{position_or_len}
use Rattle.std.specs.Str.{IsUtf8, IsCharBoundary}
use Rattle.zk_listing.specs.Reading.{is_end}
use Rattle.zk_listing.proofs.FieldLaws.{front_of-take, back_of-drop, field_boundary}
use Rattle.zk_listing.proofs.fields.take_field.Goals as goal

pub returns-then-end-eq0 : goal.returns-then-end-eq0
returns-then-end-eq0 c =
    let text = c.args.input.now.now in
    let len : position_or_len is_end text ≡ 0 = sym (ap (λ (bs : List ℕ). position_or_len is_end bs) c.as_bytes.ensures.value) ∙ sym c.field_len-end.ensures ∙ c.if-end-eq0.true in
    front_of-take text ∙ ap (λ n. take n text) len

pub split_at-requires : goal.split_at-requires
split_at-requires c =
    let text = c.args.input.now.now in
    let len : position_or_len is_end text ≡ c.field_len-end.result = sym (ap (λ (bs : List ℕ). position_or_len is_end bs) c.as_bytes.ensures.value) ∙ sym c.field_len-end.ensures in
    let utf8 : IsUtf8 text = subst IsUtf8 c.as_bytes.ensures.value c.as_bytes.ensures.utf8 in
    subst (IsCharBoundary text) len (field_boundary text utf8)

pub returns : goal.returns
returns c =
    let text = c.args.input.now.now in
    let len : c.field_len-end.result ≡ position_or_len is_end text = c.field_len-end.ensures ∙ ap (λ (bs : List ℕ). position_or_len is_end bs) c.as_bytes.ensures.value in (
      c.split_at.ensures.front ∙ ap (λ n. take n text) len ∙ sym (front_of-take text),
      c.split_at.ensures.back ∙ ap (λ n. drop n text) len ∙ sym (back_of-drop text),
    )
