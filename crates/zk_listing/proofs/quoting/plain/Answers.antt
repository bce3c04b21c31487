use Rattle.std.proofs.Common.{◌≡◌, ℕ, List, drop, take, sym, subst, ap, ◌∙◌}
use Rattle.std.specs.List.{position_or_len}
use Rattle.std.specs.Str.{IsUtf8, IsCharBoundary}
use Rattle.zk_format.specs.Spelling.{is_escaped}
use Rattle.zk_listing.specs.Reading.{behind, inside}
use Rattle.zk_listing.proofs.InsideQuotes.{inside_plain_front, plain_boundary}
use Rattle.zk_listing.proofs.quoting.plain.Goals as goal

pub split_at-requires : goal.split_at-requires
split_at-requires c =
    let text = c.args.input.now.now in
    let len : position_or_len is_escaped text ≡ c.plain_len.result = sym (ap (λ (bs : List ℕ). position_or_len is_escaped bs) c.as_bytes.ensures.value) ∙ sym c.plain_len.ensures in
    let utf8 : IsUtf8 text = subst IsUtf8 c.as_bytes.ensures.value c.as_bytes.ensures.utf8 in
    subst (IsCharBoundary text) len (plain_boundary text utf8)

pub returns : goal.returns
returns c =
    let text = c.args.input.now.now in
    let len : c.plain_len.result ≡ position_or_len is_escaped text = c.plain_len.ensures ∙ ap (λ (bs : List ℕ). position_or_len is_escaped bs) c.as_bytes.ensures.value in
    rw (c.split_at.ensures.front, c.split_at.ensures.back, len) (inside_plain_front text)
