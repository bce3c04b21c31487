use Rattle.std.proofs.Common.{◌≡◌, ℕ, List, sym, ap, ◌∙◌, true, false}
use Rattle.std.specs.Int.{w64}
use Rattle.zk_listing.specs.Reading.{is_plain}
use Rattle.zk_listing.proofs.DecimalLaws.{narrow64, int_from-not_plain, int_from-parsed}
use Rattle.zk_listing.proofs.fields.long_of.Goals as goal

pub returns-then-not-is_plain : goal.returns-then-not-is_plain
returns-then-not-is_plain c =
    let text = c.args.field.now in
    let plain : is_plain text ≡ false = sym (ap (λ (bs : List ℕ). is_plain bs) c.as_bytes.ensures.value) ∙ sym c.is_plain.ensures ∙ c.if-not-is_plain.true in
    sym (int_from-not_plain w64 narrow64 text plain)

pub returns : goal.returns
returns c =
    let text = c.args.field.now in
    let plain : is_plain text ≡ true = sym (ap (λ (bs : List ℕ). is_plain bs) c.as_bytes.ensures.value) ∙ sym c.is_plain.ensures ∙ c.if-not-is_plain.false in
    c.ok.ensures.value ∙ int_from-parsed w64 narrow64 text c.parse.result plain c.parse.ensures.value.0
