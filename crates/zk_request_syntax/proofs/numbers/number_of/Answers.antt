use Rattle.std.proofs.Common.{◌≡◌, ℕ, List, sym, ap, ◌∙◌, true, false}
use Rattle.zk_request_syntax.specs.Reading.{begins_plainly}
use Rattle.zk_request_syntax.proofs.NumberLaws.{number_from-not_plain, number_from-parsed}
use Rattle.zk_request_syntax.proofs.numbers.number_of.Goals as goal

pub returns-then-not-begins_plainly : goal.returns-then-not-begins_plainly
returns-then-not-begins_plainly c =
    let text = c.args.field.now in
    let plain : begins_plainly text ≡ false = sym (ap (λ (bs : List ℕ). begins_plainly bs) c.as_bytes.ensures.value) ∙ sym c.begins_plainly.ensures ∙ c.if-not-begins_plainly.true in
    sym (number_from-not_plain text plain)

pub returns : goal.returns
returns c =
    let text = c.args.field.now in
    let plain : begins_plainly text ≡ true = sym (ap (λ (bs : List ℕ). begins_plainly bs) c.as_bytes.ensures.value) ∙ sym c.begins_plainly.ensures ∙ c.if-not-begins_plainly.false in
    c.ok.ensures.value ∙ number_from-parsed text c.parse.result plain c.parse.ensures.value.0
