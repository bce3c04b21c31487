use Rattle.std.proofs.Common.{◌≡◌, ℕ, List, [], Option, Some, Ok, sym, ap, subst, ◌∙◌}
use Rattle.std.specs.String.{string_bytes}
use Rattle.std.proofs.lemmas.List.{append-nil}
use Rattle.zk_listing.specs.Reading.{inside, behind, Continues}
use Rattle.zk_listing.proofs.quoting.inside.Goals as goal

pub returns : goal.returns
returns c =
    let rest = c.spelled_char.new.input.now in
    let text = string_bytes c.loop-text.text in
    let closes : inside c.loop-text.input.now ≡ Some ([], rest) = subst (λ (o : Option ℕ). Continues (Ok o) rest c.loop-text.input.now) c.in_default.is c.in_ok-c.ensures in
    sym c.loop-text.invariant ∙ ap (behind text) closes ∙ ap (λ (xs : List ℕ). Some (xs, rest)) (append-nil text)
