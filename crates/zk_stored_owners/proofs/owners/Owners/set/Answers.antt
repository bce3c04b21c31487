use Rattle.std.proofs.Common.{w64, of_z, to_z, FitsSigned, rules, ap, sym, ◌∙◌}
use Rattle.std.proofs.lemmas.Int.{to_z-of_z}
use Rattle.std.specs.FinMap as finite
use Rattle.std.specs.String.{string_bytes}
use Rattle.zk_tree.proofs.Kept.{map_inserted}
use Rattle.zk_mend.specs.Owning.{with_owner}
use Rattle.zk_stored_owners.proofs.owners.Owners.set.Goals as goal

pub returns-in_default : goal.returns-in_default
returns-in_default c = c.forget.ensures ∙ ap (with_owner c.args.self.now c.args.path.now) (sym c.in_default.is)

pub returns : goal.returns
returns c =
    let owner = c.in-Some.owner in
    let fits : FitsSigned w64 owner = search rules in
    let bytes = string_bytes c.in_ok-text.text in
    map_inserted bytes c.self.inside.map c.insert.new.self (to_z w64 (of_z w64 owner)) c.in_ok-insert.ensures.updates
    ∙ ap (λ m. finite.insert m bytes (to_z w64 (of_z w64 owner))) c.self.view_is
    ∙ ap (finite.insert c.args.self.now bytes) (to_z-of_z w64 owner fits)
    ∙ ap (λ text. finite.insert c.args.self.now text owner) c.in_ok-text.ensures.ok
    ∙ ap (with_owner c.args.self.now c.args.path.now) (sym c.in-Some.is)
