use Rattle.std.proofs.Common.{◌≡◌, [], List, ℕ, refl, sym, subst, ◌∙◌, inl, inr}
use Rattle.zk_listing.specs.Lines.{lines_of}
use Rattle.zk_listing.proofs.ReportLineLaws.{is_ended}
use Rattle.zk_run_script.specs.Scripts.{BeginsWithNone}
use Rattle.zk_run_script.proofs.script.run_script.Goals as goal

pub returns-then-is_empty : goal.returns-then-is_empty
unfolding lines_of
returns-then-is_empty c =
    let end : c.args.script.now ≡ [] = is_ended c.args.script.now (sym c.is_empty.ensures ∙ c.if-is_empty.true) in
    let none : BeginsWithNone (lines_of []) = tt in
    inr (subst (λ (t : List ℕ). BeginsWithNone (lines_of t)) (sym end) none, refl, refl)
