use Rattle.std.proofs.Common.{◌≡◌, ◌-◌, suc, length, Some, sym, ap, ◌∙◌, arith}
use Rattle.std.specs.Prelude.{slice_get}
use Rattle.std.proofs.lemmas.Option.{slice_get_within}
use Rattle.zk_debug.specs.Debugging.{result_at, changes_at}
use Rattle.zk_debug.specs.Walks.{Walk, IsWalkTo}
use Rattle.zk_debug.proofs.Steps.{last_result, last_changes}
use Rattle.zk_debug.proofs.walk.Walk.last.Goals as goal
use Rattle.zk_debug.proofs.walk.Walk.last.Goals.{After-index-as_slice-self}

stands : (c : After-index-as_slice-self) → IsWalkTo c.self.inside.base.state c.self.inside.txns c.self.inside.place c.self.inside.machine c.self.inside.steps.items
stands c = c.self.invariant.stands (ap (λ (w : Walk). w.failed) c.self.view_is ∙ c.requires.running)

found : (c : After-index-as_slice-self) → slice_get c.self.inside.steps.items (c.self.inside.place - 1) ≡ Some c.in-Some.applied.now
found c =
    ap (λ n. slice_get c.self.inside.steps.items (n - 1)) (sym (stands c).counted)
    ∙ ap (λ l. slice_get l (length l - 1)) (sym c.deref.ensures.value)
    ∙ sym c.in-Some.ensures.value

behind : (c : After-index-as_slice-self) → c.self.inside.place ≡ suc (c.self.inside.place - 1)
behind c = omega (arith, slice_get_within c.self.inside.steps.items (c.self.inside.place - 1) c.in-Some.applied.now (found c), (stands c).counted)

pub returns-clause-result : goal.returns-clause-result
returns-clause-result c =
    last_result c.self.inside.base.state c.self.inside.txns c.self.inside.place (c.self.inside.place - 1) c.in-Some.applied.now ((stands c).kept _ _ (found c)) (behind c) ∙ ap (λ (w : Walk). result_at w.base w.txns w.place) c.self.view_is

pub returns-clause-changes : goal.returns-clause-changes
returns-clause-changes c =
    last_changes c.self.inside.base.state c.self.inside.txns c.self.inside.place (c.self.inside.place - 1) c.in-Some.applied.now ((stands c).kept _ _ (found c)) (behind c) ∙ ap (λ (w : Walk). changes_at w.base w.txns w.place) c.self.view_is
