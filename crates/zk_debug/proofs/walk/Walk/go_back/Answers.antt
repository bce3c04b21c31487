use Rattle.std.proofs.Common.{◌≡◌, ap, ◌∙◌, arith, false}
use Rattle.zk_debug.specs.Walks.{Walk}
use Rattle.zk_debug.proofs.Steps.{restores_state, walked_back}
use Rattle.zk_debug.proofs.walk.Walk.go_back.Goals as goal

pub undo-requires : goal.undo-requires
undo-requires c =
    let running : c.self.inside.failed ≡ false = ap (λ (w : Walk). w.failed) c.self.view_is ∙ c.requires.running in
    λ _ _. restores_state c.self.inside.base.state c.self.inside.txns c.self.inside.place c.self.inside.machine c.self.inside.steps.items c.pop.new.self.items c.in-Some.applied (c.self.invariant.stands running) c.in-Some.ensures.items

pub invariant_of-self-2 : goal.invariant_of-self-2
invariant_of-self-2 c =
    let running : c.self.inside.failed ≡ false = ap (λ (w : Walk). w.failed) c.self.view_is ∙ c.requires.running in
    let e = c.in-Ok.ensures in
    let within = c.self.invariant.within in
    record { founded = c.self.invariant.founded; within = omega arith; stands = λ _. walked_back c.self.inside.base.state c.self.inside.txns c.self.inside.place c.self.inside.machine c.self.inside.steps.items c.pop.new.self.items c.in-Some.applied (c.self.invariant.stands running) c.in-Some.ensures.items c.undo.new.self e.restored e.counted e.ran.1 }
