use Rattle.std.proofs.Common.{◌≡◌, ◌<◌, ◌≤◌, length, get_or, true, false, subst, sym, ap, ◌∙◌, arith}
use Rattle.std.proofs.lemmas.Bool.{false≢true}
use Rattle.zk_debug.specs.Walks.{Walk}
use Rattle.zk_debug.proofs.Steps.{walked_on}
use Rattle.zk_debug.proofs.walk.Walk.go_on.Goals as goal

pub invariant_of-self : goal.invariant_of-self
invariant_of-self c = record { founded = c.self.invariant.founded; within = subst (λ (w : Walk). c.args.began ≤ length w.txns) (sym c.self.view_is) c.requires.began; stands = λ e. absurd (false≢true (sym e)) }

pub invariant_of-self-2 : goal.invariant_of-self-2
invariant_of-self-2 c =
    let running : c.self.inside.failed ≡ false = ap (λ (w : Walk). w.failed) c.self.view_is ∙ c.requires.running in
    let below : c.self.inside.place < length c.self.inside.txns = subst (λ (w : Walk). w.place < length w.txns) (sym c.self.view_is) c.requires.above in
    let txn = c.index-as_slice-self.result in
    let is : txn ≡ get_or c.self.inside.txns c.self.inside.place txn = c.index-as_slice-self.is ∙ ap (λ ts. get_or ts c.self.inside.place txn) c.as_slice.ensures in
    record { founded = c.self.invariant.founded; within = omega arith; stands = λ _. walked_on c.self.inside.base.state c.self.inside.txns c.self.inside.place c.self.inside.machine c.take_step.new.machine c.self.inside.steps.items c.take_step.new.steps.items txn (c.self.invariant.stands running) below is c.in-Ok.ensures }
