use Rattle.std.proofs.Common.{◌≡◌, ℤ, w64, to_z, of_z, subst, ◌∙◌, ap}
use Rattle.std.proofs.lemmas.Int.{to_z-of_z}
use Rattle.zk_front.specs.Locals.{IsToldAll, undelivered_events}
use Rattle.zk_front.proofs.Telling.{told_all}
use Rattle.zk_front.proofs.local_state.LocalState.tell_with.Goals as goal

pub returns-in-Ok-clause-tells : goal.returns-in-Ok-clause-tells
returns-in-Ok-clause-tells c =
    let same : to_z w64 (of_z w64 c.args.session) ≡ c.args.session = to_z-of_z w64 c.args.session c.ranges.session in
    told_all c.args.self.now c.args.session c.args.reply c.in-Ok.events c.news.new.self (c.in-Ok.ensures.ok ∙ ap (λ (s : ℤ). undelivered_events c.args.self.now s) same)
    (subst (λ (s : ℤ). IsToldAll c.args.self.now s c.news.new.self) same c.in-Ok.ensures.told)
