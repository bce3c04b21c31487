use Rattle.std.proofs.Common.{◌≡◌, sym, ◌∙◌}
use Rattle.left_right.specs.Sides as sides
use Rattle.zk_views.proofs.Outcomes.{refused_by}
use Rattle.zk_views.proofs.Steps.{enters}
use Rattle.zk_views.proofs.reader.read_by.Goals as goal

pub enter_as-requires : goal.enter_as-requires
enter_as-requires c x = enters _ _ x

pub returns-in-Ok-clause-refused : goal.returns-in-Ok-clause-refused
returns-in-Ok-clause-refused c =
    let same : sides.view c.leave.result.place ≡ c.get.result.now = c.leave.ensures.1 ∙ (c.in-Ok.ensures.1.1 ∙ sym c.get.ensures) in
    refused_by _ c.get.result.now (sides.view c.leave.result.place) c.args.pass.now c.tell-answer.result same c.tell-answer.ensures.refused
