use Rattle.std.proofs.Common.{cond, None, sym, ap, ◌∙◌}
use Rattle.std.specs.FinMap as finite
use Rattle.zk_replay.proofs.Owned.{forgotten}
use Rattle.zk_replay.specs.Owning.{creates}
use Rattle.zk_stored_owners.proofs.owners.Owners.forget_created.Goals as goal

pub returns-in-Create : goal.returns-in-Create
returns-in-Create c = λ q.
    forgotten c.args.self.now c.forget.new.self c.in-Create.path q (c.forget.ensures ∙ ap (finite.remove c.args.self.now) c.text.ensures.text)
    ∙ ap (λ op. cond (creates op q) None (finite.get c.args.self.now q)) (sym c.in-Create.is)

pub returns-in-CreateOld : goal.returns-in-CreateOld
returns-in-CreateOld c = λ q.
    forgotten c.args.self.now c.forget-in-CreateOld.new.self c.in-CreateOld.path q (c.forget-in-CreateOld.ensures ∙ ap (finite.remove c.args.self.now) c.text-in-CreateOld.ensures.text)
    ∙ ap (λ op. cond (creates op q) None (finite.get c.args.self.now q)) (sym c.in-CreateOld.is)
