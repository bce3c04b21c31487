use Rattle.std.proofs.Common.{ap, ◌∙◌}
use Rattle.std.specs.FinMap as finite
use Rattle.zk_fold.proofs.Timeouts.{timeouts_removed}
use Rattle.zk_fold.proofs.sessions.Sessions.close.Goals as goal

pub returns : goal.returns
returns c =
    timeouts_removed c.args.session c.self.inside.timeouts c.remove.new.self c.remove.ensures.updates ∙ ap (λ m. finite.remove m c.args.session) c.self.view_is
