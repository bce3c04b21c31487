use Rattle.std.proofs.Common.{◌≡◌, w32, to_z, of_z, rules, ap, ◌∙◌}
use Rattle.std.specs.FinMap as finite
use Rattle.zk_fold.proofs.Timeouts.{timeouts_inserted}
use Rattle.zk_fold.proofs.sessions.Sessions.open.Goals as goal

pub returns-clause-opened : goal.returns-clause-opened
returns-clause-opened c =
    let timeout : to_z w32 (of_z w32 c.args.timeout) ≡ c.args.timeout = search rules in
    timeouts_inserted c.args.session c.self.inside.timeouts c.insert.new.self (to_z w32 (of_z w32 c.args.timeout)) c.in_ok-insert.ensures.updates
    ∙ ap (λ m. finite.insert m c.args.session (to_z w32 (of_z w32 c.args.timeout))) c.self.view_is
    ∙ ap (finite.insert c.args.self.now c.args.session) timeout
