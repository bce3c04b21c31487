use Rattle.std.proofs.Common.{◌∙◌, sym, ap}
use Rattle.zk_hub.proofs.NoReads.{none_blocked}
use Rattle.zk_hub.specs.Hubs.{is_blocked}
use Rattle.zk_hub.proofs.hub.Hub.is_blocked.Goals as goal

pub returns-else-self : goal.returns-else-self
returns-else-self g c = c.if-self.false ∙ sym (none_blocked c.args.connection c.self.inside.requests.items (c.self.invariant c.if-self.false)) ∙ ap (is_blocked c.args.connection) c.self.view_is
