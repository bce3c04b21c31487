use Rattle.std.proofs.Common.{◌∙◌, ap}
use Rattle.zk_hub.proofs.NoReads.{none_completed}
use Rattle.zk_hub.specs.Hubs.{has_read}
use Rattle.zk_hub.proofs.hub.Hub.complete.Goals as goal

pub invariant_of-self : goal.invariant_of-self
invariant_of-self g c = λ none. ap has_read c.complete_in.ensures.completed ∙ none_completed c.args.tag c.args.outcome c.self.inside.requests.items (c.self.invariant none)
