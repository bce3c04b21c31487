use Rattle.std.proofs.Common.{◌∙◌, ap}
use Rattle.zk_hub.proofs.NoReads.{none_read}
use Rattle.zk_hub.specs.Hubs.{has_read}
use Rattle.zk_hub.proofs.hub.Hub.take_read.Goals as goal

pub invariant_of-self : goal.invariant_of-self
invariant_of-self g c = λ none. ap has_read c.take_read_in-expected.ensures.rest ∙ none_read c.args.connection c.self.inside.requests.items (c.self.invariant none)
