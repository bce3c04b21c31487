use Rattle.std.proofs.Common.{◌∙◌, ap}
use Rattle.zk_hub.proofs.NoReads.{none_ready}
use Rattle.zk_hub.proofs.Requests.{all_kept}
use Rattle.zk_hub.specs.Hubs.{has_read, without_ready}
use Rattle.zk_hub.proofs.hub.Hub.take_replies.Goals as goal

pub invariant_of-self-2 : goal.invariant_of-self-2
invariant_of-self-2 g c = λ none.
    ap has_read (c.in_ok-replies.ensures.rest ∙ all_kept c.args.connection c.replace-requests.result.items ∙ ap (λ it. without_ready c.args.connection it.items) c.replace-requests.ensures.value)
    ∙ none_ready c.args.connection c.self.inside.requests.items (c.self.invariant none)
