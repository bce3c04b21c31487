-- Some of the messages that may arrive have arrived.
use Rattle.zk_front.proofs.Running.{Arriving}
use Rattle.zk_front.proofs.ensemble_servers.Servers.deliver.Given as goal

abbrev pub invariant-messages : goal.invariant-messages
invariant-messages l = Arriving l.fn.self l.left l.self

abbrev pub decreases-messages : goal.decreases-messages
decreases-messages l = l.left
