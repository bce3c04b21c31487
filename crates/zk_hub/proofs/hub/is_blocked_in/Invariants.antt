-- No request so far is a read of the connection.
use Rattle.std.proofs.Common.{◌≡◌, drop}
use Rattle.zk_hub.specs.Hubs.{is_blocked}
use Rattle.zk_hub.proofs.hub.is_blocked_in.Given as goal

abbrev pub invariant-loop-request : goal.invariant-loop-request
invariant-loop-request g l = is_blocked l.connection l.fn.requests ≡ is_blocked l.connection (drop l.request-index l.fn.requests)
