use Rattle.std.proofs.Common.{◌≡◌, take}
use Rattle.zk_client_session.proofs.identities.Identities.copy.Given as goal

abbrev pub invariant-loop-id : goal.invariant-loop-id
invariant-loop-id l = l.ids.items ≡ take l.id-index l.id-items
