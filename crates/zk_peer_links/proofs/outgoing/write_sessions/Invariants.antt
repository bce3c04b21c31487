-- The notices so far are written.
use Rattle.std.proofs.Common.{take}
use Rattle.zk_peer_links.specs.Outputs.{Appends, sessions_for}
use Rattle.zk_peer_links.proofs.outgoing.write_sessions.Given as goal

abbrev pub invariant-loop-index : goal.invariant-loop-index
invariant-loop-index l = Appends (sessions_for l.peer (take l.index l.sessions)) l.fn.out.items l.out.items
