-- The messages so far are written.
use Rattle.std.proofs.Common.{take}
use Rattle.zk_peer_links.specs.Outputs.{Appends, those_for}
use Rattle.zk_peer_links.proofs.outgoing.write_messages.Given as goal

abbrev pub invariant-loop-index : goal.invariant-loop-index
invariant-loop-index l = Appends (those_for l.peer (take l.index l.messages)) l.fn.out.items l.out.items
