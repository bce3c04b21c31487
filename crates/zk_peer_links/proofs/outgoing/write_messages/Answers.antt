use Rattle.zk_peer_links.proofs.Writing.{appends_more}
use Rattle.zk_peer_links.proofs.outgoing.write_messages.Goals as goal

pub loop-index-preserved : goal.loop-index-preserved
loop-index-preserved c =
    appends_more c.args.peer c.args.messages.now c.args.out.now.items c.loop-index.index c.loop-index.out.items c.write_at.new.out.items c.loop-index.invariant c.in_ok-write_at.ensures
