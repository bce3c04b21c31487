use Rattle.zk_server.proofs.Turning.{notes_more}
use Rattle.zk_server.proofs.turn.note_all.Goals as goal

pub loop-index-preserved : goal.loop-index-preserved
loop-index-preserved c =
    notes_more c.args.arrivals.now c.loop-index.index c.index-arrivals-index.result c.args.election.now c.loop-index.election c.note.new.self c.loop-index-test.true
    c.index-arrivals-index.is c.loop-index.invariant c.in_ok-note.ensures
