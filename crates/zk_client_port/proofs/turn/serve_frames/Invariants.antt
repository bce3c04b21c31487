-- The frames so far are executed.
use Rattle.zk_client_port.proofs.Frames.{ServedSoFar}
use Rattle.zk_client_port.specs.Execution.{served}
use Rattle.zk_client_port.specs.Serving.{KeepsTree}
use Rattle.zk_model.specs.Ensembles.{profile_by}
use Rattle.zk_client_port.proofs.turn.serve_frames.Given as goal

abbrev pub invariant-frames : goal.invariant-frames
invariant-frames g l = record {
  so_far : ServedSoFar (profile_by (g.Q.Quorums.passes l.quorums)).setting l.moment l.count (served l.fn.host l.fn.hub l.fn.connection) l.fn.admission (served l.host l.hub l.connection) l.admission;
  kept : KeepsTree l.fn.host l.host;
}
