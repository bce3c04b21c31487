use Rattle.std.proofs.Common.{◌≡◌, ◌+◌, Err, refl, rules, arith}
use Rattle.std.proofs.lemmas.Grind.{common_steps}
use Rattle.zk_client_port.proofs.Breaking.{breaks_after}
use Rattle.zk_client_port.proofs.Frames.{ServedSoFar, if_err, one_more}
use Rattle.zk_client_port.specs.Execution.{served}
use Rattle.zk_client_port.specs.Serving.{AllTaken, BreaksFrames, Unserved, Untaken}
use Rattle.zk_client_port.specs.declared.fault.ServeFault.TheVariants as faults
use Rattle.zk_model.specs.Ensembles.{profile_by}
use Rattle.zk_client_port.proofs.turn.serve_frames.Goals as goal

pub frames-preserved : goal.frames-preserved
frames-preserved g c = record {
  so_far =
      one_more (profile_by (g.Q.Quorums.passes c.args.quorums.now)).setting c.args.moment c.frames.count c.in-Some.taken (served c.args.host.now c.args.hub.now c.args.connection.now) (served c.frames.host c.frames.hub c.frames.connection)
      (served c.serve_taken.new.host c.serve_taken.new.hub c.serve_taken.new.connection) c.args.admission.now c.frames.admission c.serve_taken.new.admission c.frames.invariant.so_far
      (record { may = search rules; connection = c.take.new.self; takes = search rules; serves = c.in_ok-serve_taken.ensures.serves });
  kept = search rules;
}

pub returns-in_ok-serve_taken-clause-serves : goal.returns-in_ok-serve_taken-clause-serves
returns-in_ok-serve_taken-clause-serves g c =
    let all : ServedSoFar (profile_by (g.Q.Quorums.passes c.args.quorums.now)).setting c.args.moment (c.frames.count + 1) (served c.args.host.now c.args.hub.now c.args.connection.now) c.args.admission.now
    (served c.serve_taken.new.host c.serve_taken.new.hub c.serve_taken.new.connection) c.serve_taken.new.admission =
    one_more (profile_by (g.Q.Quorums.passes c.args.quorums.now)).setting c.args.moment c.frames.count c.in-Some.taken (served c.args.host.now c.args.hub.now c.args.connection.now) (served c.frames.host c.frames.hub c.frames.connection)
    (served c.serve_taken.new.host c.serve_taken.new.hub c.serve_taken.new.connection) c.args.admission.now c.frames.admission c.serve_taken.new.admission c.frames.invariant.so_far
    (record { may = search rules; connection = c.take.new.self; takes = search rules; serves = c.in_ok-serve_taken.ensures.serves }) in
    record { frames = all.frames; serves = all.serves; idle = AllTaken (grind (arith, common_steps, all.many)) }

pub returns-in_err-taken-clause-breaks : goal.returns-in_err-taken-clause-breaks
returns-in_err-taken-clause-breaks g c =
    let setting = (profile_by (g.Q.Quorums.passes c.args.quorums.now)).setting in
    let old = served c.args.host.now c.args.hub.now c.args.connection.now in
    let between = served c.frames.host c.frames.hub c.frames.connection in
    let new = served c.frames.host c.frames.hub c.take.new.self in
    let is : c.from_residual.result ≡ Err faults.Connection = search rules in
    if_err c.from_residual.result (BreaksFrames setting c.args.moment old c.args.admission.now new c.frames.admission) faults.Connection is
    (breaks_after setting c.args.moment c.frames.count old between new c.args.admission.now c.frames.admission c.frames.admission faults.Connection c.frames.invariant.so_far
    (Untaken refl refl refl refl))

pub returns-in_err-serve_taken-clause-breaks : goal.returns-in_err-serve_taken-clause-breaks
returns-in_err-serve_taken-clause-breaks g c =
    let setting = (profile_by (g.Q.Quorums.passes c.args.quorums.now)).setting in
    let old = served c.args.host.now c.args.hub.now c.args.connection.now in
    let between = served c.frames.host c.frames.hub c.frames.connection in
    let new = served c.serve_taken.new.host c.serve_taken.new.hub c.serve_taken.new.connection in
    let fault = c.in_err-serve_taken.field-0.0 in
    let is : c.from_residual-in_err-serve_taken.result ≡ Err fault = search rules in
    if_err c.from_residual-in_err-serve_taken.result (BreaksFrames setting c.args.moment old c.args.admission.now new c.serve_taken.new.admission) fault is
    (breaks_after setting c.args.moment c.frames.count old between new c.args.admission.now c.frames.admission c.serve_taken.new.admission fault c.frames.invariant.so_far
    (Unserved c.in-Some.taken (search rules) c.take.new.self (search rules) c.in_err-serve_taken.ensures.breaks))
