use Rattle.std.proofs.Common.{◌≡◌, ◌∙◌, inr, rules, arith, ap}
use Rattle.std.proofs.lemmas.Grind.{common_steps}
use Rattle.zk_client_port.proofs.Frames.{on_err}
use Rattle.zk_client_port.proofs.Others.{others_read, others_ready}
use Rattle.zk_client_port.proofs.Reading.{fewer_read, fewer_ready, none_taken, reads_more}
use Rattle.zk_client_port.specs.Execution.{served}
use Rattle.zk_client_port.specs.Flushing.{LosesReplies}
use Rattle.zk_hub.specs.Hubs.{without_connection, without_read, without_ready}
use Rattle.zk_client_port.proofs.turn.flush.Goals as goal

pub returns-in_default-clause-flushed : goal.returns-in_default-clause-flushed
returns-in_default-clause-flushed g c = record {
  reads = c.reads.invariant.so_far.reads;
  between = served c.reads.host c.reads.hub c.reads.connection;
  makes = c.reads.invariant.so_far.makes;
  replies = grind (arith, common_steps, none_taken);
  none = grind (arith, common_steps, none_taken);
}

pub reads-preserved : goal.reads-preserved
reads-preserved g c = record {
  so_far =
      reads_more c.args.admission.now c.args.server c.args.connection.now.number c.in-Some.expected (served c.args.host.now c.args.hub.now c.args.connection.now) (served c.reads.host c.reads.hub c.reads.connection)
      (served c.read.new.host c.take_read.new.self c.read.new.connection) c.reads.invariant.so_far
      (record { next = search rules; taken = search rules; reads = search rules; server_kept = search rules });
  fewer = grind (arith, common_steps, fewer_read, fewer_ready);
  kept = search rules;
  others =
      (let number = c.args.connection.now.number in
      let ready : c.take_replies.new.self ≡ without_ready number c.reads.hub = search rules in
      let taken : c.take_read.new.self ≡ without_read number c.take_replies.new.self = search rules in
      ap (without_connection number) taken ∙ others_read number c.take_replies.new.self ∙ ap (without_connection number) ready ∙ others_ready number c.reads.hub ∙ c.reads.invariant.others);
}

pub returns-in_err-write_replies-clause-loses : goal.returns-in_err-write_replies-clause-loses
returns-in_err-write_replies-clause-loses g c =
    let number = c.args.connection.now.number in
    let ready : c.take_replies.new.self ≡ without_ready number c.reads.hub = search rules in
    let loses : LosesReplies (served c.args.host.now c.args.hub.now c.args.connection.now) (served c.reads.host c.take_replies.new.self c.write_replies.new.connection) = record {
      server_kept = c.reads.invariant.kept;
      others = inr (ap (without_connection number) ready ∙ others_ready number c.reads.hub ∙ c.reads.invariant.others);
    } in
    on_err _ loses

pub returns-in_err-read-clause-loses : goal.returns-in_err-read-clause-loses
returns-in_err-read-clause-loses g c =
    let number = c.args.connection.now.number in
    let ready : c.take_replies.new.self ≡ without_ready number c.reads.hub = search rules in
    let taken : c.take_read.new.self ≡ without_read number c.take_replies.new.self = search rules in
    let loses : LosesReplies (served c.args.host.now c.args.hub.now c.args.connection.now) (served c.read.new.host c.take_read.new.self c.read.new.connection) = record {
      server_kept = search rules;
      others = inr (ap (without_connection number) taken ∙ others_read number c.take_replies.new.self ∙ ap (without_connection number) ready ∙ others_ready number c.reads.hub ∙ c.reads.invariant.others);
    } in
    on_err _ loses
