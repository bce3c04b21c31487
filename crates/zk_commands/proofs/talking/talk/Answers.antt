use Rattle.std.proofs.Common.{◌∙◌, Result, Ok, Err, refl, sym, ap, subst, arith}
use Rattle.std.proofs.lemmas.Result.{err_from_is_err_and}
use Rattle.zk_records.specs.Sinks.{writer_of}
use Rattle.zk_log.specs.Devices.{reader_of}
use Rattle.zk_commands.specs.declared.session.TalkFault.{TalkFault}
use Rattle.zk_commands.specs.declared.session.Turn.{Turn}
use Rattle.zk_commands.specs.declared.session.Turn.TheVariants as turns
use Rattle.zk_commands.specs.HearingLines.{ReadsSo}
use Rattle.zk_commands.specs.Talking.{TakesTurn, Talked, WritesSo}
use Rattle.zk_commands.proofs.TalkLaws.{none_yet, one_more_turn, reads_then, talked, writes_then}
use Rattle.zk_commands.proofs.talking.talk.Goals as goal

pub turns-init : goal.turns-init
turns-init g c = (none_yet c.args.prompts c.args.session.now (g.L.Read.remaining (reader_of c.args.lines.now)) (g.O.Write.contents (writer_of c.args.output.now)), refl, refl)

pub turns-preserved : goal.turns-preserved
turns-preserved g c =
    let left = g.L.Read.remaining (reader_of c.args.lines.now) in
    let middle = g.L.Read.remaining (reader_of c.turns.lines) in
    let left' = g.L.Read.remaining (reader_of c.take_turn.new.lines) in
    let before = g.O.Write.contents (writer_of c.args.output.now) in
    let mid = g.O.Write.contents (writer_of c.turns.output) in
    let after = g.O.Write.contents (writer_of c.take_turn.new.output) in
    let turn : TakesTurn c.args.prompts c.turns.session middle left' mid after (Ok turns.GoesOn) c.take_turn.new.session =
    subst (λ (t : Turn). TakesTurn c.args.prompts c.turns.session middle left' mid after (Ok t) c.take_turn.new.session) c.in-GoesOn.is c.in_ok-take_turn.ensures.turn in (
      one_more_turn c.args.prompts c.args.session.now left middle left' before mid after c.turns.session c.take_turn.new.session c.turns.invariant.0 turn,
      c.in_ok-take_turn.ensures.reads ∙ c.turns.invariant.1,
      c.in_ok-take_turn.ensures.writes ∙ c.turns.invariant.2,
    )

pub returns-in_err-take_turn-clause-talked : goal.returns-in_err-take_turn-clause-talked
returns-in_err-take_turn-clause-talked g c =
    let p = err_from_is_err_and c.from_residual.result c.from_residual.ensures.1 in
    let left = g.L.Read.remaining (reader_of c.args.lines.now) in
    let middle = g.L.Read.remaining (reader_of c.turns.lines) in
    let left' = g.L.Read.remaining (reader_of c.take_turn.new.lines) in
    let before = g.O.Write.contents (writer_of c.args.output.now) in
    let mid = g.O.Write.contents (writer_of c.turns.output) in
    let after = g.O.Write.contents (writer_of c.take_turn.new.output) in
    subst (λ (r : Result (Unit {0}) TalkFault). Talked c.args.prompts c.args.session.now left left' before after r c.take_turn.new.session) (sym (p.1 ∙ ap (λ (f : TalkFault). Err f) p.2))
    (talked c.args.prompts c.args.session.now left middle left' before mid after c.turns.session c.take_turn.new.session c.turns.invariant.0 (Err c.in_err-take_turn.field-0.0) c.in_err-take_turn.ensures.turn)

pub returns-in_err-take_turn-clause-reads : goal.returns-in_err-take_turn-clause-reads
returns-in_err-take_turn-clause-reads g c =
    let p = err_from_is_err_and c.from_residual.result c.from_residual.ensures.1 in
    subst (λ (r : Result (Unit {0}) TalkFault). ReadsSo c.args.lines.now r c.take_turn.new.lines) (sym (p.1 ∙ ap (λ (f : TalkFault). Err f) p.2))
    (reads_then Turn (Unit {0}) c.args.lines.now c.turns.lines c.take_turn.new.lines c.in_err-take_turn.field-0.0 c.turns.invariant.1 c.in_err-take_turn.ensures.reads)

pub returns-in_err-take_turn-clause-writes : goal.returns-in_err-take_turn-clause-writes
returns-in_err-take_turn-clause-writes g c =
    let p = err_from_is_err_and c.from_residual.result c.from_residual.ensures.1 in
    subst (λ (r : Result (Unit {0}) TalkFault). WritesSo c.args.output.now r c.take_turn.new.output) (sym (p.1 ∙ ap (λ (f : TalkFault). Err f) p.2))
    (writes_then Turn (Unit {0}) c.args.output.now c.turns.output c.take_turn.new.output c.in_err-take_turn.field-0.0 c.turns.invariant.2 c.in_err-take_turn.ensures.writes)

pub returns-in-Ends-clause-talked : goal.returns-in-Ends-clause-talked
returns-in-Ends-clause-talked g c =
    let left = g.L.Read.remaining (reader_of c.args.lines.now) in
    let middle = g.L.Read.remaining (reader_of c.turns.lines) in
    let left' = g.L.Read.remaining (reader_of c.take_turn.new.lines) in
    let before = g.O.Write.contents (writer_of c.args.output.now) in
    let mid = g.O.Write.contents (writer_of c.turns.output) in
    let after = g.O.Write.contents (writer_of c.take_turn.new.output) in
    let turn : TakesTurn c.args.prompts c.turns.session middle left' mid after (Ok turns.Ends) c.take_turn.new.session =
    subst (λ (t : Turn). TakesTurn c.args.prompts c.turns.session middle left' mid after (Ok t) c.take_turn.new.session) c.in-Ends.is c.in_ok-take_turn.ensures.turn in
    talked c.args.prompts c.args.session.now left middle left' before mid after c.turns.session c.take_turn.new.session c.turns.invariant.0 (Ok tt) turn

pub turns-smaller : goal.turns-smaller
turns-smaller g c = omega (arith, c.in_ok-take_turn.ensures.more, c.in_ok-take_turn.ensures.room)
