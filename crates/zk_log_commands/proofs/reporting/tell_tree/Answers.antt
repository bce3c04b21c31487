use Rattle.std.proofs.Common.{◌≡◌, ℤ, Option, Ok, Err, rules, subst}
use Rattle.std.proofs.lemmas.Result.{err_from_is_err_and}
use Rattle.zk_log.specs.Taking.{loaded_of}
use Rattle.zk_log.specs.declared.loaded.Loaded.{Loaded}
use Rattle.zk_log_commands.proofs.TellingLaws.{loads_taken, outputs_written, gives_up_before, taken_first, taken_report}
use Rattle.zk_log_commands.specs.Notices.{begins_within, within_epoch}
use Rattle.zk_log_commands.specs.Showing.{show_report}
use Rattle.zk_log_commands.specs.Telling.{TellsWriting}
use Rattle.zk_log_commands.specs.Writing.{Writes}
use Rattle.zk_log_commands.proofs.reporting.tell_tree.Goals as goal

pub returns-in_err-shower : goal.returns-in_err-shower
returns-in_err-shower g c =
    let p = err_from_is_err_and c.from_residual.result c.from_residual.ensures.1 in
    rw p.1 (gives_up_before g.F.Read.remaining g.O.Write.contents g.E.Write.contents (show_report c.args.upto) (λ (loaded : Loaded). begins_within loaded.txns) c.args.file.now c.args.output.now c.args.faults.now _)

pub returns-in-Ok : goal.returns-in-Ok
returns-in-Ok g c =
    let contents = g.O.Write.contents in
    let e = c.in-Ok.ensures in
    let t = e.takes in
    let head = c.in-Ok.head in
    let loaded : Loaded = record { dbid = head.dbid; txns = t.txns; ending = head.ending } in
    let s = c.in_ok-shower.ensures in
    let start = c.in_ok-shower.shower in
    let output' = c.write_report-written.new.output in
    let written = c.write_report-written.result in
    let notice : within_epoch c.load_into.new.taker.first ≡ begins_within loaded.txns = taken_first start.first c.load_into.new.taker.first t.txns s.first t.taken.3 in
    let told = subst (λ (n : Option ℤ). TellsWriting g.E.Write.contents written n c.args.faults.now c.tell_written.new.faults c.tell_written.result) notice c.tell_written.ensures in
    let text = taken_report c.args.upto start.upto start.table.state c.load_into.new.taker.table.state loaded s.state s.upto t.taken.0 in
    record {
      answer = loaded_of t.txns (Ok head);
      loads = loads_taken g.F.Read.remaining _ c.args.file.now c.load_into.new.source _ 1048576 (Ok head) t e.sparing e.ends e.reads e.tells;
      outputs = outputs_written contents g.E.Write.contents (show_report c.args.upto loaded) (begins_within loaded.txns) c.args.output.now output' c.args.faults.now c.tell_written.new.faults written c.tell_written.result
          (subst (λ l. Writes contents c.args.output.now l written output') text c.write_report-written.ensures) told;
    }

pub returns : goal.returns
returns g c =
    let e = c.in-Err.ensures in
    let t = e.takes in
    record {
      answer = Err c.in-Err.fault;
      loads = loads_taken g.F.Read.remaining _ c.args.file.now c.load_into.new.source _ 1048576 (Err c.in-Err.fault) t e.sparing e.ends e.reads e.tells;
      outputs = search rules;
    }
