use Rattle.std.proofs.Common.{ℕ, ℤ, List, Ok, FitsSigned, inl, ◌∙◌, subst, rules, w64}
use Rattle.std.proofs.lemmas.Int.{to_z-of_z}
use Rattle.std.specs.Io.KnownBytes.{Appends}
use Rattle.zk_records.specs.Sinks.{writer_of, AppendsSome}
use Rattle.zk_records.specs.Written.{log_of}
use Rattle.zk_log_commands.specs.Telling.{Outputs}
use Rattle.zk_commands.proofs.Written.{both_written}
use Rattle.zk_commands.specs.Reports.{mend_report}
use Rattle.zk_commands.proofs.mending.put_mended.Goals as goal

pub returns-in-Ok : goal.returns-in-Ok
returns-in-Ok g c =
    let mended = c.args.mended.now in
    let text = mend_report mended.told mended.ending in
    let fits : FitsSigned w64 mended.dbid = search rules in
    let bytes : Appends (g.O.Write.contents (writer_of c.args.output.now)) (g.O.Write.contents (writer_of c.write_log.new.sink)) (log_of mended.dbid mended.journal)
    = subst (λ (z : ℤ). Appends (g.O.Write.contents (writer_of c.args.output.now)) (g.O.Write.contents (writer_of c.write_log.new.sink)) (log_of z mended.journal)) (to_z-of_z w64 mended.dbid fits) c.in-Ok.ensures.ok in
    let outputs : Outputs g.R.Write.contents g.E.Write.contents text c.args.report.now c.put_answers.new.output c.args.faults.now c.put_answers.new.faults (Ok c.put_answers.result)
    = subst (λ (t : List ℕ). Outputs g.R.Write.contents g.E.Write.contents t c.args.report.now c.put_answers.new.output c.args.faults.now c.put_answers.new.faults (Ok c.put_answers.result)) (c.as_str.ensures.value ∙ c.in_ok-text.ensures) c.put_answers.ensures in
    both_written g.O.Write.contents g.R.Write.contents g.E.Write.contents (log_of mended.dbid mended.journal) text c.args.output.now c.write_log.new.sink c.args.report.now c.put_answers.new.output c.args.faults.now c.put_answers.new.faults c.put_answers.result
    (record { bytes = bytes; failures = c.in-Ok.ensures.failures }) outputs

pub returns : goal.returns
returns g c =
    let mended = c.args.mended.now in
    let fits : FitsSigned w64 mended.dbid = search rules in
    let bytes : AppendsSome (g.O.Write.contents (writer_of c.args.output.now)) (g.O.Write.contents (writer_of c.write_log.new.sink)) (log_of mended.dbid mended.journal)
    = subst (λ (z : ℤ). AppendsSome (g.O.Write.contents (writer_of c.args.output.now)) (g.O.Write.contents (writer_of c.write_log.new.sink)) (log_of z mended.journal)) (to_z-of_z w64 mended.dbid fits) c.in-Err.ensures.err in
    (inl (record { bytes = bytes; failures = c.in-Err.ensures.failures }, search rules), c.tell.ensures)
