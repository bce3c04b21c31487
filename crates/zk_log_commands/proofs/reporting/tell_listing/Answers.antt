use Rattle.std.proofs.Common.{List, ℕ, Ok, Err, rules, subst}
use Rattle.std.specs.String.{string_bytes}
use Rattle.zk_format.specs.Listings.{listing_of}
use Rattle.zk_log.specs.Taking.{loaded_of}
use Rattle.zk_log_commands.proofs.TellingLaws.{loads_taken, outputs_unnoted, taken_listing}
use Rattle.zk_log_commands.specs.Telling.{Outputs}
use Rattle.zk_log_commands.proofs.reporting.tell_listing.Goals as goal

pub returns-in-Ok : goal.returns-in-Ok
returns-in-Ok g c =
    let e = c.in-Ok.ensures in
    let t = e.takes in
    let status = c.put_answers.result in
    let text = taken_listing (string_bytes c.new-lines.result.text) (string_bytes c.load_into.new.taker.text) t.txns c.new-lines.ensures t.taken in
    let output : Outputs g.O.Write.contents g.E.Write.contents (string_bytes c.load_into.new.taker.text) c.args.output.now c.put_answers.new.output c.args.faults.now c.put_answers.new.faults (Ok status) =
    subst (λ (l : List ℕ). Outputs g.O.Write.contents g.E.Write.contents l c.args.output.now c.put_answers.new.output c.args.faults.now c.put_answers.new.faults (Ok status)) c.as_str.ensures.value c.put_answers.ensures in
    record {
      answer = loaded_of t.txns (Ok c.in-Ok.field-0);
      loads = loads_taken g.F.Read.remaining _ c.args.file.now c.load_into.new.source _ 1048576 (Ok c.in-Ok.field-0) t e.sparing e.ends e.reads e.tells;
      outputs = outputs_unnoted g.O.Write.contents g.E.Write.contents (listing_of t.txns) c.args.output.now c.put_answers.new.output c.args.faults.now c.put_answers.new.faults status
          (subst (λ (l : List ℕ). Outputs g.O.Write.contents g.E.Write.contents l c.args.output.now c.put_answers.new.output c.args.faults.now c.put_answers.new.faults (Ok status)) text output);
    }

pub returns : goal.returns
returns g c =
    let e = c.in-Err.ensures in
    let t = e.takes in
    record {
      answer = Err c.in-Err.fault;
      loads = loads_taken g.F.Read.remaining _ c.args.file.now c.load_into.new.source _ 1048576 (Err c.in-Err.fault) t e.sparing e.ends e.reads e.tells;
      outputs = search rules;
    }
