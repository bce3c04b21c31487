use Rattle.std.proofs.Common.{ℕ, List, Ok, Err, Global, subst, rules}
use Rattle.std.specs.Str.{IsUtf8}
use Rattle.std.specs.String.{string_bytes}
use Rattle.zk_log.specs.Devices.{reader_of}
use Rattle.zk_log_commands.specs.Debugs.{Runs, state_of_base}
use Rattle.zk_log_commands.specs.Notices.{within_epoch}
use Rattle.zk_log_commands.specs.declared.text.TextFault.TheVariants as faults
use Rattle.zk_log_commands.proofs.TextLaws.{text_read, text_refused, refusal_told_so}
use Rattle.zk_log_commands.proofs.debugging.debug_txns.Goals as goal

pub returns-in-Ok : goal.returns-in-Ok
returns-in-Ok g c =
    let utf8 : IsUtf8 (string_bytes c.in-Ok.text) = search rules in
    let runs : Runs g.O.Write.contents g.E.Write.contents (within_epoch c.args.first) (state_of_base c.args.base) c.args.txns (string_bytes c.in-Ok.text) c.args.output.now c.run.new.output c.args.faults.now c.run.new.faults c.run.result =
    subst (λ (script : List ℕ). Runs g.O.Write.contents g.E.Write.contents (within_epoch c.args.first) (state_of_base c.args.base) c.args.txns script c.args.output.now c.run.new.output c.args.faults.now c.run.new.faults c.run.result) c.as_str.ensures.value c.run.ensures in
    record {
      text = Ok (string_bytes c.in-Ok.text);
      reads = text_read string_bytes (g.S.Read.remaining (reader_of c.args.script.now)) c.in-Ok.text c.in-Ok.ensures.text;
      tells = c.in-Ok.ensures.tells;
      sparing = c.in-Ok.ensures.reads;
      outputs = (utf8, runs);
    }

pub returns-in-Err-Read : goal.returns-in-Err-Read
returns-in-Err-Read g c = record {
  text = Err faults.Read;
  reads = text_refused string_bytes (g.S.Read.remaining (reader_of c.args.script.now)) c.in-Err-Read.field-0 faults.Read c.in-Err-Read.field-0-is c.in-Err-Read.ensures.text;
  tells = refusal_told_so (string_bytes {Z = Global}) c.args.script.now 1048576 c.in-Err-Read.field-0 faults.Read c.read_text.new.source c.in-Err-Read.field-0-is c.in-Err-Read.ensures.tells;
  sparing = c.in-Err-Read.ensures.reads;
  outputs = (search rules, c.tell.ensures);
}

pub returns-in-Err-Utf8 : goal.returns-in-Err-Utf8
returns-in-Err-Utf8 g c = record {
  text = Err faults.Utf8;
  reads = text_refused string_bytes (g.S.Read.remaining (reader_of c.args.script.now)) c.in-Err-Utf8.field-0 faults.Utf8 c.in-Err-Utf8.field-0-is c.in-Err-Utf8.ensures.text;
  tells = refusal_told_so (string_bytes {Z = Global}) c.args.script.now 1048576 c.in-Err-Utf8.field-0 faults.Utf8 c.read_text.new.source c.in-Err-Utf8.field-0-is c.in-Err-Utf8.ensures.tells;
  sparing = c.in-Err-Utf8.ensures.reads;
  outputs = (search rules, c.tell-in-Err-Utf8.ensures);
}

pub returns : goal.returns
returns g c = record {
  text = Err faults.NoMemory;
  reads = text_refused string_bytes (g.S.Read.remaining (reader_of c.args.script.now)) c.in-Err-NoMemory.field-0 faults.NoMemory c.in-Err-NoMemory.field-0-is c.in-Err-NoMemory.ensures.text;
  tells = refusal_told_so (string_bytes {Z = Global}) c.args.script.now 1048576 c.in-Err-NoMemory.field-0 faults.NoMemory c.read_text.new.source c.in-Err-NoMemory.field-0-is c.in-Err-NoMemory.ensures.tells;
  sparing = c.in-Err-NoMemory.ensures.reads;
  outputs = search rules;
}
