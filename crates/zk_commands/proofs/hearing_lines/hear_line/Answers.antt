use Rattle.std.proofs.Common.{◌≡◌, ◌∙◌, ◌==◌, ℕ, List, [], ◌∷◌, false, Option, Some, None, Result, Ok, Err, sym, ap, subst, rules}
use Rattle.std.proofs.lemmas.Result.{err_from_is_err_and}
use Rattle.std.specs.Io.KnownBytes.{Consumes}
use Rattle.zk_log.specs.Devices.{reader_of}
use Rattle.zk_commands.specs.HearingBytes.{GivesByte}
use Rattle.zk_commands.specs.declared.session.TalkFault.{TalkFault}
use Rattle.zk_commands.specs.declared.session.TalkFault.TheVariants as faults
use Rattle.zk_commands.specs.HearingLines.{Hears}
use Rattle.zk_commands.specs.declared.hearing_lines.ReadLine.{ReadLine}
use Rattle.zk_commands.proofs.LineLaws.{heard_end, heard_newline, heard_part}
use Rattle.zk_commands.proofs.hearing_lines.hear_line.Goals as goal

pub returns-in-None-clause-heard : goal.returns-in-None-clause-heard
returns-in-None-clause-heard g c =
    let so_far = c.bytes.invariant.0 in
    let left = g.L.Read.remaining (reader_of c.args.lines.now) in
    let middle = g.L.Read.remaining (reader_of c.bytes.lines) in
    let left' = g.L.Read.remaining (reader_of c.next_byte.new.source) in
    let gives : GivesByte middle left' (Ok None) = subst (λ (byte : Option ℕ). GivesByte middle left' (Ok byte)) c.in-None.is c.in_ok-next_byte.ensures.bytes in
    heard_end left middle left' c.bytes.line so_far.0 c.heard_at_end.result so_far.1 gives.0 gives.1 so_far.2 so_far.3 c.heard_at_end.ensures

pub returns-in-Some-eq10-clause-heard : goal.returns-in-Some-eq10-clause-heard
returns-in-Some-eq10-clause-heard g c =
    let so_far = c.bytes.invariant.0 in
    let left = g.L.Read.remaining (reader_of c.args.lines.now) in
    let middle = g.L.Read.remaining (reader_of c.bytes.lines) in
    let left' = g.L.Read.remaining (reader_of c.next_byte.new.source) in
    let newline : c.in_ok-next_byte.field-0 ≡ Some 10 = cc in
    let gives : Consumes middle left' (10 ∷ []) = subst (λ (byte : Option ℕ). GivesByte middle left' (Ok byte)) newline c.in_ok-next_byte.ensures.bytes in
    heard_newline left middle left' c.bytes.line so_far.0 so_far.1 gives so_far.2 so_far.3

pub returns-in_err-push-in-Some-clause-heard : goal.returns-in_err-push-in-Some-clause-heard
returns-in_err-push-in-Some-clause-heard g c =
    let so_far = c.bytes.invariant.0 in
    let left = g.L.Read.remaining (reader_of c.args.lines.now) in
    let middle = g.L.Read.remaining (reader_of c.bytes.lines) in
    let left' = g.L.Read.remaining (reader_of c.next_byte.new.source) in
    let gives : Consumes middle left' (c.in-Some.byte ∷ []) = subst (λ (byte : Option ℕ). GivesByte middle left' (Ok byte)) c.in-Some.is c.in_ok-next_byte.ensures.bytes in
    let other : (c.in-Some.byte == 10) ≡ false = search rules in
    let p = err_from_is_err_and c.from_residual-in_err-push-in-Some.result c.from_residual-in_err-push-in-Some.ensures.1 in
    subst (λ (r : Result ReadLine TalkFault). Hears left left' c.push.new.self r) (sym (p.1 ∙ ap (λ (f : TalkFault). Err f) p.2))
    (heard_part left middle left' so_far.0 c.in-Some.byte so_far.1 gives so_far.2 other)
