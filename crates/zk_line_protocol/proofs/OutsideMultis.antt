-- A line outside a multi, in the case that there is no open multi.
use Rattle.std.proofs.Common.{◌≡◌, ℕ, ℤ, List, Option, None, Result, Ok, Err, IfOk, sym, ap, ◌∙◌}
use Rattle.zk_line_protocol.specs.Connections.{obeyed, taken_by, taken_in_session}
use Rattle.zk_line_protocol.specs.declared.ask.Action.{Action}
use Rattle.zk_line_protocol.specs.declared.session.Session.{Session}
use Rattle.zk_line_protocol.specs.ParsedLines.{said_in}
use Rattle.zk_line_protocol.specs.declared.parsed_line.ParsedLine.{ParsedLine}
use Rattle.zk_requests.specs.declared.call.Part.{Part}

abbrev with_parts : Session → Option (List Part) → Session
with_parts it parts = record it { parts = parts }

pub outside : {E : Type 0} (it new : Session) (parts : Option (List Part)) (seen : ℤ) (line : Option (List ℕ)) (said : ParsedLine) (r : Result Action E) → it.parts ≡ None → parts ≡ None → said ≡ said_in line → IfOk r (λ deed. obeyed (record it { parts = parts }) seen said ≡ (new, deed))
    → IfOk r (λ deed. taken_in_session it seen line ≡ (new, deed))
outside it new parts seen line said (Ok deed) none after same h =
    ap (λ (q : Option (List Part)). taken_by q it seen line) none ∙ ap (λ (s : ParsedLine). obeyed it seen s) (sym same) ∙ ap (λ (q : Option (List Part)). obeyed (with_parts it q) seen said) (none ∙ sym after) ∙ h
outside it new parts seen line said (Err e) none after same h = tt
