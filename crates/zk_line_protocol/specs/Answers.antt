-- What is written for each reply. This project's own; the text of each reply is in `Tellings`.
use Rattle.std.specs.Prelude.{ℕ, List, [], ◌∷◌, ◌++◌, Option, Some, None, codes}
use Rattle.std.specs.List.{flat_map}
use Rattle.zk_line_protocol.specs.declared.ask.Immediate.{Immediate}
use Rattle.zk_line_protocol.specs.declared.ask.Immediate.TheVariants as sayings
use Rattle.zk_line_protocol.specs.declared.told.Reply.{Reply}
use Rattle.zk_line_protocol.specs.declared.told.Reply.TheVariants as answers
use Rattle.zk_line_protocol.specs.declared.told.Told.{Told}
use Rattle.zk_line_protocol.specs.declared.expected_reply.ExpectedReply.{ExpectedReply}
use Rattle.zk_line_protocol.specs.Tellings.{event_text, wrote_text, looked_text, caught_text}
use Rattle.zk_machine.specs.declared.change.Change.{Change}
use Rattle.zk_request_syntax.specs.ReplyLines.{refusal_text}

-- an immediate reply
abbrev pub said_line : Immediate → List ℕ
said_line sayings.Nothing = []
said_line sayings.Done = codes "ok\n"
said_line sayings.Well = codes "imok\n"
said_line (sayings.Refused code) = refusal_text code ++ 10 ∷ []

abbrev pub event_line : Change → List ℕ
event_line event = event_text event.kind event.path ++ 10 ∷ []

-- the reply to a line; absent if it is of another kind, or lacks a field of the expected kind
abbrev pub reply_text : ExpectedReply → Reply → Option (List ℕ)
reply_text wish (answers.Wrote result) = wrote_text wish result
reply_text wish (answers.Looked reply zxid) = looked_text wish reply
reply_text wish answers.Caught = caught_text wish

abbrev pub answer_line : Option (List ℕ) → List ℕ
answer_line (Some text) = text ++ 10 ∷ []
answer_line None = codes "err server\n"

-- the events come before the reply
abbrev pub told_lines : ExpectedReply → Told → List ℕ
told_lines wish told = flat_map event_line told.events ++ answer_line (reply_text wish told.reply)
