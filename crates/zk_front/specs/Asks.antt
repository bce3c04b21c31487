-- The event of an ask at server 1, and the reply for the event's result. Own.
use Rattle.std.specs.Prelude.{ℕ, ℤ, ◌+◌, ◌%◌, ◌^◌, Option, Some, None, Result, Ok, Err}
use Rattle.zab_model.specs.declared.event.Event.TheVariants.{Submit, Sync}
use Rattle.zk_line_protocol.specs.declared.ask.Ask.{Ask}
use Rattle.zk_line_protocol.specs.declared.ask.Ask.TheVariants as asks
use Rattle.zk_line_protocol.specs.declared.told.Reply.{Reply}
use Rattle.zk_line_protocol.specs.declared.told.Reply.TheVariants as replies
use Rattle.zk_line_protocol.specs.declared.told.ServiceFault.{ServiceFault}
use Rattle.zk_line_protocol.specs.declared.told.ServiceFault.TheVariants as services
use Rattle.zk_model.specs.declared.answer.Answer.{Answer}
use Rattle.zk_model.specs.declared.answer.Answer.TheVariants as answers
use Rattle.zk_model.specs.declared.answer.Answered.{Answered}
use Rattle.zk_model.specs.declared.event.Event.{Event}
use Rattle.zk_model.specs.declared.event.Event.TheVariants as events
use Rattle.zk_model.specs.declared.fault.EnsembleFault.{EnsembleFault}
use Rattle.zk_model.specs.declared.fault.EnsembleFault.TheVariants as faults
use Rattle.zk_front.specs.declared.reply_kind.ReplyKind.{ReplyKind}
use Rattle.zk_front.specs.declared.reply_kind.ReplyKind.TheVariants as seeks

-- ---- the event of an ask

abbrev pub session_of : Ask → ℤ
session_of (asks.Write session cxid auths request) = session
session_of (asks.Read session seen auths call watch) = session
session_of (asks.Sync session) = session

-- a request and a sync have a tag, a read has none
abbrev pub event_of : Ask → ℕ → ℤ → Event
event_of (asks.Write session cxid auths request) tag now =
    events.World (Submit 1 (record { tag = tag; session = session; cxid = cxid; auths = auths; now = now; request = request }))
event_of (asks.Read session seen auths call watch) tag now =
    events.Read (record { server = 1; session = session; seen = seen; auths = auths; call = call; watch = watch })
event_of (asks.Sync session) tag now = events.World (Sync 1 tag)

-- tags are counted, in 64 bits that wrap: the servers reject one that was used
abbrev pub next_tag : ℕ → ℕ
next_tag tag = (tag + 1) % 2 ^ 64

-- ---- the reply

abbrev pub sought_by : Ask → ReplyKind
sought_by (asks.Write session cxid auths request) = seeks.Written
sought_by (asks.Read session seen auths call watch) = seeks.Looked
sought_by (asks.Sync session) = seeks.Caught

-- a write: the result of the call with its tag
abbrev pub wrote_by : Option Answered → Result Reply ServiceFault
wrote_by None = Err services.Server
wrote_by (Some it) = Ok (replies.Wrote it.result)

-- a read: its immediate answer, and the last transaction of its server
abbrev pub looked_by : Answer → ℤ → Result Reply ServiceFault
looked_by (answers.Looked reply) zxid = Ok (replies.Looked reply zxid)
looked_by (answers.Moved moved) zxid = Err services.Server

-- a sync: that its tag is completed
abbrev pub caught_by : Option ℕ → Result Reply ServiceFault
caught_by None = Err services.Server
caught_by (Some length) = Ok replies.Caught

-- the client's fault for an ensemble's
abbrev pub service_fault_of : EnsembleFault → ServiceFault
service_fault_of (faults.Behind seen at) = services.Behind
service_fault_of faults.NoMemory = services.Memory
service_fault_of (faults.Died number) = services.Memory
service_fault_of fault = services.Server
