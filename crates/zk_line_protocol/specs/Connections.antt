-- The state of a connection, the action of each line, and the state after the reply. ZooKeeper
-- Programmer's Guide, "ZooKeeper Sessions"; the lines are this project's own.
use Rattle.std.specs.Prelude.{◌≡◌, ℕ, ℤ, pos, ◌+ℤ◌, List, [], ◌∷◌, ◌++◌, Bool, if◌then◌else◌, Option, Some, None, Result, Ok, Err, codes}
use Rattle.std.specs.Int.{w32, int_wrap, int_max}
use Rattle.std.specs.Option.{is_some}
use Rattle.std.specs.Ordering.{int_eq}
use Rattle.zk_line_protocol.specs.declared.ask.Ask.TheVariants as asks
use Rattle.zk_line_protocol.specs.declared.ask.Action.{Action}
use Rattle.zk_line_protocol.specs.declared.ask.Action.TheVariants as deeds
use Rattle.zk_line_protocol.specs.declared.ask.Immediate.TheVariants as sayings
use Rattle.zk_line_protocol.specs.declared.session.Session.{Session}
use Rattle.zk_line_protocol.specs.declared.connection_state.ConnectionState.{ConnectionState}
use Rattle.zk_line_protocol.specs.declared.told.Reply.{Reply}
use Rattle.zk_line_protocol.specs.declared.told.Reply.TheVariants as answers
use Rattle.zk_line_protocol.specs.declared.told.ServiceFault.{ServiceFault}
use Rattle.zk_line_protocol.specs.declared.told.ServiceFault.TheVariants as faults
use Rattle.zk_line_protocol.specs.declared.told.Told.{Told}
use Rattle.zk_line_protocol.specs.Answers.{told_lines, reply_text}
use Rattle.zk_line_protocol.specs.declared.parsed_line.ParsedLine.{ParsedLine}
use Rattle.zk_line_protocol.specs.declared.parsed_line.ParsedLine.TheVariants as saids
use Rattle.zk_line_protocol.specs.declared.parsed_line.ParsedMultiLine.{ParsedMultiLine}
use Rattle.zk_line_protocol.specs.declared.parsed_line.ParsedMultiLine.TheVariants as insides
use Rattle.zk_line_protocol.specs.declared.expected_reply.ExpectedReply.{ExpectedReply}
use Rattle.zk_line_protocol.specs.declared.expected_reply.ExpectedReply.TheVariants as wishes
use Rattle.zk_line_protocol.specs.ParsedLines.{said_in, said_in_multi}
use Rattle.zk_line_protocol.specs.Tellings.{wish_of_request, wish_of_call}
use Rattle.zk_requests.specs.declared.call.Part.{Part}
use Rattle.zk_requests.specs.declared.call.Request.{Request}
use Rattle.zk_requests.specs.declared.call.Request.TheVariants as requests
use Rattle.zk_table.specs.Codes.{bad_arguments, session_expired}
use Rattle.zk_table.specs.declared.read.ReadCall.{ReadCall}
use Rattle.zk_table.specs.declared.read.ReadReply.{ReadReply}
use Rattle.zk_table.specs.declared.read.ReadReply.TheVariants as replies
use Rattle.zk_table.specs.declared.result.TxnResult.{TxnResult}

-- ---- the state of a connection

-- the session that this transaction opened: it has proved no identity, and made no request
abbrev pub opened : ℤ → Session
opened zxid = record { id = zxid; auths = []; cxid = pos 0; parts = None }

-- a new connection
abbrev pub fresh : ConnectionState
fresh = record { session = None; seen = pos 0 }

abbrev pub refused : ℤ → Action
refused code = deeds.Says (sayings.Refused code)

-- ---- a line without a session

abbrev pub deed_alone : ParsedLine → Action
deed_alone (saids.Opens timeout) = deeds.Asks (asks.Write (pos 0) (pos 0) [] (requests.OpenSession timeout)) (wishes.Opened timeout)
deed_alone saids.AsksWhetherWell = deeds.Says sayings.Well
deed_alone saids.Nothing = refused bad_arguments
deed_alone other = refused session_expired

-- ---- a line of a session

-- requests are counted, in 32 bits that wrap
abbrev pub next_cxid : ℤ → ℤ
next_cxid cxid = int_wrap w32 (cxid +ℤ pos 1)

abbrev pub writing : Session → Request → Session × Action
writing it request = (record it { cxid = next_cxid it.cxid }, deeds.Asks (asks.Write it.id (next_cxid it.cxid) it.auths request) (wish_of_request request))

abbrev pub looking : Session → ℤ → ReadCall → Bool → Action
looking it seen call watch = deeds.Asks (asks.Read it.id seen it.auths call watch) (wish_of_call call)

-- outside a multi
abbrev pub obeyed : Session → ℤ → ParsedLine → Session × Action
obeyed it seen (saids.Proves id) = (record it { auths = it.auths ++ id ∷ [] }, deeds.Says sayings.Done)
obeyed it seen (saids.Writes request) = writing it request
obeyed it seen saids.Closes = writing it requests.CloseSession
obeyed it seen (saids.Looks call watch) = (it, looking it seen call watch)
obeyed it seen (saids.Syncs path) = (it, deeds.Asks (asks.Sync it.id) (wishes.Caught path))
obeyed it seen saids.BeginsMulti = (record it { parts = Some [] }, deeds.Says sayings.Nothing)
obeyed it seen saids.AsksWhetherWell = (it, deeds.Says sayings.Well)
obeyed it seen (saids.Opens timeout) = (it, refused bad_arguments)
obeyed it seen saids.Nothing = (it, refused bad_arguments)

-- inside a multi, which was taken out of the session: a part puts it back with that part appended
abbrev pub gathered : Session → List Part → ParsedMultiLine → Session × Action
gathered it parts (insides.Adds part) = (record it { parts = Some (parts ++ part ∷ []) }, deeds.Says sayings.Nothing)
gathered it parts insides.Commits = writing it (requests.Multi parts)
gathered it parts insides.Nothing = (it, refused bad_arguments)

abbrev pub taken_by : Option (List Part) → Session → ℤ → Option (List ℕ) → Session × Action
taken_by None it seen line = obeyed it seen (said_in line)
taken_by (Some parts) it seen line = gathered (record it { parts = None }) parts (said_in_multi line)

abbrev pub taken_in_session : Session → ℤ → Option (List ℕ) → Session × Action
taken_in_session it seen line = taken_by it.parts it seen line

-- ---- any line

abbrev pub with_session : ConnectionState → Session × Action → ConnectionState × Action
with_session s taken = (record s { session = Some taken.0 }, taken.1)

abbrev pub doing_by : Option Session → ConnectionState → Option (List ℕ) → ConnectionState × Action
doing_by None s line = (s, deed_alone (said_in line))
doing_by (Some it) s line = with_session s (taken_in_session it s.seen line)

-- the action of a line, and the connection's state after it; a line that is too long, or not UTF-8,
-- is none
abbrev pub doing : ConnectionState → Option (List ℕ) → ConnectionState × Action
doing s line = doing_by s.session s line

-- ---- replies

-- the greatest transaction seen never decreases
abbrev pub seeing : ConnectionState → ℤ → ConnectionState
seeing s zxid = record s { seen = int_max s.seen zxid }

-- the connection's session after a transaction that succeeded
abbrev pub session_by : Option Session → ExpectedReply → TxnResult → Option Session
session_by it (wishes.Opened timeout) result = Some (opened result.zxid)
session_by it wishes.Closed result = None
session_by it wish result = it

-- a session whose request fails because it is not open has ended
abbrev pub unless_expired : Option Session → ℤ → Option Session
unless_expired it code = if int_eq code session_expired then None else it

abbrev pub session_after : Option Session → ExpectedReply → TxnResult → Option Session
session_after it wish result = if int_eq result.err (pos 0) then session_by it wish result else unless_expired it result.err

abbrev pub session_read : Option Session → ReadReply → Option Session
session_read it (replies.Refused code) = unless_expired it code
session_read it reply = it

-- the state after a reply of the expected kind
abbrev pub gone_on : ConnectionState → ExpectedReply → Reply → ConnectionState
gone_on s wish (answers.Wrote result) = record { session = session_after s.session wish result; seen = int_max s.seen result.zxid }
gone_on s wish (answers.Looked reply zxid) = record { session = session_read s.session reply; seen = int_max s.seen zxid }
gone_on s wish answers.Caught = s

-- any other reply changes nothing
abbrev pub standing_told : ConnectionState → ExpectedReply → Reply → ConnectionState
standing_told s wish reply = if is_some (reply_text wish reply) then gone_on s wish reply else s

-- the state after a result, and what is written for it; if the service failed to allocate, the
-- connection ends
abbrev pub when_told : ConnectionState → ExpectedReply → Result Told ServiceFault → Option (ConnectionState × List ℕ)
when_told s wish (Ok told) = Some (standing_told s wish told.reply, told_lines wish told)
when_told s wish (Err faults.Server) = Some (s, codes "err server\n")
when_told s wish (Err faults.Behind) = Some (s, codes "err behind\n")
when_told s wish (Err faults.Memory) = None

-- this is the state, and this was written
abbrev pub IsTold : Option (ConnectionState × List ℕ) → ConnectionState → List ℕ → List ℕ → Type 0
IsTold None s page page' = ⊥
IsTold (Some x) s page page' = (s ≡ x.0) × (page' ≡ page ++ x.1)
