-- Replies as lines. A line is without the newline that ends it, and absent if the reply is not of
-- the expected kind. This project's own.
use Rattle.std.specs.Prelude.{ℕ, ℤ, pos, List, [], ◌∷◌, ◌++◌, Bool, true, false, if◌then◌else◌, Option, Some, None, option_map, codes}
use Rattle.std.specs.Fmt.{signed_decimal}
use Rattle.std.specs.List.{flat_map}
use Rattle.std.specs.Ordering.{int_eq}
use Rattle.zk_acl.specs.declared.stat.Stat.{Stat}
use Rattle.zk_line_protocol.specs.declared.expected_reply.ExpectedReply.{ExpectedReply}
use Rattle.zk_line_protocol.specs.declared.expected_reply.ExpectedReply.TheVariants as wishes
use Rattle.zk_machine.specs.declared.change.ChangeKind.{ChangeKind}
use Rattle.zk_machine.specs.declared.change.ChangeKind.TheVariants as kinds
use Rattle.zk_requests.specs.Timeouts.{clamp}
use Rattle.zk_requests.specs.declared.call.Request.{Request}
use Rattle.zk_requests.specs.declared.call.Request.TheVariants as requests
use Rattle.zk_request_syntax.specs.ReplyLines.{refusal_text, reply_text}
use Rattle.zk_format.specs.Reports.{part_answer}
use Rattle.zk_format.specs.Spelling.{quoted, stat_text, id_digits}
use Rattle.zk_table.specs.declared.read.ReadCall.{ReadCall}
use Rattle.zk_table.specs.declared.read.ReadCall.TheVariants as calls
use Rattle.zk_table.specs.declared.read.ReadReply.{ReadReply}
use Rattle.zk_table.specs.declared.read.ReadReply.TheVariants as replies
use Rattle.zk_table.specs.declared.result.TxnResult.{TxnResult}

-- ---- the expected kind of reply

abbrev pub wish_of_request : Request → ExpectedReply
wish_of_request (requests.Create path content acl flags) = wishes.Made
wish_of_request (requests.Delete path version) = wishes.Done
wish_of_request (requests.SetData path content version) = wishes.Changed
wish_of_request (requests.SetAcl path acl version) = wishes.Changed
wish_of_request (requests.Multi parts) = wishes.Parts
wish_of_request (requests.OpenSession timeout) = wishes.Opened timeout
wish_of_request requests.CloseSession = wishes.Closed

abbrev pub wish_of_call : ReadCall → ExpectedReply
wish_of_call (calls.GetData path) = wishes.Content
wish_of_call (calls.Exists path) = wishes.Existence
wish_of_call (calls.GetChildren path) = wishes.Children
wish_of_call (calls.GetAcl path) = wishes.Acl

-- ---- events

-- the number of a kind of change
abbrev pub kind_text : ChangeKind → List ℕ
kind_text kinds.Created = codes "1"
kind_text kinds.Deleted = codes "2"
kind_text kinds.DataChanged = codes "3"
kind_text kinds.ChildrenChanged = codes "4"

-- the kind of an event, and its path
abbrev pub event_text : ChangeKind → List ℕ → List ℕ
event_text kind path = codes "event " ++ kind_text kind ++ 32 ∷ quoted path

-- ---- replies

abbrev pub ok_path : List ℕ → List ℕ
ok_path path = codes "ok " ++ quoted path

abbrev pub ok_stat : Stat → List ℕ
ok_stat stat = codes "ok " ++ stat_text stat

-- a session has the number of the transaction that opened it
abbrev pub opened_text : ℤ → TxnResult → List ℕ
opened_text timeout result = codes "ok " ++ id_digits result.zxid ++ 32 ∷ signed_decimal timeout

abbrev pub parts_text : TxnResult → List ℕ
parts_text result = codes "ok" ++ flat_map part_answer result.parts

abbrev pub refused_parts : TxnResult → List ℕ
refused_parts result = refusal_text result.err ++ flat_map part_answer result.parts

-- a transaction that succeeded
abbrev pub done_text : ExpectedReply → TxnResult → Option (List ℕ)
done_text (wishes.Opened timeout) result = Some (opened_text (clamp timeout) result)
done_text wishes.Made result = option_map ok_path result.path
done_text wishes.Done result = Some (codes "ok")
done_text wishes.Changed result = option_map ok_stat result.stat
done_text wishes.Parts result = Some (parts_text result)
done_text wishes.Closed result = Some (codes "ok")
done_text other result = None

-- a transaction that failed
abbrev pub undone_text : ExpectedReply → TxnResult → Option (List ℕ)
undone_text (wishes.Opened timeout) result = Some (refusal_text result.err)
undone_text wishes.Made result = Some (refusal_text result.err)
undone_text wishes.Done result = Some (refusal_text result.err)
undone_text wishes.Changed result = Some (refusal_text result.err)
undone_text wishes.Parts result = Some (refused_parts result)
undone_text wishes.Closed result = Some (refusal_text result.err)
undone_text other result = None

-- the result of a transaction
abbrev pub wrote_text : ExpectedReply → TxnResult → Option (List ℕ)
wrote_text wish result = if int_eq result.err (pos 0) then done_text wish result else undone_text wish result

-- whether the reply to a read is of the expected kind
abbrev pub fits_read : ExpectedReply → ReadReply → Bool
fits_read wishes.Content (replies.Content content stat) = true
fits_read wishes.Existence (replies.Found stat) = true
fits_read wishes.Children (replies.Children names stat) = true
fits_read wishes.Acl (replies.AclIs acl stat) = true
fits_read wishes.Content (replies.Refused code) = true
fits_read wishes.Existence (replies.Refused code) = true
fits_read wishes.Children (replies.Refused code) = true
fits_read wishes.Acl (replies.Refused code) = true
fits_read wish reply = false

-- the reply to a read
abbrev pub looked_text : ExpectedReply → ReadReply → Option (List ℕ)
looked_text wish reply = if fits_read wish reply then Some (reply_text reply) else None

-- the server has caught up
abbrev pub caught_text : ExpectedReply → Option (List ℕ)
caught_text (wishes.Caught path) = Some (ok_path path)
caught_text other = None
