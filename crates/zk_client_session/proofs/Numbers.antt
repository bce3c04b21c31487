-- Each reply has the number of its request.
use Rattle.std.proofs.Common.{◌≡◌, refl, ℤ, List, [], ◌∷◌}
use Rattle.std.specs.Prelude.{Bool, true, false, if◌then◌else◌, Option, Some, None}
use Rattle.std.specs.Ordering.{int_eq}
use Rattle.std.specs.Prelude.{pos}
use Rattle.zk_frames.specs.declared.reply.ClientReply.{ClientReply}
use Rattle.zk_frames.specs.declared.reply.ReplyBody.{ReplyBody}
use Rattle.zk_client_session.specs.Replies.{header_alone, replied, multi_failed, write_failed, write_reply, read_reply, removed_reply, reply_to, body_read, body_done, body_removed, body_synced, body_set, body_paths, body_count}
use Rattle.zk_client_session.specs.declared.expected_reply.ExpectedReply.{ExpectedReply}
use Rattle.zk_client_session.specs.declared.expected_reply.ReplyKind.{ReplyKind}
use Rattle.zk_client_session.specs.declared.expected_reply.ReplyKind.TheVariants as kinds
use Rattle.zk_client_session.specs.declared.reply.Reply.{Reply}
use Rattle.zk_client_session.specs.declared.reply.Reply.TheVariants as answers
use Rattle.zk_table.specs.declared.read.ReadReply.{ReadReply}
use Rattle.zk_table.specs.declared.read.ReadReply.TheVariants as replies
use Rattle.zk_table.specs.declared.result.PartResult.{PartResult}
use Rattle.zk_table.specs.declared.result.TxnResult.{TxnResult}

replied_number : (xid zxid : ℤ) (body : Option ReplyBody) → (replied xid zxid body).xid ≡ xid
replied_number xid zxid None = refl
replied_number xid zxid (Some body) = refl

either_number : (xid : ℤ) (b : Bool) (one other : ClientReply) → one.xid ≡ xid → other.xid ≡ xid → (if b then one else other).xid ≡ xid
either_number xid true one other is _ = is
either_number xid false one other _ is = is

multi_number : (xid : ℤ) (result : TxnResult) (parts : List PartResult) → (multi_failed xid result parts).xid ≡ xid
multi_number xid result [] = refl
multi_number xid result (part ∷ parts) = refl

failed_number : (kind : ReplyKind) (xid : ℤ) (result : TxnResult) → (write_failed kind xid result).xid ≡ xid
failed_number (kinds.Multi parts) xid result = multi_number xid result result.parts
failed_number kind xid result = refl

read_number : (expected : ExpectedReply) (reply : ReadReply) (zxid : ℤ) → (read_reply expected reply zxid).xid ≡ expected.xid
read_number expected (replies.Refused code) zxid = refl
read_number expected reply zxid = replied_number expected.xid zxid (body_read expected.kind reply)

pub reply_number : (expected : ExpectedReply) (reply : Reply) → (reply_to expected reply).xid ≡ expected.xid
reply_number expected (answers.Wrote result time) = either_number expected.xid (int_eq result.err (pos 0)) _ _ (replied_number expected.xid result.zxid (body_done expected.kind result time)) (failed_number expected.kind expected.xid result)
reply_number expected (answers.Read reply zxid) = read_number expected reply zxid
reply_number expected (answers.CaughtUp zxid) = replied_number expected.xid zxid (body_synced expected.kind)
reply_number expected (answers.WatchesSet events zxid) = replied_number expected.xid zxid (body_set expected.kind)
reply_number expected (answers.WatchesRemoved found zxid) = either_number expected.xid found _ _ (replied_number expected.xid zxid (body_removed expected.kind)) refl
reply_number expected (answers.Paths paths zxid) = replied_number expected.xid zxid (body_paths expected.kind paths)
reply_number expected (answers.Count count zxid) = replied_number expected.xid zxid (body_count expected.kind count)
