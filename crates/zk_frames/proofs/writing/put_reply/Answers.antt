use Rattle.std.proofs.Common.{◌≡◌, ◌++◌, rules}
use Rattle.std.specs.Prelude.{FitsSigned}
use Rattle.std.specs.Int.{w32, w64}
use Rattle.std.proofs.lemmas.Int.{to_z-of_z}
use Rattle.zk_frames.specs.Replies.{reply_header, body_of, reply_of}
use Rattle.zk_frames.proofs.Joined.{joined_two}
use Rattle.zk_frames.proofs.writing.put_reply.Goals as goal

pub returns : goal.returns
unfolding reply_of
returns c =
    let r = c.args.reply.now in
    let f_xid : FitsSigned w32 r.xid = search rules in
    let f_zxid : FitsSigned w64 r.zxid = search rules in
    let f_err : FitsSigned w32 r.err = search rules in
    let head : c.put_reply_header.new.out.items ≡ c.args.out.now.items ++ reply_header r.xid r.zxid r.err = simp to_z-of_z at c.in_ok-put_reply_header.ensures in
    joined_two c.args.out.now.items (reply_header r.xid r.zxid r.err) (body_of r.body) _ _ head c.in_ok-put_body.ensures
