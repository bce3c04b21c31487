use Rattle.std.proofs.Common.{◌≡◌, ap, ◌∙◌, rules}
use Rattle.std.specs.Prelude.{FitsSigned}
use Rattle.std.specs.Int.{w32, w64}
use Rattle.std.proofs.lemmas.Int.{to_z-of_z}
use Rattle.zk_client_session.specs.Replies.{replied}
use Rattle.zk_client_session.proofs.replying.set_reply.Goals as goal

pub returns : goal.returns
returns c =
    let zxid : FitsSigned w64 c.args.zxid = c.ranges.zxid in
    let made : c.with_body.result ≡ replied c.args.expected.now.xid c.args.zxid c.body_set.result = simp to_z-of_z at c.with_body.ensures in
    made ∙ ap (λ t. replied c.args.expected.now.xid c.args.zxid t) c.body_set.ensures
