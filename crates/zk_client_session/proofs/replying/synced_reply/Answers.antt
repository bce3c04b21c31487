use Rattle.std.proofs.Common.{◌≡◌, ap, ◌∙◌, rules}
use Rattle.std.specs.Prelude.{FitsSigned}
use Rattle.std.specs.Int.{w32, w64}
use Rattle.std.proofs.lemmas.Int.{to_z-of_z}
use Rattle.zk_client_session.specs.Replies.{replied}
use Rattle.zk_client_session.proofs.replying.synced_reply.Goals as goal

pub returns : goal.returns
returns c =
    let xid : FitsSigned w32 c.args.expected.xid = search rules in
    let zxid : FitsSigned w64 c.args.zxid = c.ranges.zxid in
    let made : c.replied.result ≡ replied c.args.expected.xid c.args.zxid c.body_synced.result = simp to_z-of_z at c.replied.ensures in
    made ∙ ap (λ t. replied c.args.expected.xid c.args.zxid t) c.body_synced.ensures
