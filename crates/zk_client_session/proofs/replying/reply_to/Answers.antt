use Rattle.std.proofs.Common.{◌≡◌, ap, ◌∙◌, sym, rules}
use Rattle.std.specs.Prelude.{FitsSigned}
use Rattle.std.specs.Int.{w32, w64}
use Rattle.std.proofs.lemmas.Int.{to_z-of_z}
use Rattle.zk_client_session.specs.Replies.{replied, body_synced, body_paths, body_count, reply_to}
use Rattle.zk_client_session.proofs.replying.reply_to.Goals as goal

pub returns-in-CaughtUp : goal.returns-in-CaughtUp
returns-in-CaughtUp c =
    let zxid : FitsSigned w64 c.in-CaughtUp.zxid = search rules in
    let made : c.synced_reply.result ≡ replied c.args.expected.xid c.in-CaughtUp.zxid (body_synced c.args.expected.kind) = simp to_z-of_z at c.synced_reply.ensures in
    made ∙ ap (λ r. reply_to c.args.expected r) (sym c.in-CaughtUp.is)

pub returns-in-Paths : goal.returns-in-Paths
returns-in-Paths c =
    let zxid : FitsSigned w64 c.in-Paths.zxid = search rules in
    let made : c.paths_reply.result ≡ replied c.args.expected.xid c.in-Paths.zxid (body_paths c.args.expected.kind c.in-Paths.paths) = simp to_z-of_z at c.paths_reply.ensures in
    made ∙ ap (λ r. reply_to c.args.expected r) (sym c.in-Paths.is)

pub returns-in-Count : goal.returns-in-Count
returns-in-Count c =
    let zxid : FitsSigned w64 c.in-Count.zxid = search rules in
    let count : FitsSigned w32 c.in-Count.count = search rules in
    let made : c.count_reply.result ≡ replied c.args.expected.xid c.in-Count.zxid (body_count c.args.expected.kind c.in-Count.count) = simp to_z-of_z at c.count_reply.ensures in
    made ∙ ap (λ r. reply_to c.args.expected r) (sym c.in-Count.is)
