use Rattle.std.proofs.Common.{ap, length, arith}
use Rattle.std.proofs.lemmas.List.{length-drop}
use Rattle.zk_peer_links.proofs.Contents.{other_addressee, other_kind, spelled_in_parts}
use Rattle.zk_peer_links.proofs.notice_contents.read_notice.Goals as goal

pub returns-then-addressee-ne0-clause-none : goal.returns-then-addressee-ne0-clause-none
returns-then-addressee-ne0-clause-none c = other_addressee c.args.contents.now c.head-server.result.1 c.head-server.ensures.addressee c.if-addressee-ne0.true

pub returns-then-kind-ne-KIND-clause-none : goal.returns-then-kind-ne-KIND-clause-none
returns-then-kind-ne-KIND-clause-none c = other_kind c.args.contents.now c.head-server.result.2 c.head-server.ensures.kind c.if-kind-ne-KIND.true

pub leader-requires : goal.leader-requires
leader-requires c =
    omega (arith, ap length c.fields-round.ensures.later, ap length c.head-server.ensures.later, length-drop 20 c.args.contents.now, length-drop 20 c.head-server.result.3.now)

pub returns-clause-spelled : goal.returns-clause-spelled
returns-clause-spelled c =
    let contents = c.args.contents.now in
    let middle = c.head-server.result.3.now in
    let last = c.fields-round.result.3.now in
    spelled_in_parts contents middle last c.fields-round.result.0 c.fields-round.result.1 c.head-server.result.0 c.leader.result c.fields-round.result.2 c.cast_signed.result
    (omega arith) (λ i. omega (arith, c.type_inv.contents i)) c.head-server.ensures.later c.fields-round.ensures.later
    c.head-server.ensures.server (omega (arith, c.head-server.ensures.addressee)) (omega (arith, c.head-server.ensures.kind)) c.fields-round.ensures.round c.fields-round.ensures.epoch
    c.fields-round.ensures.zxid c.cast_signed.ensures c.leader.ensures
