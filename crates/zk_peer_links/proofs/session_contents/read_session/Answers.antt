use Rattle.std.proofs.Common.{◌≡◌, ◌∙◌, rules, to_z, of_z, w32, w64, arith}
use Rattle.zk_peer_links.proofs.SessionContents.{no_news, spelled_in_parts}
use Rattle.zk_peer_links.proofs.session_contents.read_session.Goals as goal

pub returns-in_default-clause-none : goal.returns-in_default-clause-none
returns-in_default-clause-none c = no_news c.args.contents.now c.head-sender.result.2 c.head-sender.ensures.kind c.in_default.ensures.none

pub returns-clause-spelled : goal.returns-clause-spelled
returns-clause-spelled c =
    let session : to_z w64 (of_z w64 c.cast_signed.result) ≡ c.cast_signed.result = search rules in
    let timeout : to_z w32 (of_z w32 c.cast_signed-2.result) ≡ c.cast_signed-2.result = search rules in
    spelled_in_parts c.args.contents.now c.head-sender.result.3.now c.in-Some.news c.head-sender.result.0 c.head-sender.result.1 c.head-sender.result.2 c.fields-session.result.0 c.fields-session.result.1
    (to_z w64 (of_z w64 c.cast_signed.result)) (to_z w32 (of_z w32 c.cast_signed-2.result))
    (omega arith) (λ i. omega (arith, c.type_inv.contents i)) c.head-sender.ensures.later
    c.head-sender.ensures.server c.head-sender.ensures.addressee c.head-sender.ensures.kind c.in-Some.ensures.some
    c.fields-session.ensures.session c.fields-session.ensures.timeout (session ∙ c.cast_signed.ensures) (timeout ∙ c.cast_signed-2.ensures)
