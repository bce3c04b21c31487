use Rattle.std.proofs.Common.{pos, get_or, rules, w64, to_z, of_z, subst}
use Rattle.std.proofs.lemmas.Int.{to_z-of_z}
use Rattle.zk_session_commands.proofs.Passing.{passed_over}
use Rattle.zk_session_commands.specs.FirstKnown.{Knows}
use Rattle.zk_session_commands.proofs.base_known.known_of.Goals as goal

pub loop-rest-preserved : goal.loop-rest-preserved
loop-rest-preserved g c =
    let bytes_in = g.S.Folder.bytes_in c.args.snapshots.now in
    let rest = c.loop-rest.rest.now in
    let zxid = to_z w64 (of_z w64 (get_or rest 0 (pos 0))) in
    passed_over bytes_in c.args.first.zxid c.args.held.now rest zxid c.in-len1-up.len_at_least (to_z-of_z w64 (get_or rest 0 (pos 0)) (search rules)) (subst (Knows bytes_in c.args.first.zxid zxid) c.in_default-2.is c.in_ok-known.ensures) c.loop-rest.invariant
