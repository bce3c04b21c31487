use Rattle.std.proofs.Common.{◌≡◌, ℤ, IfOk, rules, w64, to_z, of_z, refl, subst}
use Rattle.std.proofs.lemmas.Int.{to_z-of_z}
use Rattle.zk_verification.proofs.Follow.{restored_to}
use Rattle.zk_verification.specs.Following.{IsRestoredTo}
use Rattle.zk_verification.proofs.following.restore_to.Goals as goal

pub returns : goal.returns
returns c =
    let from : to_z w64 (of_z w64 c.args.exact.zxid) ≡ c.args.exact.zxid = search rules in
    subst (λ (v : ℤ). IfOk c.mark_of.result (λ mark. IsRestoredTo c.args.snapshot.now v c.args.exact c.args.upto c.args.logged.now c.args.logs.now mark)) (to_z-of_z w64 c.args.zxid c.ranges.zxid)
    (restored_to c.mark_of.result c.restore.result c.args.snapshot.now _ (to_z w64 (of_z w64 c.args.zxid)) c.args.exact _ c.args.upto c.args.logged.now c.args.logs.now refl from c.restore.ensures c.mark_of.ensures)
