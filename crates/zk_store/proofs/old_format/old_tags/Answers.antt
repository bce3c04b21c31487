use Rattle.std.proofs.Common.{arith}
use Rattle.zk_store.specs.OldFormat.{old_tags}
use Rattle.zk_store.proofs.OldFiles.{old_few, old_fits, old_more}
use Rattle.zk_store.proofs.old_format.old_tags.Goals as goal

pub loop-rest-preserved : goal.loop-rest-preserved
loop-rest-preserved c =
    let tags = c.loop-rest.tags.items in
    let rest = c.loop-rest.rest.now in
    old_more tags rest c.get_u64.new.self.now c.args.file.now c.push.new.self.items c.get_u64.result (old_fits (old_tags tags) rest c.args.file.now (λ i. omega (arith, c.type_inv.file i)) c.loop-rest.invariant)
    (omega (arith, c.loop-rest-test.true)) c.get_u64.ensures.value c.get_u64.ensures.rest c.in_ok-push.ensures.items c.loop-rest.invariant

pub returns-clause-few : goal.returns-clause-few
returns-clause-few c = old_few c.loop-rest.tags.items c.loop-rest.rest.now c.args.file.now c.loop-rest.invariant
