use Rattle.std.proofs.Common.{length, pos}
use Rattle.zk_records.specs.Records.{int}
use Rattle.zk_snapshot.specs.Snapshots.{access}
use Rattle.zk_snapshot_writer.proofs.Joined.{element_more}
use Rattle.zk_snapshot_writer.proofs.fields.put_accesses.Goals as goal

pub loop-one-preserved : goal.loop-one-preserved
loop-one-preserved c =
    element_more access c.args.out.now.items (int (pos (length c.args.accesses.now))) c.loop-one.out.items c.put_access.new.out.items c.args.accesses.now c.loop-one.one-index c.one-item.result c.loop-one-test.true c.one-item.is c.loop-one.invariant c.in_ok-put_access.ensures
