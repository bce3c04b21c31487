use Rattle.std.proofs.Common.{◌≡◌, ◌+◌, ◌-◌, arith}
use Rattle.zk_snapshot_writer.proofs.Handing.{more_appended, more_left}
use Rattle.zk_snapshot_writer.proofs.writer.SnapshotWriter.write_some.Goals as goal

pub loop-room-preserved : goal.loop-room-preserved
loop-room-preserved c =
    let most = c.args.most in
    let room = c.loop-room.room in
    let count = c.in_ok-room.field-0 in
    let so_far = c.loop-room.invariant in
    let given = c.in_ok-room.ensures in
    let sum : most - (room - count) ≡ (most - room) + count = omega (arith, so_far.0, given.most) in (
      omega (arith, so_far.0),
      more_appended c.args.self.now c.args.out.now.items c.loop-room.out.items c.hand_over.new.out.items c.loop-room.self (most - room) count (most - (room - count)) so_far.1 so_far.2 given.appended sum,
      more_left c.args.self.now c.loop-room.self c.hand_over.new.self (most - room) count (most - (room - count)) so_far.2 given.rest sum,
    )
