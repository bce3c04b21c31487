use Rattle.std.proofs.Common.{rules, ◌≡◌, ◌++◌, pos}
use Rattle.std.specs.Prelude.{FitsSigned}
use Rattle.std.specs.Int.{w32, w64}
use Rattle.std.proofs.lemmas.Int.{to_z-of_z}
use Rattle.zk_records.specs.Records.{int, long}
use Rattle.zk_snapshot_writer.proofs.Joined.{joined_three}
use Rattle.zk_snapshot_writer.proofs.fields.put_header.Goals as goal

pub returns : goal.returns
returns c =
    let dbid : FitsSigned w64 c.args.dbid = c.ranges.dbid in
    let three : c.put_long.new.out.items ≡ c.put_int-2.new.out.items ++ long c.args.dbid = simp to_z-of_z at c.in_ok-put_long.ensures in
    joined_three c.args.out.now.items (int (pos 0x5a4b534e)) (int (pos 2)) (long c.args.dbid) _ _ _ c.in_ok-put_int.ensures c.in_ok-put_int-2.ensures three
