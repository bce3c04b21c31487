use Rattle.std.proofs.Common.{rules, ◌≡◌, ◌++◌}
use Rattle.std.specs.Prelude.{FitsSigned}
use Rattle.std.specs.Int.{w32, w64}
use Rattle.std.proofs.lemmas.Int.{to_z-of_z}
use Rattle.zk_records.specs.Records.{int, long}
use Rattle.zk_snapshot_writer.proofs.Joined.{joined_three}
use Rattle.zk_snapshot_writer.proofs.fields.put_claim.Goals as goal

pub returns : goal.returns
returns c =
    let it = c.args.one.now in
    let zxid : FitsSigned w64 it.zxid = search rules in
    let version : FitsSigned w32 it.version = search rules in
    let sum : FitsSigned w64 it.sum = search rules in
    let one : c.put_long.new.out.items ≡ c.args.out.now.items ++ long it.zxid = simp to_z-of_z at c.in_ok-put_long.ensures in
    let two : c.put_int.new.out.items ≡ c.put_long.new.out.items ++ int it.version = simp to_z-of_z at c.in_ok-put_int.ensures in
    let three : c.put_long-2.new.out.items ≡ c.put_int.new.out.items ++ long it.sum = simp to_z-of_z at c.in_ok-put_long-2.ensures in
    joined_three c.args.out.now.items (long it.zxid) (int it.version) (long it.sum) _ _ _ one two three
