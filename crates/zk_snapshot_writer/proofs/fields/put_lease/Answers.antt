use Rattle.std.proofs.Common.{rules, ◌≡◌, ◌++◌}
use Rattle.std.specs.Prelude.{FitsSigned}
use Rattle.std.specs.Int.{w32, w64}
use Rattle.std.proofs.lemmas.Int.{to_z-of_z}
use Rattle.zk_records.specs.Records.{int, long}
use Rattle.zk_records.proofs.Joined.{joined_two}
use Rattle.zk_snapshot_writer.proofs.fields.put_lease.Goals as goal

pub returns : goal.returns
returns c =
    let it = c.args.one.now in
    let session : FitsSigned w64 it.session = search rules in
    let timeout : FitsSigned w32 it.timeout = search rules in
    let a : c.put_long.new.out.items ≡ c.args.out.now.items ++ long it.session = simp to_z-of_z at c.in_ok-put_long.ensures in
    let b : c.put_int.new.out.items ≡ c.put_long.new.out.items ++ int it.timeout = simp to_z-of_z at c.in_ok-put_int.ensures in
    joined_two c.args.out.now.items (long it.session) (int it.timeout) _ _ a b
