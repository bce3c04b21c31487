use Rattle.std.proofs.Common.{rules, ◌≡◌, ◌++◌}
use Rattle.std.specs.Prelude.{FitsSigned}
use Rattle.std.specs.Int.{w64}
use Rattle.std.proofs.lemmas.Int.{to_z-of_z}
use Rattle.zk_records.specs.Records.{acl_vector, long}
use Rattle.zk_records.proofs.Joined.{joined_two}
use Rattle.zk_snapshot_writer.proofs.fields.put_access.Goals as goal

pub returns : goal.returns
returns c =
    let it = c.args.one.now in
    let number : FitsSigned w64 it.number = search rules in
    let a : c.put_long.new.out.items ≡ c.args.out.now.items ++ long it.number = simp to_z-of_z at c.in_ok-put_long.ensures in
    joined_two c.args.out.now.items (long it.number) (acl_vector it.acl) _ _ a c.in_ok-put_acl_vector.ensures
