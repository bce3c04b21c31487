use Rattle.std.proofs.Common.{rules, ◌≡◌, ◌++◌}
use Rattle.std.specs.Prelude.{FitsSigned}
use Rattle.std.specs.Int.{w32, w64}
use Rattle.std.proofs.lemmas.Int.{to_z-of_z}
use Rattle.zk_records.specs.Records.{int, long}
use Rattle.zk_snapshot_writer.proofs.Joined.{joined_three}
use Rattle.zk_snapshot_writer.proofs.nodes.put_versions.Goals as goal

pub returns : goal.returns
returns c =
    let it = c.args.one.now in
    let version : FitsSigned w32 it.version = search rules in
    let creates : FitsSigned w32 it.creates = search rules in
    let aversion : FitsSigned w32 it.aversion = search rules in
    let one : c.put_int.new.out.items ≡ c.args.out.now.items ++ int it.version = simp to_z-of_z at c.in_ok-put_int.ensures in
    let two : c.put_int-2.new.out.items ≡ c.put_int.new.out.items ++ int it.creates = simp to_z-of_z at c.in_ok-put_int-2.ensures in
    let three : c.put_int-3.new.out.items ≡ c.put_int-2.new.out.items ++ int it.aversion = simp to_z-of_z at c.in_ok-put_int-3.ensures in
    joined_three c.args.out.now.items (int it.version) (int it.creates) (int it.aversion) _ _ _ one two three
