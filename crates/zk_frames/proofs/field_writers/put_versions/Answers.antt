use Rattle.std.proofs.Common.{◌≡◌, ◌++◌, rules}
use Rattle.std.specs.Prelude.{FitsSigned}
use Rattle.std.specs.Int.{w32}
use Rattle.std.proofs.lemmas.Int.{to_z-of_z}
use Rattle.zk_records.specs.Records.{int}
use Rattle.zk_frames.proofs.Joined.{joined_three}
use Rattle.zk_frames.proofs.field_writers.put_versions.Goals as goal

pub returns : goal.returns
returns c =
    let f_version : FitsSigned w32 c.args.stat.version = search rules in
    let e_version : c.put_int.new.out.items ≡ c.args.out.now.items ++ int c.args.stat.version = simp to_z-of_z at c.in_ok-put_int.ensures in
    let f_cversion : FitsSigned w32 c.args.stat.cversion = search rules in
    let e_cversion : c.put_int-2.new.out.items ≡ c.put_int.new.out.items ++ int c.args.stat.cversion = simp to_z-of_z at c.in_ok-put_int-2.ensures in
    let f_aversion : FitsSigned w32 c.args.stat.aversion = search rules in
    let e_aversion : c.put_int-3.new.out.items ≡ c.put_int-2.new.out.items ++ int c.args.stat.aversion = simp to_z-of_z at c.in_ok-put_int-3.ensures in
    joined_three c.args.out.now.items (int c.args.stat.version) (int c.args.stat.cversion) (int c.args.stat.aversion) _ _ _ e_version e_cversion e_aversion
