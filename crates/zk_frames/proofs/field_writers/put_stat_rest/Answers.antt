use Rattle.std.proofs.Common.{◌≡◌, ◌++◌, rules}
use Rattle.std.specs.Prelude.{FitsSigned}
use Rattle.std.specs.Int.{w32, w64}
use Rattle.std.proofs.lemmas.Int.{to_z-of_z}
use Rattle.zk_records.specs.Records.{int, long}
use Rattle.zk_frames.proofs.Joined.{joined_four}
use Rattle.zk_frames.proofs.field_writers.put_stat_rest.Goals as goal

pub returns : goal.returns
returns c =
    let f_ephemeral_owner : FitsSigned w64 c.args.stat.ephemeral_owner = search rules in
    let e_ephemeral_owner : c.put_long.new.out.items ≡ c.args.out.now.items ++ long c.args.stat.ephemeral_owner = simp to_z-of_z at c.in_ok-put_long.ensures in
    let f_data_length : FitsSigned w32 c.args.stat.data_length = search rules in
    let e_data_length : c.put_int.new.out.items ≡ c.put_long.new.out.items ++ int c.args.stat.data_length = simp to_z-of_z at c.in_ok-put_int.ensures in
    let f_num_children : FitsSigned w32 c.args.stat.num_children = search rules in
    let e_num_children : c.put_int-2.new.out.items ≡ c.put_int.new.out.items ++ int c.args.stat.num_children = simp to_z-of_z at c.in_ok-put_int-2.ensures in
    let f_pzxid : FitsSigned w64 c.args.stat.pzxid = search rules in
    let e_pzxid : c.put_long-2.new.out.items ≡ c.put_int-2.new.out.items ++ long c.args.stat.pzxid = simp to_z-of_z at c.in_ok-put_long-2.ensures in
    joined_four c.args.out.now.items (long c.args.stat.ephemeral_owner) (int c.args.stat.data_length) (int c.args.stat.num_children) (long c.args.stat.pzxid) _ _ _ _ e_ephemeral_owner e_data_length e_num_children e_pzxid
