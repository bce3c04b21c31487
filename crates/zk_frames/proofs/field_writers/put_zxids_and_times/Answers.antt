use Rattle.std.proofs.Common.{◌≡◌, ◌++◌, rules}
use Rattle.std.specs.Prelude.{FitsSigned}
use Rattle.std.specs.Int.{w64}
use Rattle.std.proofs.lemmas.Int.{to_z-of_z}
use Rattle.zk_records.specs.Records.{long}
use Rattle.zk_frames.proofs.Joined.{joined_four}
use Rattle.zk_frames.proofs.field_writers.put_zxids_and_times.Goals as goal

pub returns : goal.returns
returns c =
    let f_czxid : FitsSigned w64 c.args.stat.czxid = search rules in
    let e_czxid : c.put_long.new.out.items ≡ c.args.out.now.items ++ long c.args.stat.czxid = simp to_z-of_z at c.in_ok-put_long.ensures in
    let f_mzxid : FitsSigned w64 c.args.stat.mzxid = search rules in
    let e_mzxid : c.put_long-2.new.out.items ≡ c.put_long.new.out.items ++ long c.args.stat.mzxid = simp to_z-of_z at c.in_ok-put_long-2.ensures in
    let f_ctime : FitsSigned w64 c.args.stat.ctime = search rules in
    let e_ctime : c.put_long-3.new.out.items ≡ c.put_long-2.new.out.items ++ long c.args.stat.ctime = simp to_z-of_z at c.in_ok-put_long-3.ensures in
    let f_mtime : FitsSigned w64 c.args.stat.mtime = search rules in
    let e_mtime : c.put_long-4.new.out.items ≡ c.put_long-3.new.out.items ++ long c.args.stat.mtime = simp to_z-of_z at c.in_ok-put_long-4.ensures in
    joined_four c.args.out.now.items (long c.args.stat.czxid) (long c.args.stat.mzxid) (long c.args.stat.ctime) (long c.args.stat.mtime) _ _ _ _ e_czxid e_mzxid e_ctime e_mtime
