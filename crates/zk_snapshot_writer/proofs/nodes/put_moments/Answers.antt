use Rattle.std.proofs.Common.{rules, ◌≡◌, ◌++◌}
use Rattle.std.specs.Prelude.{FitsSigned}
use Rattle.std.specs.Int.{w32, w64}
use Rattle.std.proofs.lemmas.Int.{to_z-of_z}
use Rattle.zk_records.specs.Records.{int, long}
use Rattle.zk_snapshot_writer.proofs.Joined.{joined_four}
use Rattle.zk_snapshot_writer.proofs.nodes.put_moments.Goals as goal

pub returns : goal.returns
returns c =
    let it = c.args.one.now in
    let czxid : FitsSigned w64 it.czxid = search rules in
    let mzxid : FitsSigned w64 it.mzxid = search rules in
    let ctime : FitsSigned w64 it.ctime = search rules in
    let mtime : FitsSigned w64 it.mtime = search rules in
    let one : c.put_long.new.out.items ≡ c.args.out.now.items ++ long it.czxid = simp to_z-of_z at c.in_ok-put_long.ensures in
    let two : c.put_long-2.new.out.items ≡ c.put_long.new.out.items ++ long it.mzxid = simp to_z-of_z at c.in_ok-put_long-2.ensures in
    let three : c.put_long-3.new.out.items ≡ c.put_long-2.new.out.items ++ long it.ctime = simp to_z-of_z at c.in_ok-put_long-3.ensures in
    let four : c.put_long-4.new.out.items ≡ c.put_long-3.new.out.items ++ long it.mtime = simp to_z-of_z at c.in_ok-put_long-4.ensures in
    joined_four c.args.out.now.items (long it.czxid) (long it.mzxid) (long it.ctime) (long it.mtime) _ _ _ _ one two three four
