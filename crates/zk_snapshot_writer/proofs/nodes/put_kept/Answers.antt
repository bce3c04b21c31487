use Rattle.std.proofs.Common.{rules, ◌≡◌, ◌++◌}
use Rattle.std.specs.Prelude.{FitsSigned}
use Rattle.std.specs.Int.{w64}
use Rattle.std.proofs.lemmas.Int.{to_z-of_z}
use Rattle.zk_records.specs.Records.{buffer, long}
use Rattle.zk_snapshot.specs.Snapshots.{moments, versions}
use Rattle.zk_snapshot_writer.proofs.Joined.{joined_six}
use Rattle.zk_snapshot_writer.proofs.nodes.put_kept.Goals as goal

pub returns : goal.returns
returns c =
    let it = c.args.one.now in
    let access : FitsSigned w64 it.access = c.requires.access in
    let owner : FitsSigned w64 it.owner = c.requires.owner in
    let pzxid : FitsSigned w64 it.pzxid = c.requires.pzxid in
    let two : c.put_long.new.out.items ≡ c.put_content.new.out.items ++ long it.access = simp to_z-of_z at c.in_ok-put_long.ensures in
    let five : c.put_long-2.new.out.items ≡ c.put_versions.new.out.items ++ long it.owner = simp to_z-of_z at c.in_ok-put_long-2.ensures in
    let six : c.put_long-3.new.out.items ≡ c.put_long-2.new.out.items ++ long it.pzxid = simp to_z-of_z at c.in_ok-put_long-3.ensures in
    joined_six c.args.out.now.items (buffer it.content) (long it.access) (moments it.moments) (versions it.versions) (long it.owner) (long it.pzxid) _ _ _ _ _ _
    c.in_ok-put_content.ensures two c.in_ok-put_moments.ensures c.in_ok-put_versions.ensures five six
