use Rattle.std.proofs.Common.{◌≡◌, rules, w64, to_z, of_z, ap, ◌∙◌}
use Rattle.std.proofs.lemmas.Int.{to_z-of_z}
use Rattle.std.proofs.lemmas.Result.{IfOk-weaker}
use Rattle.std.specs.FinMap as finite
use Rattle.zk_snapshot_command.proofs.Owning.{over_nothing, over_snapshot}
use Rattle.zk_table.specs.States.{path_cmp}
use Rattle.zk_snapshot_command.proofs.stored_owners.owners_over.Goals as goal

pub returns-in_ok-owners-in-Some-clause-owners : goal.returns-in_ok-owners-in-Some-clause-owners
returns-in_ok-owners-in-Some-clause-owners g c =
    let same : to_z w64 (of_z w64 c.in-Some.zxid) ≡ c.in-Some.zxid = to_z-of_z w64 c.in-Some.zxid (search rules) in
    let upto : to_z w64 (of_z w64 c.args.upto) ≡ c.args.upto = to_z-of_z w64 c.args.upto c.ranges.upto in
    IfOk-weaker c.owners_from.result _ _
    (λ owners followed. over_snapshot (g.S.Folder.bytes_in c.args.snapshots.now) (g.L.Folder.bytes_in c.args.logs.now) c.args.base c.in-Some.zxid _ c.args.upto _ c.args.logged.now c.logs_from-after.result.now
    (finite.get c.in_ok-owners-in-Some.owners) (finite.get owners) c.in-Some.is same upto c.in_ok-owners-in-Some.ensures.stored c.logs_from-after.ensures followed)
    c.owners_from.ensures.followed

pub returns-in-None-clause-owners : goal.returns-in-None-clause-owners
returns-in-None-clause-owners g c =
    let upto : to_z w64 (of_z w64 c.args.upto) ≡ c.args.upto = to_z-of_z w64 c.args.upto c.ranges.upto in
    IfOk-weaker c.owners_from-in-None.result _ _
    (λ owners followed. over_nothing (g.S.Folder.bytes_in c.args.snapshots.now) (g.L.Folder.bytes_in c.args.logs.now) c.args.base c.args.upto _ c.args.logged.now (finite.get c.new.result) (finite.get owners) c.in-None.is upto
    (λ path. ap (λ m. finite.get m path) c.new.ensures ∙ finite.get-empty path_cmp path) followed)
    c.owners_from-in-None.ensures.followed
