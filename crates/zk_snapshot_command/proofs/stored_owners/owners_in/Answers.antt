use Rattle.std.proofs.Common.{◌≡◌, pos, rules, w64, to_z, of_z, ◌∙◌}
use Rattle.std.proofs.lemmas.Int.{to_z-of_z}
use Rattle.std.proofs.lemmas.Result.{IfOk-weaker}
use Rattle.std.specs.FinMap as finite
use Rattle.std.specs.Option.{unwrap_or}
use Rattle.zk_snapshot_command.proofs.Owning.{owned}
use Rattle.zk_snapshot_command.proofs.stored_owners.owners_in.Goals as goal

pub returns-clause-owners : goal.returns-clause-owners
returns-clause-owners g c =
    let shown = c.args.shown.now in
    let upto : to_z w64 (of_z w64 c.unwrap_or-upto.result) ≡ unwrap_or shown.restored.position (pos 0) = to_z-of_z w64 c.unwrap_or-upto.result (search rules) ∙ c.unwrap_or-upto.ensures in
    IfOk-weaker c.owners_over.result _ _
    (λ owners over. owned (g.S.Folder.bytes_in c.args.snapshots.now) (g.L.Folder.names_in c.args.logs.now) (g.L.Folder.bytes_in c.args.logs.now) shown c.in_ok-logged.logged.items c.as_slice.result.now _ c.base_of-base.result (finite.get owners)
    c.in_ok-logged.ensures.given c.as_slice.ensures.value upto c.base_of-base.ensures over)
    c.owners_over.ensures.owners
