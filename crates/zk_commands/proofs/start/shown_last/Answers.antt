use Rattle.std.proofs.Common.{◌≡◌, rules, w64, to_z, of_z, ap, ◌∙◌}
use Rattle.std.proofs.lemmas.Int.{to_z-of_z}
use Rattle.zk_commands.specs.Starts.{before}
use Rattle.zk_commands.proofs.Started.{from_last}
use Rattle.zk_commands.proofs.start.shown_last.Goals as goal

pub returns : goal.returns
returns g c =
    let last : to_z w64 (of_z w64 c.last.result) ≡ c.last.result = to_z-of_z w64 c.last.result (search rules) in
    let zxid : to_z w64 (of_z w64 c.before-zxid.result) ≡ c.before-zxid.result = to_z-of_z w64 c.before-zxid.result (search rules) in
    from_last (record { snapshots = g.S.Folder.names_in c.args.snapshots.now; snapshot_bytes = g.S.Folder.bytes_in c.args.snapshots.now; logs = g.L.Folder.names_in c.args.logs.now; log_bytes = g.L.Folder.bytes_in c.args.logs.now })
    c.in-Ok.last (to_z w64 (of_z w64 c.before-zxid.result)) c.shown_of-earlier.result c.shown_before.result c.in-Ok.ensures (zxid ∙ c.before-zxid.ensures ∙ ap before (last ∙ c.last.ensures)) c.shown_of-earlier.ensures c.shown_before.ensures
