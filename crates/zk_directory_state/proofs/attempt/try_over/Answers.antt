use Rattle.std.proofs.Common.{◌∙◌, w64, to_z, of_z, ap, map}
use Rattle.std.proofs.lemmas.Int.{to_z-of_z}
use Rattle.zk_directory_state.proofs.Chosen.{leads_over}
use Rattle.zk_directory_state.specs.Logs.{bytes_of, items_of}
use Rattle.zk_directory_state.proofs.attempt.try_over.Goals as goal

pub returns : goal.returns
returns g c =
    leads_over (g.L.Folder.bytes_in c.args.logs.now) c.args.snapshot.now c.args.zxid (to_z w64 (of_z w64 c.args.zxid)) c.args.upto c.args.logged.now c.logs_from-rest.result.now
    (map items_of c.in_ok-loaded.loaded.items) c.as_slice-2.result.now c.try_contents.result (to_z-of_z w64 c.args.zxid c.ranges.zxid) c.logs_from-rest.ensures c.in_ok-loaded.ensures.given
    (ap (map bytes_of) c.as_slice-2.ensures.value ∙ c.in_ok-slices.ensures ∙ ap (map items_of) c.as_slice.ensures.value)
    c.try_contents.ensures
