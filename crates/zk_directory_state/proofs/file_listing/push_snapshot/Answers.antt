use Rattle.std.proofs.Common.{refl, ap, ◌∙◌, ◌++◌, FitsSigned, w64}
use Rattle.std.proofs.lemmas.Int.{to_z-of_z}
use Rattle.std.specs.String.{string_bytes}
use Rattle.zk_directory_state.specs.Files.{snapshot_line}
use Rattle.zk_directory_state.proofs.file_listing.push_snapshot.Goals as goal

pub returns-clause-line : goal.returns-clause-line
returns-clause-line g c =
    let bytes = c.in_ok-bytes.bytes.items in
    let fits : FitsSigned w64 c.args.zxid = c.ranges.zxid in
    let pushed = simp to_z-of_z at c.in_ok-push_snapshot_line.ensures in (
      snapshot_line c.args.zxid bytes,
      record { bytes = bytes; given = simp to_z-of_z at c.in_ok-bytes.ensures.given; line_of = refl },
      pushed ∙ ap (λ l. string_bytes c.args.text.now ++ snapshot_line c.args.zxid l) c.as_slice.ensures.value,
    )
