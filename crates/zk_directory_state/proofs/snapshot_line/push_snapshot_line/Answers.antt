use Rattle.std.proofs.Common.{◌∙◌, ◌++◌, ap, append_assoc, sym, FitsSigned, w64}
use Rattle.std.proofs.lemmas.Int.{to_z-of_z}
use Rattle.std.specs.String.{string_bytes}
use Rattle.zk_directory_state.specs.Files.{contents_text, read_text}
use Rattle.zk_directory_state.specs.Names.{snapshot_name}
use Rattle.zk_directory_state.proofs.snapshot_line.push_snapshot_line.Goals as goal

pub returns-in_ok-push_contents-in-Ok : goal.returns-in_ok-push_contents-in-Ok
returns-in_ok-push_contents-in-Ok c =
    let zxid = c.args.zxid in
    let old = string_bytes c.args.text.now in
    let held = contents_text zxid c.in-Ok.snapshot in
    let fits : FitsSigned w64 zxid = c.ranges.zxid in
    let named = simp to_z-of_z at c.in_ok-push_snapshot_name.ensures in
    let appended = simp to_z-of_z at c.in_ok-push_contents-in-Ok.ensures in
    appended ∙ ap (λ l. l ++ held) named ∙ append_assoc old (snapshot_name zxid) held ∙ ap (λ r. old ++ (snapshot_name zxid ++ read_text zxid c.args.bytes.now r)) (sym c.in-Ok.ensures.exact)
