use Rattle.std.proofs.Common.{OnOk, FitsSigned, w64, subst, sym}
use Rattle.std.proofs.lemmas.Int.{to_z-of_z}
use Rattle.std.specs.String.{string_bytes}
use Rattle.zk_json.specs.Json.{AppendsLineOf, object_of}
use Rattle.zk_json_files.specs.Snapshots.{read_fields}
use Rattle.zk_json_files.proofs.snapshot_line.push_snapshot_line.Goals as goal

pub returns-in-Ok : goal.returns-in-Ok
returns-in-Ok c =
    let fits : FitsSigned w64 c.args.zxid = c.ranges.zxid in
    let pushed = simp to_z-of_z at c.push_contents.ensures in
    subst (λ r. OnOk c.push_contents.result (AppendsLineOf (object_of (read_fields c.args.name.now c.args.zxid c.args.bytes.now r)) (string_bytes c.args.text.now) (string_bytes c.push_contents.new.text))) (sym c.in-Ok.ensures.exact) pushed
