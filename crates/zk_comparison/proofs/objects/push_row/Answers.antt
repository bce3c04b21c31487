use Rattle.std.proofs.Common.{OnOk, subst}
use Rattle.std.specs.String.{string_bytes}
use Rattle.json.specs.Json.{Json}
use Rattle.zk_comparison.specs.Objects.{stretch_fields, to_of}
use Rattle.zk_json.specs.Json.{AppendsLineOf, object_of}
use Rattle.zk_json.specs.Objects.{value_of}
use Rattle.zk_comparison.proofs.objects.push_row.Goals as goal

pub returns : goal.returns
returns c =
    let old = string_bytes c.args.text.now in
    let new = string_bytes c.push_object_line.new.text in
    let fields = λ (from to : Json). stretch_fields c.args.kind.now (value_of c.args.directory) c.args.stretch.count from to (value_of c.args.time) (value_of c.args.end) in
    subst (λ (from : Json). OnOk c.push_object_line.result (AppendsLineOf (object_of (fields from (to_of c.args.stretch.span))) old new)) c.from_of.ensures
    (subst (λ (to : Json). OnOk c.push_object_line.result (AppendsLineOf (object_of (fields (value_of c.from_of.result) to)) old new)) c.to_of.ensures c.push_object_line.ensures)
