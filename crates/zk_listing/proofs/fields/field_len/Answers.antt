use Rattle.std.proofs.Common.{rules, ◌≤◌, ◌+◌, length}
use Rattle.zk_listing.proofs.FieldLaws.{end_within}
use Rattle.zk_listing.proofs.fields.field_len.Goals as goal

pub overflow_add-result : goal.overflow_add-result
overflow_add-result c =
    let within : c.steps_len-start.result + c.rest_len.result ≤ length c.args.bytes.now = end_within c.steps_len-start.result c.rest_len.result c.args.bytes.now c.rest_len.ensures c.steps_len-start.ensures.within in
    search rules
