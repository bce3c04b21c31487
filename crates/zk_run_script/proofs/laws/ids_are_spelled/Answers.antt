use Rattle.std.proofs.Common.{◌≡◌, ◌<◌, ◌^◌, true, length, rules}
use Rattle.std.specs.List.{AllByRecursion}
use Rattle.zk_request_syntax.specs.RequestLines.{IsDigestId}
use Rattle.zk_run_script.specs.Lines.{is_digest}
use Rattle.zk_run_script.proofs.Spelled.{digests}
use Rattle.zk_run_script.proofs.laws.ids_are_spelled.Goals as goal

pub returns : goal.returns
returns c =
    let few : length c.args.ids.now < 2 ^ 64 = search rules in
    let each : AllByRecursion (λ id. is_digest id ≡ true → IsDigestId id) c.args.ids.now = search rules in
    digests c.args.ids.now few each
