-- The identities so far.
use Rattle.std.proofs.Common.{◌≡◌, true, take}
use Rattle.std.specs.List.{AllByRecursion}
use Rattle.zk_request_syntax.specs.RequestLines.{IsDigestId}
use Rattle.zk_run_script.specs.Lines.{is_digest}
use Rattle.zk_run_script.proofs.laws.each_id_is_spelled.Given as goal

abbrev pub invariant-loop-id : goal.invariant-loop-id
invariant-loop-id l = AllByRecursion (λ id. is_digest id ≡ true → IsDigestId id) (take l.id-index l.ids)
