use Rattle.std.proofs.Common.{◌<◌, ◌≤◌, ℤ, rules, length, subst, w64, to_z, of_z}
use Rattle.std.proofs.lemmas.Int.{to_z-of_z}
use Rattle.std.specs.FinMap as finite
use Rattle.zk_mend.specs.Digests.{Owners}
use Rattle.zk_stored_owners.proofs.Following.{log_on, logs_end}
use Rattle.zk_stored_owners.specs.StoredOwners.{FollowsLogs}
use Rattle.zk_stored_owners.proofs.follower.follow_logs.Goals as goal

pub loop-bytes-preserved : goal.loop-bytes-preserved
loop-bytes-preserved c = λ last owners rest.
    let logs = c.args.logs.now in
    let i = c.loop-bytes.bytes-index in
    let lt : i < length logs = search rules in
    c.loop-bytes.invariant last owners (log_on _ _ _ _ _ _ _ logs i _ lt c.in_ok-take_log.ensures rest)

pub returns : goal.returns
returns c =
    let logs = c.args.logs.now in
    let i = c.loop-bytes.bytes-index in
    let le : length logs ≤ i = search rules in
    let last = c.loop-bytes.follower.last in
    let start : Owners = finite.get c.args.owners in
    let after : Owners = finite.get c.loop-bytes.follower.owners in
    let whole : FollowsLogs (to_z w64 (of_z w64 c.args.upto)) (to_z w64 (of_z w64 c.args.from)) last start after logs = c.loop-bytes.invariant last after (logs_end _ last after logs i le) in (
      last,
      subst (λ (u : ℤ). FollowsLogs u c.args.from last start after logs) (to_z-of_z w64 c.args.upto c.ranges.upto)
          (subst (λ (f : ℤ). FollowsLogs (to_z w64 (of_z w64 c.args.upto)) f last start after logs) (to_z-of_z w64 c.args.from c.ranges.from) whole),
    )
