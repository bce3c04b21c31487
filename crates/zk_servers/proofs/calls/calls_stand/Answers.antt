use Rattle.std.proofs.Common.{◌≡◌, ◌<◌, length, arith, rules}
use Rattle.zk_servers.specs.Calls.{StandsAt}
use Rattle.zk_servers.proofs.Scans.{all_more}
use Rattle.zk_servers.proofs.calls.calls_stand.Goals as goal

pub returns-then-not-stands_at-clause-no : goal.returns-then-not-stands_at-clause-no
returns-then-not-stands_at-clause-no c _ all =
    let below : c.loop-at.at < length c.args.calls.now = search rules in
    c.stands_at.ensures.no c.if-not-stands_at.true (all c.loop-at.at below)

pub loop-at-preserved : goal.loop-at-preserved
loop-at-preserved c =
    all_more (StandsAt c.args.records.now c.args.calls.now) c.loop-at.at c.loop-at.invariant (c.stands_at.ensures.yes (search rules))

pub returns-clause-yes : goal.returns-clause-yes
returns-clause-yes c _ =
    let ends : length c.args.calls.now ≡ c.loop-at.at = search rules in
    λ at below. c.loop-at.invariant at (omega (arith, ends, below))
