use Rattle.std.proofs.Common.{◌≡◌, ◌<◌, ◌≤◌, rules, length, get_or}
use Rattle.zk_verification.proofs.Surveying.{runs_ended, runs_on}
use Rattle.zk_verification.proofs.survey.Survey.add_runs.Goals as goal

pub loop-run-preserved : goal.loop-run-preserved
loop-run-preserved c =
    let items = c.args.runs.now in
    let lt : c.loop-run.run-index < length items = search rules in
    let is : c.run-item.result ≡ get_or items c.loop-run.run-index c.run-item.result = search rules in
    runs_on c.args.log.now.zxid c.loop-run.stop _ _ _ items c.loop-run.run-index c.run-item.result lt is c.in_ok-add_run.ensures c.loop-run.invariant

pub returns : goal.returns
returns c =
    let items = c.args.runs.now in
    let le : length items ≤ c.loop-run.run-index = search rules in
    runs_ended c.add_outcome.result c.args.log.now.zxid c.loop-run.stop _ _ _ items c.loop-run.run-index le c.loop-run.invariant c.add_outcome.ensures
