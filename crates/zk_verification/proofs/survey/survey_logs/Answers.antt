use Rattle.std.proofs.Common.{◌≡◌, ◌<◌, rules, length, get_or}
use Rattle.zk_verification.proofs.Surveying.{next_surveyed}
use Rattle.zk_verification.specs.Surveys.{surveyed_by}
use Rattle.zk_verification.proofs.survey.survey_logs.Goals as goal

pub loop-log-preserved : goal.loop-log-preserved
loop-log-preserved c =
    let logs = c.args.logs.now in
    let i = c.loop-log.log-index in
    let lt : i < length logs = search rules in
    let is : c.log-item.result ≡ get_or logs i c.log-item.result = search rules in
    λ new rest. c.loop-log.invariant new (next_surveyed (surveyed_by c.loop-log.survey) (surveyed_by c.add_log.new.self) new logs i c.log-item.result lt is c.in_ok-add_log.ensures rest)
