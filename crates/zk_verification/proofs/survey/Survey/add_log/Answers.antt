use Rattle.std.proofs.Common.{◌≡◌, rules, true}
use Rattle.zk_verification.proofs.Surveying.{log_surveyed}
use Rattle.zk_verification.proofs.survey.Survey.add_log.Goals as goal

pub returns : goal.returns
returns c =
    let read : c.args.log.now.is_read ≡ true = search rules in
    log_surveyed c.add_file.result _ _ c.args.log.now c.as_slice.result.now c.in_ok-file.file read c.in_ok-file.ensures c.as_slice.ensures.value c.add_file.ensures
