-- The logs so far, followed by the others, are all.
use Rattle.std.proofs.Common.{drop}
use Rattle.zk_verification.specs.Surveys.{AreSurveyed, Surveyed, start_survey, surveyed_by}
use Rattle.zk_verification.proofs.survey.survey_logs.Given as goal

abbrev pub invariant-loop-log : goal.invariant-loop-log
invariant-loop-log l = (new : Surveyed) → AreSurveyed (surveyed_by l.survey) (drop l.log-index l.fn.logs) new → AreSurveyed start_survey l.fn.logs new
