-- The runs so far, and the remaining ones.
use Rattle.std.proofs.Common.{◌≡◌, drop}
use Rattle.zk_verification.specs.Surveys.{survey_runs, surveyed_by}
use Rattle.zk_verification.proofs.survey.Survey.add_runs.Given as goal

abbrev pub invariant-loop-run : goal.invariant-loop-run
invariant-loop-run l = survey_runs l.fn.log.zxid l.fn.first l.fn.runs (surveyed_by l.fn.self) ≡ survey_runs l.fn.log.zxid l.stop (drop l.run-index l.fn.runs) (surveyed_by l.self)
