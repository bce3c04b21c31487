-- The entries so far, and the remaining ones.
use Rattle.std.proofs.Common.{◌≡◌, drop}
use Rattle.zk_verification.specs.Surveys.{survey_entries, surveyed_by}
use Rattle.zk_verification.proofs.survey.Survey.add_entries.Given as goal

abbrev pub invariant-loop-entry : goal.invariant-loop-entry
invariant-loop-entry l = survey_entries l.fn.log.zxid (surveyed_by l.fn.self) l.fn.entries ≡ survey_entries l.fn.log.zxid (surveyed_by l.self) (drop l.entry-index l.fn.entries)
