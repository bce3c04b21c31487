-- Two directories, compared.
use Rattle.std.proofs.Common.{◌≡◌, ℕ, ℤ, List, [], ◌++◌, length, Option, Some, Result, Ok, Err, inl, inr, refl, ap, ◌∙◌, arith}
use Rattle.std.specs.String.{string_bytes}
use Rattle.zk_comparison.specs.Notices.{AppendsNotices}
use Rattle.zk_comparison.specs.Reports.{AreLogsOf, AreNoticesOf, Broken, Empty, FindsComparison, FindsLoaded, FindsOfLogs, FindsSurvey, IsComparison, Keeps, Unlisted, end_in, fault_of}
use Rattle.zk_comparison.specs.Sources.{Source}
use Rattle.zk_comparison.specs.Trees.{FindsTrees}
use Rattle.zk_comparison.specs.declared.trees.Trees.{Trees}
use Rattle.zk_comparison.specs.declared.comparison.Report.{Report}
use Rattle.zk_comparison.specs.declared.finding.Directory.TheVariants.{First, Second}
use Rattle.zk_directory_state.specs.Names.{log_zxid, snapshot_zxid}
use Rattle.zk_directory_state.specs.declared.fault.HistoryFault.{HistoryFault}
use Rattle.zk_directory_state.specs.declared.fault.HistoryFault.TheVariants as faults
use Rattle.zk_directory_state.specs.Histories.{AreIn}
use Rattle.zk_directory_state.proofs.Unreading.{names_of_logs, snapshot_names}
use Rattle.zk_directory_state.specs.Logs.{AreUnlisted, AreUnlistedIn}
use Rattle.zk_verification.specs.Surveys.{AreSurveyed, Surveyed, start_survey, surveyed_by}
use Rattle.zk_verification.specs.declared.log_bytes.LogBytes.{LogBytes}
use Rattle.zk_verification.specs.declared.mark.Mark.{Mark}
use Rattle.zk_verification.specs.declared.survey.Survey.{Survey}

-- ---- a directory without logs

pub unlisted : (source : Source) (fault : HistoryFault) → AreUnlistedIn source.snapshots source.logs fault → Keeps source fault
unlisted source fault u = Unlisted u

pub snapshots_unlisted : (source : Source) (fault : HistoryFault) → AreUnlisted source.snapshots fault → Keeps source fault
snapshots_unlisted source fault u = Unlisted (snapshot_names source.snapshots source.logs fault u)

pub logs_unlisted : (source : Source) (fault : HistoryFault) → AreUnlisted source.logs fault → Keeps source fault
logs_unlisted source fault u = Unlisted (names_of_logs source.snapshots source.logs fault u)

pub no_files : (source : Source) (held logged : List ℤ) → AreIn snapshot_zxid source.snapshots held → AreIn log_zxid source.logs logged → length held ≡ 0 → length logged ≡ 0 → Keeps source faults.Empty
no_files source held logged s l a b = Empty (record { held = held; logged = logged; are_snapshots = s; are_logs = l; none = omega (arith, a, b) }) refl

-- a fault of the logs
pub found : (loaded : List LogBytes) (surveyed : Surveyed) (fault : HistoryFault) → AreSurveyed start_survey loaded surveyed → fault_of surveyed ≡ Some fault → FindsSurvey loaded (Err fault)
found loaded surveyed faults.NoMemory s f = tt
found loaded surveyed fault s f = (surveyed, s, f)

-- ---- both directories

pub first_fails : (first second : List LogBytes) (fault : HistoryFault) → FindsSurvey first (Err fault) → FindsLoaded first second (Err fault)
first_fails first second faults.NoMemory f = tt
first_fails first second fault f = inl f

pub second_fails : (first second : List LogBytes) (fault : HistoryFault) → FindsSurvey second (Err fault) → FindsLoaded first second (Err fault)
second_fails first second faults.NoMemory f = tt
second_fails first second fault f = inr f

pub both_compared : (first second : List LogBytes) (ours theirs : Survey) (report : Report) → FindsSurvey first (Ok ours) → FindsSurvey second (Ok theirs) → IsComparison (surveyed_by ours) (surveyed_by theirs) report.findings.items (string_bytes report.notices) → report.end ≡ end_in (surveyed_by ours) (surveyed_by theirs) → FindsLoaded first second (Ok report)
both_compared first second ours theirs report a b is end = record {
  ours = surveyed_by ours;
  theirs = surveyed_by theirs;
  are_ours = a.0;
  are_theirs = b.0;
  ours_whole = a.1;
  theirs_whole = b.1;
  is = is;
  is_end = end;
}

pub both_noticed : (first second : List Mark) (start mid text : List ℕ) → start ≡ [] → AppendsNotices First first start mid → AppendsNotices Second second mid text → AreNoticesOf first second text
both_noticed first second start mid text none a b = record {
  ours = a.0;
  theirs = b.0;
  are_ours = a.1;
  are_theirs = b.1;
  is = b.2 ∙ ap (λ l. l ++ b.0) (a.2 ∙ ap (λ l. l ++ a.0) none);
}

pub compared_in : (first second : Source) (ours theirs : List LogBytes) (result : Result Report HistoryFault) → AreLogsOf first ours → AreLogsOf second theirs → FindsLoaded ours theirs result → FindsOfLogs first second result
compared_in first second ours theirs (Ok compared) l m f = record {
  ours = f.ours;
  theirs = f.theirs;
  is_ours = record { loaded = ours; are_logs = l; is_survey = f.are_ours; is_fault = f.ours_whole };
  is_theirs = record { loaded = theirs; are_logs = m; is_survey = f.are_theirs; is_fault = f.theirs_whole };
  is = f.is;
  is_end = f.is_end;
}
compared_in first second ours theirs (Err faults.NoMemory) l m f = inl (Unlisted tt)
compared_in first second ours theirs (Err fault) l m (inl e) = inl (Broken e.0 (record { loaded = ours; are_logs = l; is_survey = e.1; is_fault = e.2 }))
compared_in first second ours theirs (Err fault) l m (inr e) = inr (Broken e.0 (record { loaded = theirs; are_logs = m; is_survey = e.1; is_fault = e.2 }))

-- ---- the trees

-- the logs of both, and the trees at their end
pub reported : (first second : Source) (compared report : Report) (trees : Trees) → FindsOfLogs first second (Ok compared) → FindsTrees first second compared.end (Ok trees) → report.findings.items ≡ compared.findings.items ++ trees.findings.items → string_bytes report.notices ≡ string_bytes compared.notices ++ string_bytes trees.notices → FindsComparison first second (Ok report)
reported first second compared report trees l t are noted = record {
  compared = compared;
  of_logs = l;
  said = trees.findings.items;
  noted = string_bytes trees.notices;
  are_trees = t;
  are_findings = are;
  are_notices = noted;
}

pub trees_unseen : (first second : Source) (compared : Report) (fault : HistoryFault) → FindsOfLogs first second (Ok compared) → FindsTrees first second compared.end (Err fault) → FindsComparison first second (Err fault)
trees_unseen first second compared fault l u = inr (inr (record { compared = compared; of_logs = l; unseen = u }))

-- the logs of one cannot be compared
pub logs_kept : (first second : Source) (fault : HistoryFault) → FindsOfLogs first second (Err fault) → FindsComparison first second (Err fault)
logs_kept first second fault (inl k) = inl k
logs_kept first second fault (inr k) = inr (inl k)

pub no_memory : (first second : Source) → FindsComparison first second (Err faults.NoMemory)
no_memory first second = inl (Unlisted tt)
