-- What `zk compare` writes.
use Rattle.std.specs.Prelude.{◌≡◌, ◌⊎◌, ℕ, ℤ, List, [], ◌∷◌, ◌++◌, Option, Some, None, Result, Ok, Err, if◌then◌else◌}
use Rattle.std.specs.List.{list_any}
use Rattle.std.specs.String.{string_bytes}
use Rattle.zk_comparison.specs.Comparisons.{judged_of, limits_of, losses_of}
use Rattle.zk_comparison.specs.Findings.{findings_of, is_disagreement}
use Rattle.zk_comparison.specs.Notices.{AreNotices}
use Rattle.zk_comparison.specs.Sources.{Source}
use Rattle.zk_comparison.specs.Trees.{AreTreesAt, AreUnseenAt}
use Rattle.zk_comparison.specs.declared.comparison.Report.{Report}
use Rattle.zk_comparison.specs.declared.finding.Directory.TheVariants.{First, Second}
use Rattle.zk_comparison.specs.declared.finding.Finding.{Finding}
use Rattle.zk_directory.specs.Chains.{Told}
use Rattle.zk_directory_state.specs.Names.{log_zxid}
use Rattle.zk_directory_state.specs.Outcomes.{Rejects}
use Rattle.zk_directory_state.specs.declared.fault.HistoryFault.{HistoryFault}
use Rattle.zk_directory_state.specs.declared.fault.HistoryFault.TheVariants as faults
use Rattle.zk_directory_state.specs.Histories.{AreIn, HoldsNone}
use Rattle.zk_directory_state.specs.Logs.{AreUnlistedIn}
use Rattle.zk_directory_state.specs.Notices.{OutputsWith}
use Rattle.zk_log_commands.specs.Writing.{LeavesSink}
use Rattle.zk_path.specs.declared.memory.NoMemory.{NoMemory}
use Rattle.zk_records.specs.declared.sink.Sink.{Sink}
use Rattle.zk_verification.specs.Surveys.{AreSurveyed, Surveyed, start_survey, surveyed_by}
use Rattle.zk_verification.specs.Verifications.{AreLoaded}
use Rattle.zk_verification.specs.declared.log_bytes.LogBytes.{LogBytes}
use Rattle.zk_verification.specs.declared.mark.Mark.{Mark}
use Rattle.zk_verification.specs.declared.mark.Mark.TheVariants as marks
use Rattle.zk_verification.specs.declared.survey.Survey.{Survey}

-- ---- one directory

-- the logs that a directory has
pub record AreLogsOf (source : Source) (loaded : List LogBytes) : Type 0 where
  pub logged : List ℤ
  pub are_logs : AreIn log_zxid source.logs logged
  pub are_loaded : AreLoaded source.bytes_in logged loaded

-- an entry of a log differs from an earlier one of its zxid: the logs hold two histories
abbrev pub difference_by : Mark → Option HistoryFault
difference_by (marks.Wrong (faults.Differs log at)) = Some (faults.Differs log at)
difference_by mark = None

abbrev pub either_fault : Option HistoryFault → Option HistoryFault → Option HistoryFault
either_fault (Some fault) other = Some fault
either_fault None other = other

abbrev pub second_history : List Mark → Option HistoryFault
second_history [] = None
second_history (mark ∷ all) = either_fault (difference_by mark) (second_history all)

-- that, or no log has a transaction
abbrev pub fault_by : Option HistoryFault → List Told → Option HistoryFault
fault_by (Some fault) taken = Some fault
fault_by None [] = Some faults.NoTransaction
fault_by None (entry ∷ taken) = None

-- why a directory is not compared
abbrev pub fault_of : Surveyed → Option HistoryFault
fault_of surveyed = fault_by (second_history surveyed.marks) surveyed.history.taken

-- the logs of a directory, joined, with what is said of them
pub record IsSurvey (source : Source) (surveyed : Surveyed) (fault : Option HistoryFault) : Type 0 where
  pub loaded : List LogBytes
  pub are_logs : AreLogsOf source loaded
  pub is_survey : AreSurveyed start_survey loaded surveyed
  pub is_fault : fault_of surveyed ≡ fault

-- the fault keeps a directory from being compared
pub data Keeps (source : Source) (fault : HistoryFault) : Type 0 where
  -- the names of a folder cannot be read, or allocation failed
  Unlisted : (unlisted : AreUnlistedIn source.snapshots source.logs fault) → Keeps source fault
  -- there is no snapshot and no log
  Empty : (none : HoldsNone source.snapshots source.logs) (is : fault ≡ faults.Empty) → Keeps source fault
  -- a fault of the logs
  Broken : (surveyed : Surveyed) (survey : IsSurvey source surveyed (Some fault)) → Keeps source fault

-- ---- both

-- the notices on the first directory, and on the second
pub record AreNoticesOf (first second : List Mark) (notices : List ℕ) : Type 0 where
  pub ours : List ℕ
  pub theirs : List ℕ
  pub are_ours : AreNotices First first ours
  pub are_theirs : AreNotices Second second theirs
  pub is : notices ≡ ours ++ theirs

abbrev pub findings_in : Surveyed → Surveyed → List Finding
findings_in first second = findings_of (judged_of first.history.taken second.history.taken (losses_of first.marks) (losses_of second.marks))

pub record IsComparison (first second : Surveyed) (findings : List Finding) (notices : List ℕ) : Type 0 where
  pub are_findings : findings ≡ findings_in first second
  pub are_notices : AreNoticesOf first.marks second.marks notices

-- the last zxid of the range in common
abbrev pub end_in : Surveyed → Surveyed → Option ℤ
end_in first second = (limits_of first.history.taken second.history.taken).end

-- what the logs say
pub record IsOfLogs (first second : Source) (compared : Report) : Type 0 where
  pub ours : Surveyed
  pub theirs : Surveyed
  pub is_ours : IsSurvey first ours None
  pub is_theirs : IsSurvey second theirs None
  pub is : IsComparison ours theirs compared.findings.items (string_bytes compared.notices)
  pub is_end : compared.end ≡ end_in ours theirs

-- and then the trees at their end
pub record IsReport (first second : Source) (findings : List Finding) (notices : List ℕ) : Type 0 where
  pub compared : Report
  pub of_logs : IsOfLogs first second compared
  pub said : List Finding
  pub noted : List ℕ
  pub are_trees : AreTreesAt first second compared.end said noted
  pub are_findings : findings ≡ compared.findings.items ++ said
  pub are_notices : notices ≡ string_bytes compared.notices ++ noted

-- a file that the trees at their end rest on cannot be read
pub record IsUnfinished (first second : Source) (fault : HistoryFault) : Type 0 where
  pub compared : Report
  pub of_logs : IsOfLogs first second compared
  pub unseen : AreUnseenAt first second compared.end fault

abbrev pub FindsComparison : Source → Source → Result Report HistoryFault → Type 0
FindsComparison first second (Ok compared) = IsReport first second compared.findings.items (string_bytes compared.notices)
FindsComparison first second (Err fault) = Keeps first fault ⊎ (Keeps second fault ⊎ IsUnfinished first second fault)

-- ---- what is written

-- a text and the notices. The status is 1 if the directories disagree, or a write failed
abbrev pub Puts : {O E : Type 0} → (O → Option (List ℕ)) → (E → Option (List ℕ)) → List ℕ → Report → Sink O → Sink O → Sink E → Sink E → ℕ → Type 0
Puts written told text compared output output' faults faults' status =
    (put : ℕ) × OutputsWith written told text (string_bytes compared.notices) output output' faults faults' (Ok put)
    × (status ≡ (if list_any is_disagreement compared.findings.items then 1 else put))

-- the findings in their form; an allocation failure comes before any of it
abbrev pub OutputsReport : {O E : Type 0} → (List Finding → List ℕ → Type 0) → (O → Option (List ℕ)) → (E → Option (List ℕ)) → Report → Sink O → Sink O → Sink E → Sink E → Result ℕ NoMemory → Type 0
OutputsReport IsText written told compared output output' faults faults' (Ok status) = (text : List ℕ) × IsText compared.findings.items text × Puts written told text compared output output' faults faults' status
OutputsReport IsText written told compared output output' faults faults' (Err failed) = LeavesSink written output output' × LeavesSink told faults faults'

abbrev pub OutputsComparison : {O E : Type 0} → (List Finding → List ℕ → Type 0) → (O → Option (List ℕ)) → (E → Option (List ℕ)) → Result Report HistoryFault → Sink O → Sink O → Sink E → Sink E → Result ℕ NoMemory → Type 0
OutputsComparison IsText written told (Ok compared) output output' faults faults' result = OutputsReport IsText written told compared output output' faults faults' result
OutputsComparison IsText written told (Err fault) output output' faults faults' result = Rejects written told fault output output' faults faults' result

-- the comparison of two directories is written, or why there is none
pub record TellsComparison {O E : Type 0} (IsText : List Finding → List ℕ → Type 0) (written : O → Option (List ℕ)) (told : E → Option (List ℕ)) (first second : Source) (output output' : Sink O) (faults faults' : Sink E) (result : Result ℕ NoMemory) : Type 0 where
  pub answer : Result Report HistoryFault
  pub finds : FindsComparison first second answer
  pub outputs : OutputsComparison IsText written told answer output output' faults faults' result

-- ---- calls within

abbrev pub IsFaultIn : List LogBytes → HistoryFault → Type 0
IsFaultIn loaded fault = (surveyed : Surveyed) × AreSurveyed start_survey loaded surveyed × (fault_of surveyed ≡ Some fault)

abbrev pub FindsSurvey : List LogBytes → Result Survey HistoryFault → Type 0
FindsSurvey loaded (Ok survey) = AreSurveyed start_survey loaded (surveyed_by survey) × (fault_of (surveyed_by survey) ≡ None)
FindsSurvey loaded (Err faults.NoMemory) = Unit {0}
FindsSurvey loaded (Err fault) = IsFaultIn loaded fault

-- of loaded logs
pub record ComparesLoaded (first second : List LogBytes) (compared : Report) : Type 0 where
  pub ours : Surveyed
  pub theirs : Surveyed
  pub are_ours : AreSurveyed start_survey first ours
  pub are_theirs : AreSurveyed start_survey second theirs
  pub ours_whole : fault_of ours ≡ None
  pub theirs_whole : fault_of theirs ≡ None
  pub is : IsComparison ours theirs compared.findings.items (string_bytes compared.notices)
  pub is_end : compared.end ≡ end_in ours theirs

abbrev pub FindsLoaded : List LogBytes → List LogBytes → Result Report HistoryFault → Type 0
FindsLoaded first second (Ok compared) = ComparesLoaded first second compared
FindsLoaded first second (Err faults.NoMemory) = Unit {0}
FindsLoaded first second (Err fault) = IsFaultIn first fault ⊎ IsFaultIn second fault

abbrev pub FindsOfLogs : Source → Source → Result Report HistoryFault → Type 0
FindsOfLogs first second (Ok compared) = IsOfLogs first second compared
FindsOfLogs first second (Err fault) = Keeps first fault ⊎ Keeps second fault
