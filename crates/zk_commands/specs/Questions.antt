-- What is written for a question about a data directory: lines, or JSON objects.
use Rattle.std.specs.Prelude.{ℕ, List, Option, Some, None, Result}
use Rattle.zk_cli_args.specs.declared.difference.DiffJob.{DiffJob}
use Rattle.zk_cli_args.specs.declared.folders.FolderOrder.{FolderOrder}
use Rattle.zk_cli_args.specs.declared.folders.FolderOrder.TheVariants as orders
use Rattle.zk_cli_args.specs.declared.folders.Until.{Until}
use Rattle.zk_cli_args.specs.declared.folders.Until.TheVariants as untils
use Rattle.zk_cli_args.specs.declared.form.Form.{Form}
use Rattle.zk_cli_args.specs.declared.form.Form.TheVariants as forms
use Rattle.zk_cli_args.specs.declared.history.HistoryJob.{HistoryJob}
use Rattle.zk_cli_args.specs.declared.restoration.RestoreJob.{RestoreJob}
use Rattle.zk_cli_args.specs.declared.session.SessionJob.{SessionJob}
use Rattle.zk_cli_args.specs.declared.top.By.{By}
use Rattle.zk_cli_args.specs.declared.top.By.TheVariants as bys
use Rattle.zk_cli_args.specs.declared.top.TopJob.{TopJob}
use Rattle.zk_commands.specs.Starts.{Directory}
use Rattle.zk_commands.specs.declared.question.Question.{Question}
use Rattle.zk_commands.specs.declared.question.Question.TheVariants as questions
use Rattle.zk_directory_state.specs.Outcomes.{TellsFiles}
use Rattle.zk_directory_state.specs.Showing.{TellsShown}
use Rattle.zk_directory_state.specs.declared.upto.Upto.{Upto}
use Rattle.zk_directory_state.specs.declared.upto.Upto.TheVariants as uptos
use Rattle.zk_incidents.specs.HistoryReports as histories
use Rattle.zk_incidents.specs.TopReports as tops
use Rattle.zk_directory_state.specs.declared.range.Bound.{Bound}
use Rattle.zk_directory_state.specs.declared.range.Bound.TheVariants as bounds
use Rattle.zk_directory_state.specs.declared.range.Range.{Range}
use Rattle.zk_incidents.specs.declared.top_fold.Key.{Key}
use Rattle.zk_incidents.specs.declared.top_fold.Key.TheVariants as keys
use Rattle.zk_json_commands.specs.Differences as json_differences
use Rattle.zk_json_commands.specs.Histories as json_histories
use Rattle.zk_json_commands.specs.States.{TellsState}
use Rattle.zk_json_commands.specs.Tops as json_tops
use Rattle.zk_json_commands.specs.Verifications.{TellsReport}
use Rattle.zk_json_files.specs.Files.{TellsObjects}
use Rattle.zk_listings.specs.Listings.{TellsLines}
use Rattle.zk_path.specs.declared.memory.NoMemory.{NoMemory}
use Rattle.zk_records.specs.declared.sink.Sink.{Sink}
use Rattle.zk_session_commands.specs.Reports.{TellsSession, TellsSessions}
use Rattle.zk_session_commands.specs.declared.asked_session.AskedSession.{AskedSession}
use Rattle.zk_session_lines.specs.declared.line_form.LineForm.{LineForm}
use Rattle.zk_session_lines.specs.declared.line_form.LineForm.TheVariants as line_forms
use Rattle.zk_tree_changes.specs.DifferenceReports as differences
use Rattle.zk_tree_changes.specs.ScriptReports.{TellsScript}
use Rattle.zk_verification.specs.Outcomes.{TellsVerification}

-- ---- what the words of a command line stand for

abbrev pub upto_of : Until → Upto
upto_of untils.Last = uptos.Last
upto_of (untils.Zxid zxid) = uptos.Zxid zxid
upto_of (untils.Time time) = uptos.Time time

-- the last transaction of all is no bound
abbrev pub bound_of : Option Until → Option Bound
bound_of None = None
bound_of (Some untils.Last) = None
bound_of (Some (untils.Zxid zxid)) = Some (bounds.Zxid zxid)
bound_of (Some (untils.Time time)) = Some (bounds.Time time)

abbrev pub key_of : By → Key
key_of bys.Path = keys.Path
key_of bys.Session = keys.Session

abbrev pub range_of : TopJob → Range
range_of job = record { from = bound_of job.from; to = bound_of job.to }

-- sessions have one form of lines
abbrev pub line_form : Form → LineForm
line_form forms.Json = line_forms.Json
line_form form = line_forms.Text

abbrev pub asked_of : SessionJob → Form → AskedSession
asked_of job form = record { session = job.session; form = line_form form }

-- ---- each question

abbrev pub Looks : {O E : Type 0} → (O → Option (List ℕ)) → (E → Option (List ℕ)) → FolderOrder → Form → Directory → Sink O → Sink O → Sink E → Sink E → Result ℕ NoMemory → Type 0
Looks written told orders.Files forms.Json d output output' faults faults' result = TellsObjects written told d.snapshots d.snapshot_bytes d.logs d.log_bytes output output' faults faults' result
Looks written told orders.Files form d output output' faults faults' result = TellsFiles written told d.snapshots d.snapshot_bytes d.logs d.log_bytes output output' faults faults' result
Looks written told orders.List form d output output' faults faults' result = TellsLines written told form d.snapshots d.logs d.log_bytes output output' faults faults' result
Looks written told (orders.Show until) forms.Json d output output' faults faults' result = TellsState written told d.snapshots d.snapshot_bytes d.logs d.log_bytes (upto_of until) output output' faults faults' result
Looks written told (orders.Show until) form d output output' faults faults' result = TellsShown written told d.snapshots d.snapshot_bytes d.logs d.log_bytes (upto_of until) output output' faults faults' result

abbrev pub TellsHistoryIn : {O E : Type 0} → (O → Option (List ℕ)) → (E → Option (List ℕ)) → Form → HistoryJob → Directory → Sink O → Sink O → Sink E → Sink E → Result ℕ NoMemory → Type 0
TellsHistoryIn written told forms.Json job d output output' faults faults' result = json_histories.TellsHistory written told job.path.now job.below d.snapshots d.snapshot_bytes d.logs d.log_bytes output output' faults faults' result
TellsHistoryIn written told form job d output output' faults faults' result = histories.TellsHistory written told job.path.now job.below d.snapshots d.snapshot_bytes d.logs d.log_bytes output output' faults faults' result

abbrev pub TellsTopIn : {O E : Type 0} → (O → Option (List ℕ)) → (E → Option (List ℕ)) → Form → TopJob → Directory → Sink O → Sink O → Sink E → Sink E → Result ℕ NoMemory → Type 0
TellsTopIn written told forms.Json job d output output' faults faults' result = json_tops.TellsTop written told (range_of job) (key_of job.by) job.number d.snapshots d.logs d.log_bytes output output' faults faults' result
TellsTopIn written told form job d output output' faults faults' result = tops.TellsTop written told (range_of job) (key_of job.by) job.number d.snapshots d.logs d.log_bytes output output' faults faults' result

abbrev pub TellsVerificationIn : {O E : Type 0} → (O → Option (List ℕ)) → (E → Option (List ℕ)) → Form → Directory → Sink O → Sink O → Sink E → Sink E → Result ℕ NoMemory → Type 0
TellsVerificationIn written told forms.Json d output output' faults faults' result = TellsReport written told d.snapshots d.snapshot_bytes d.logs d.log_bytes output output' faults faults' result
TellsVerificationIn written told form d output output' faults faults' result = TellsVerification written told d.snapshots d.snapshot_bytes d.logs d.log_bytes output output' faults faults' result

abbrev pub TellsDifferenceIn : {O E : Type 0} → (O → Option (List ℕ)) → (E → Option (List ℕ)) → Form → DiffJob → Directory → Sink O → Sink O → Sink E → Sink E → Result ℕ NoMemory → Type 0
TellsDifferenceIn written told forms.Json job d output output' faults faults' result =
    json_differences.TellsDifference written told d.snapshots d.snapshot_bytes d.logs d.log_bytes (upto_of job.from) (upto_of job.to) job.path.now output output' faults faults' result
TellsDifferenceIn written told form job d output output' faults faults' result =
    differences.TellsDifference written told d.snapshots d.snapshot_bytes d.logs d.log_bytes (upto_of job.from) (upto_of job.to) job.path.now output output' faults faults' result

-- a script has no other form
abbrev pub TellsRestore : {O E : Type 0} → (O → Option (List ℕ)) → (E → Option (List ℕ)) → RestoreJob → Directory → Sink O → Sink O → Sink E → Sink E → Result ℕ NoMemory → Type 0
TellsRestore written told job d output output' faults faults' result = TellsScript written told d.snapshots d.snapshot_bytes d.logs d.log_bytes (upto_of job.at) job.path.now output output' faults faults' result

abbrev pub Prints : {O E : Type 0} → (O → Option (List ℕ)) → (E → Option (List ℕ)) → Form → Question → Directory → Sink O → Sink O → Sink E → Sink E → Result ℕ NoMemory → Type 0
Prints written told form (questions.Look order) d output output' faults faults' result = Looks written told order form d output output' faults faults' result
Prints written told form (questions.History job) d output output' faults faults' result = TellsHistoryIn written told form job d output output' faults faults' result
Prints written told form (questions.Top job) d output output' faults faults' result = TellsTopIn written told form job d output output' faults faults' result
Prints written told form questions.Sessions d output output' faults faults' result = TellsSessions written told (line_form form) d.snapshots d.snapshot_bytes d.logs d.log_bytes output output' faults faults' result
Prints written told form (questions.Session job) d output output' faults faults' result = TellsSession written told (asked_of job form) d.snapshots d.snapshot_bytes d.logs d.log_bytes output output' faults faults' result
Prints written told form questions.Verify d output output' faults faults' result = TellsVerificationIn written told form d output output' faults faults' result
Prints written told form (questions.Diff job) d output output' faults faults' result = TellsDifferenceIn written told form job d output output' faults faults' result
Prints written told form (questions.Restore job) d output output' faults faults' result = TellsRestore written told job d output output' faults faults' result
