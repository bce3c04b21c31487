-- What a command line asks for.
use Rattle.std.specs.Prelude.{◌≡◌, ◌⊎◌, ◌<◌, ℕ, Bool, true, false, ◌&&◌, ◌||◌, List, [], ◌∷◌, Option, Some, None, is_some, option_map, Result, Ok, Err, codes}
use Rattle.std.specs.Str.{bytes_eq}
use Rattle.zk_cli_args.specs.Commands.{Names, NamesNoJob, script_of}
use Rattle.zk_cli_args.specs.Comparing.{compare_of, words_of_compare}
use Rattle.zk_cli_args.specs.Debugs.{NamesDebugLine}
use Rattle.zk_cli_args.specs.Differing.{NamesDiff}
use Rattle.zk_cli_args.specs.Ensembles.{NamesEnsemble, NamesNoEnsemble, flag_or}
use Rattle.zk_cli_args.specs.Folders.{NamesFolder, NamesNoFolder, logs_of}
use Rattle.zk_cli_args.specs.Follows.{follow_of}
use Rattle.zk_cli_args.specs.Forms.{form_of}
use Rattle.zk_cli_args.specs.Incidents.{NamesTop, history_of, words_of_history}
use Rattle.zk_cli_args.specs.Options.{record_of}
use Rattle.zk_cli_args.specs.Restoring.{NamesRestore}
use Rattle.zk_cli_args.specs.Serving.{NamesNoServing, NamesServing}
use Rattle.zk_cli_args.specs.Sessions.{NamesSession, sessions_of, words_of_sessions}
use Rattle.zk_cli_args.specs.Snapshots.{NamesSnapshot}
use Rattle.zk_cli_args.specs.Verifying.{verify_of, words_of_verify}
use Rattle.zk_cli_args.specs.declared.command.Order.{Order}
use Rattle.zk_cli_args.specs.declared.debugging.FolderDebug.{FolderDebug}
use Rattle.zk_cli_args.specs.declared.difference.DiffJob.{DiffJob}
use Rattle.zk_cli_args.specs.declared.ensemble.Ensemble.{Ensemble}
use Rattle.zk_cli_args.specs.declared.folders.FolderOrder.{FolderOrder}
use Rattle.zk_cli_args.specs.declared.form.Form.{Form}
use Rattle.zk_cli_args.specs.declared.form.Form.TheVariants as forms
use Rattle.zk_cli_args.specs.declared.commands.Command.{Command}
use Rattle.zk_cli_args.specs.declared.commands.Command.TheVariants as commands
use Rattle.zk_cli_args.specs.declared.line.CommandFault.{CommandFault}
use Rattle.zk_cli_args.specs.declared.line.CommandFault.TheVariants as faults
use Rattle.zk_cli_args.specs.declared.line.CommandLine.{CommandLine}
use Rattle.zk_cli_args.specs.declared.ensemble_job.EnsembleJob.{EnsembleJob}
use Rattle.zk_cli_args.specs.declared.restoration.RestoreJob.{RestoreJob}
use Rattle.zk_cli_args.specs.declared.serving.Serving.{Serving}
use Rattle.zk_cli_args.specs.declared.session.SessionJob.{SessionJob}
use Rattle.zk_cli_args.specs.declared.snapshot.SnapshotJob.{SnapshotJob}
use Rattle.zk_cli_args.specs.declared.top.TopJob.{TopJob}

-- ---- a debugger, and an ensemble

-- only a data directory has another directory of logs, or a transaction to start after
abbrev pub needs_directory : FolderDebug → Bool
needs_directory it = is_some it.logs || is_some it.from

abbrev pub NamesNoDebug : List (List ℕ) → Type 0
NamesNoDebug words = (it : FolderDebug) → NamesDebugLine words it → needs_directory it ≡ false

-- the option of a record, with an ensemble of several servers among the other words
pub record NamesRecorded (words : List (List ℕ)) (file : List ℕ) (it : Ensemble) : Type 0 where
  pub others : List (List ℕ)
  pub found : record_of words ≡ Some (file, others)
  pub named : NamesEnsemble others it
  pub several : 1 < it.serving.servers

abbrev pub NamesNoRecorded : List (List ℕ) → Type 0
NamesNoRecorded words = (file : List ℕ) (it : Ensemble) → ¬ NamesRecorded words file it

-- ---- a command

-- words without an option of a form
abbrev pub NamesEnsembleBy : List (List ℕ) → Option (List ℕ) → Ensemble → Type 0
NamesEnsembleBy words None it = NamesEnsemble words it
NamesEnsembleBy words (Some file) it = NamesRecorded words file it × NamesNoJob words × NamesNoFolder words × NamesNoServing words

abbrev pub file_of : EnsembleJob → Option (List ℕ)
file_of job = option_map (λ file. file.now) job.record

abbrev pub NamesCommand : List (List ℕ) → Command → Type 0
NamesCommand words (commands.Act job) = Names words job.order job.input.now (script_of job) job.output.now
NamesCommand words (commands.Look job) = NamesFolder words job.order job.folder.now (logs_of job)
NamesCommand words (commands.Debug it) = NamesDebugLine words it × (needs_directory it ≡ true) × NamesNoJob words
NamesCommand words (commands.History job) = history_of words ≡ Some (words_of_history job)
NamesCommand words (commands.Top job) = NamesTop words job
NamesCommand words (commands.Sessions job) = sessions_of words ≡ Some (words_of_sessions job)
NamesCommand words (commands.Session job) = NamesSession words job
NamesCommand words (commands.Compare job) = compare_of words ≡ Some (words_of_compare job)
NamesCommand words (commands.Verify job) = verify_of words ≡ Some (words_of_verify job)
NamesCommand words (commands.Diff job) = NamesDiff words job
NamesCommand words (commands.Restore job) = NamesRestore words job
NamesCommand words (commands.Snapshot job) = NamesSnapshot words job
NamesCommand words (commands.Serve serving) = NamesServing words serving
NamesCommand words (commands.Ensemble job) = NamesEnsembleBy words (file_of job) job.ensemble

-- no report, nothing to restore and no snapshot to write
pub record AsksNothing (words : List (List ℕ)) : Type 0 where
  pub history : history_of words ≡ None
  pub top : (job : TopJob) → ¬ NamesTop words job
  pub sessions : sessions_of words ≡ None
  pub session : (job : SessionJob) → ¬ NamesSession words job
  pub compare : compare_of words ≡ None
  pub verify : verify_of words ≡ None
  pub diff : (job : DiffJob) → ¬ NamesDiff words job
  pub restore : (job : RestoreJob) → ¬ NamesRestore words job
  pub snapshot : (job : SnapshotJob) → ¬ NamesSnapshot words job

pub record NamesNothing (words : List (List ℕ)) : Type 0 where
  pub job : NamesNoJob words
  pub folder : NamesNoFolder words
  pub debug : NamesNoDebug words
  pub asked : AsksNothing words
  pub serving : NamesNoServing words
  pub ensemble : NamesNoEnsemble words
  pub recorded : NamesNoRecorded words

-- it is this command, with this input, script and output
abbrev pub IsJob : Command → Order → List ℕ → Option (List ℕ) → List ℕ → Type 0
IsJob (commands.Act job) order input script output = (order ≡ job.order) × (input ≡ job.input.now) × (script ≡ script_of job) × (output ≡ job.output.now)
IsJob command order input script output = ⊥

-- it is this command on a data directory
abbrev pub IsFolderJob : Command → FolderOrder → List ℕ → Option (List ℕ) → Type 0
IsFolderJob (commands.Look job) order folder logs = (order ≡ job.order) × (folder ≡ job.folder.now) × (logs ≡ logs_of job)
IsFolderJob command order folder logs = ⊥

abbrev pub IsServing : Command → Serving → Type 0
IsServing (commands.Serve it) serving = serving ≡ it
IsServing command serving = ⊥

-- the words name this, and nothing else
pub record NamesOnly (words : List (List ℕ)) (command : Command) : Type 0 where
  pub names : NamesCommand words command
  pub job : (order : Order) (input : List ℕ) (script : Option (List ℕ)) (output : List ℕ) → Names words order input script output → IsJob command order input script output
  pub folder : (order : FolderOrder) (folder : List ℕ) (logs : Option (List ℕ)) → NamesFolder words order folder logs → IsFolderJob command order folder logs
  pub serving : (serving : Serving) → NamesServing words serving → IsServing command serving

-- ---- its form

-- the command's name: the word after the program's
abbrev pub name_of : List (List ℕ) → List ℕ
name_of [] = []
name_of (program ∷ []) = []
name_of (program ∷ name ∷ words) = name

abbrev pub has_json : List ℕ → Bool
has_json name =
    ((((((((bytes_eq name (codes "show") || bytes_eq name (codes "list")) || bytes_eq name (codes "files")) || bytes_eq name (codes "history")) || bytes_eq name (codes "top")) || bytes_eq name (codes "verify")) || bytes_eq name (codes "diff"))
    || bytes_eq name (codes "compare")) || bytes_eq name (codes "sessions"))
    || bytes_eq name (codes "session")

-- the forms of the command of a name
abbrev pub has_form : List ℕ → Form → Bool
has_form name forms.Lines = true
has_form name forms.Json = has_json name
has_form name forms.Times = bytes_eq name (codes "list")

-- only `list` follows logs
abbrev pub has_follow : List ℕ → Bool → Bool
has_follow name false = true
has_follow name true = bytes_eq name (codes "list")

-- whether to follow, the form, and the words without these options
abbrev pub Asked : Type 0
Asked = Bool × Form × List (List ℕ)

abbrev pub formed_by : Bool × List (List ℕ) → Asked
formed_by rest = (rest.0, (form_of rest.1).0, (form_of rest.1).1)

abbrev pub asked_of : List (List ℕ) → Asked
asked_of words = formed_by (flag_or (follow_of words) words)

-- the command of this name has these options
abbrev pub has_asked : List ℕ → Bool → Form → Bool
has_asked name follows form = has_form name form && has_follow name follows

-- a command that has the options that are asked for
pub record NamesFormed (asked : Asked) (line : CommandLine) : Type 0 where
  pub follows : line.follows ≡ asked.0
  pub form : line.form ≡ asked.1
  pub has : has_asked (name_of asked.2) asked.0 asked.1 ≡ true
  pub names : NamesOnly asked.2 line.command

-- or it has them not
abbrev pub NamesNoFormed : Asked → Type 0
NamesNoFormed asked = has_asked (name_of asked.2) asked.0 asked.1 ≡ true → NamesNothing asked.2

-- where no command has the options, they are words like others
pub record NamesPlainly (words : List (List ℕ)) (line : CommandLine) : Type 0 where
  pub unformed : NamesNoFormed (asked_of words)
  pub follows : line.follows ≡ false
  pub form : line.form ≡ forms.Lines
  pub names : NamesOnly words line.command

abbrev pub NamesLine : List (List ℕ) → CommandLine → Type 0
NamesLine words line = NamesFormed (asked_of words) line ⊎ NamesPlainly words line

abbrev pub ReadsCommandLine : List (List ℕ) → Result CommandLine CommandFault → Type 0
ReadsCommandLine words (Ok line) = NamesLine words line
ReadsCommandLine words (Err (faults.Refused error)) = NamesNoFormed (asked_of words) × NamesNothing words
ReadsCommandLine words (Err faults.NoMemory) = Unit {0}

-- ---- its parts

abbrev pub ReadsLine : List (List ℕ) → Option CommandLine → Type 0
ReadsLine words (Some line) = NamesLine words line
ReadsLine words None = NamesNoFormed (asked_of words) × NamesNothing words

abbrev pub ReadsFormed : Asked → Option CommandLine → Type 0
ReadsFormed asked (Some line) = NamesFormed asked line
ReadsFormed asked None = NamesNoFormed asked

abbrev pub ReadsCommand : List (List ℕ) → Option Command → Type 0
ReadsCommand words (Some command) = NamesOnly words command
ReadsCommand words None = NamesNothing words

abbrev pub ReadsNamed : List (List ℕ) → Option Command → Type 0
ReadsNamed words (Some command) = NamesCommand words command
ReadsNamed words None = NamesNothing words

-- a debugger of a data directory
abbrev pub ReadsDirectoryDebug : List (List ℕ) → Option FolderDebug → Type 0
ReadsDirectoryDebug words (Some it) = NamesDebugLine words it × (needs_directory it ≡ true)
ReadsDirectoryDebug words None = NamesNoDebug words

-- a report, a script that restores nodes, or a snapshot
abbrev pub IsAsked : List (List ℕ) → Command → Type 0
IsAsked words (commands.History job) = history_of words ≡ Some (words_of_history job)
IsAsked words (commands.Top job) = NamesTop words job
IsAsked words (commands.Sessions job) = sessions_of words ≡ Some (words_of_sessions job)
IsAsked words (commands.Session job) = NamesSession words job
IsAsked words (commands.Compare job) = compare_of words ≡ Some (words_of_compare job)
IsAsked words (commands.Verify job) = verify_of words ≡ Some (words_of_verify job)
IsAsked words (commands.Diff job) = NamesDiff words job
IsAsked words (commands.Restore job) = NamesRestore words job
IsAsked words (commands.Snapshot job) = NamesSnapshot words job
IsAsked words command = ⊥

abbrev pub ReadsAsked : List (List ℕ) → Option Command → Type 0
ReadsAsked words (Some command) = IsAsked words command
ReadsAsked words None = AsksNothing words

abbrev pub ReadsRecorded : List (List ℕ) → Option EnsembleJob → Type 0
ReadsRecorded words (Some job) = (file : List ℕ) × (file_of job ≡ Some file) × NamesRecorded words file job.ensemble
ReadsRecorded words None = NamesNoRecorded words

abbrev pub ReadsRecordedBy : List ℕ → List (List ℕ) → Option EnsembleJob → Type 0
ReadsRecordedBy file others (Some job) = (file_of job ≡ Some file) × NamesEnsemble others job.ensemble × (1 < job.ensemble.serving.servers)
ReadsRecordedBy file others None = (it : Ensemble) → NamesEnsemble others it → ¬ (1 < it.serving.servers)

abbrev pub IsSeveral : List ℕ → Ensemble → Option EnsembleJob → Type 0
IsSeveral file it (Some job) = (file_of job ≡ Some file) × (job.ensemble ≡ it) × (1 < it.serving.servers)
IsSeveral file it None = it.serving.servers < 2
