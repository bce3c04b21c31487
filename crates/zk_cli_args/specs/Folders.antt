-- The words of a command line that reads a data directory.
use Rattle.std.specs.Prelude.{◌≡◌, ℕ, ℤ, List, [], ◌∷◌, Option, Some, None, IsSome, FitsSigned, codes, option_map}
use Rattle.std.specs.Int.{w64}
use Rattle.zk_format.specs.Spelling.{id_digits}
use Rattle.zk_cli_args.specs.Moments.{moment_of}
use Rattle.zk_cli_args.specs.Options.{given_with_option}
use Rattle.zk_cli_args.specs.Zxids.{padded}
use Rattle.zk_cli_args.specs.declared.command.Order.{Order}
use Rattle.zk_cli_args.specs.declared.command.Order.TheVariants as job_orders
use Rattle.zk_cli_args.specs.declared.folders.FolderJob.{FolderJob}
use Rattle.zk_cli_args.specs.declared.folders.FolderOrder.{FolderOrder}
use Rattle.zk_cli_args.specs.declared.folders.FolderOrder.TheVariants as orders
use Rattle.zk_cli_args.specs.declared.folders.Until.{Until}
use Rattle.zk_cli_args.specs.declared.folders.Until.TheVariants as untils

-- the directory of the logs, if it is another, and the values
abbrev pub looked_by : List (List ℕ) → Option (Option (List ℕ) × List (List ℕ))
looked_by words = given_with_option (codes "--logs") (codes "--logs=") words

-- up to which transaction a directory is shown: the last one, one of a zxid, or one of a time
abbrev pub SpellsPlain : List ℕ → Until → Type 0
SpellsPlain word untils.Last = word ≡ codes "last"
SpellsPlain word (untils.Zxid zxid) = FitsSigned w64 zxid × (word ≡ id_digits zxid)
SpellsPlain word (untils.Time time) = moment_of word ≡ Some time

abbrev pub SpellsUntil : List ℕ → Until → Type 0
SpellsUntil word until = SpellsPlain (padded word) until

-- without "--logs", only a time says that `show` reads a directory
abbrev pub NeedsDirectory : Until → Option (List ℕ) → Type 0
NeedsDirectory (untils.Time time) logs = Unit {0}
NeedsDirectory until logs = IsSome logs

-- a command's name and its values determine a command and its directory
abbrev pub NamesFolderBy : List ℕ → List (List ℕ) → Option (List ℕ) → FolderOrder → List ℕ → Type 0
NamesFolderBy name values logs orders.Files folder = (name ≡ codes "files") × (values ≡ folder ∷ [])
NamesFolderBy name values logs orders.List folder = (name ≡ codes "list") × (values ≡ folder ∷ []) × IsSome logs
NamesFolderBy name values logs (orders.Show until) folder = (word : List ℕ) × (name ≡ codes "show") × (values ≡ folder ∷ word ∷ []) × SpellsUntil word until × NeedsDirectory until logs

-- the words are the program's name, a command's, and words with its values
pub record NamesFolder (words : List (List ℕ)) (order : FolderOrder) (folder : List ℕ) (logs : Option (List ℕ)) : Type 0 where
  pub program : List ℕ
  pub name : List ℕ
  pub rest : List (List ℕ)
  pub values : List (List ℕ)
  pub spelled : words ≡ program ∷ name ∷ rest
  pub given : looked_by rest ≡ Some (logs, values)
  pub named : NamesFolderBy name values logs order folder

abbrev pub NamesNoFolder : List (List ℕ) → Type 0
NamesNoFolder words = (order : FolderOrder) (folder : List ℕ) (logs : Option (List ℕ)) → ¬ NamesFolder words order folder logs

abbrev pub logs_of : FolderJob → Option (List ℕ)
logs_of job = option_map (λ logs. logs.now) job.logs

-- the job on a directory, where a job's input is one
abbrev pub until_of : Option ℤ → Until
until_of None = untils.Last
until_of (Some zxid) = untils.Zxid zxid

abbrev pub folder_order_of : Order → Option FolderOrder
folder_order_of (job_orders.Show upto) = Some (orders.Show (until_of upto))
folder_order_of job_orders.List = Some orders.List
folder_order_of order = None

-- a job is what the words name
abbrev pub ReadsFolder : List (List ℕ) → Option FolderJob → Type 0
ReadsFolder words (Some job) = NamesFolder words job.order job.folder.now (logs_of job)
ReadsFolder words None = NamesNoFolder words

-- ---- its parts

abbrev pub ReadsPlain : List ℕ → Option Until → Type 0
ReadsPlain word (Some until) = SpellsPlain word until
ReadsPlain word None = (until : Until) → ¬ SpellsPlain word until

abbrev pub ReadsUntil : List ℕ → Option Until → Type 0
ReadsUntil word (Some until) = SpellsUntil word until
ReadsUntil word None = (until : Until) → ¬ SpellsUntil word until

-- the tree of this directory, if it needs one
abbrev pub IsShownIn : List ℕ → Until → Option (List ℕ) → Option FolderJob → Type 0
IsShownIn folder until logs (Some job) = (job.order ≡ orders.Show until) × (job.folder.now ≡ folder) × (logs_of job ≡ logs) × NeedsDirectory until logs
IsShownIn folder until logs None = ¬ NeedsDirectory until logs

-- the job of a command's name and values, with this directory of logs
abbrev pub ReadsFolderBy : List ℕ → List (List ℕ) → Option (List ℕ) → Option FolderJob → Type 0
ReadsFolderBy name values logs (Some job) = NamesFolderBy name values logs job.order job.folder.now × (logs_of job ≡ logs)
ReadsFolderBy name values logs None = (order : FolderOrder) (folder : List ℕ) → ¬ NamesFolderBy name values logs order folder

-- the same for the values of some words
abbrev pub ReadsFolderGiven : List ℕ → Option (List (List ℕ)) → Option (List ℕ) → Option FolderJob → Type 0
ReadsFolderGiven name given logs (Some job) = (values : List (List ℕ)) × (given ≡ Some values) × NamesFolderBy name values logs job.order job.folder.now × (logs_of job ≡ logs)
ReadsFolderGiven name given logs None = (values : List (List ℕ)) (order : FolderOrder) (folder : List ℕ) → given ≡ Some values → ¬ NamesFolderBy name values logs order folder

-- the same for all words after a command's name
abbrev pub ReadsFolderBehind : List ℕ → List (List ℕ) → Option FolderJob → Type 0
ReadsFolderBehind name words (Some job) = (values : List (List ℕ)) × (looked_by words ≡ Some (logs_of job, values)) × NamesFolderBy name values (logs_of job) job.order job.folder.now
ReadsFolderBehind name words None =
    (values : List (List ℕ)) (order : FolderOrder) (folder : List ℕ) (logs : Option (List ℕ)) → looked_by words ≡ Some (logs, values) → ¬ NamesFolderBy name values logs order folder
