-- The words of `zk diff`.
use Rattle.std.specs.Prelude.{◌≡◌, ℕ, List, [], ◌∷◌, Option, Some, None, option_map, if◌then◌else◌, codes}
use Rattle.std.specs.Str.{bytes_eq}
use Rattle.zk_cli_args.specs.Commands.{values_of}
use Rattle.zk_cli_args.specs.Folders.{SpellsUntil}
use Rattle.zk_cli_args.specs.Incidents.{is_path, parted}
use Rattle.zk_cli_args.specs.declared.difference.DiffGiven.{DiffGiven}
use Rattle.zk_cli_args.specs.declared.difference.DiffJob.{DiffJob}

pub record DiffWords : Type 0 where
  pub folder : List ℕ
  pub logs : Option (List ℕ)
  pub from : List ℕ
  pub to : List ℕ
  pub path : List ℕ

-- three values, and the path of a node, if not all nodes are compared
abbrev pub diff_by : Option (List ℕ) → Option (List (List ℕ)) → Option DiffWords
diff_by logs (Some (folder ∷ from ∷ to ∷ [])) = Some (record { folder = folder; logs = logs; from = from; to = to; path = codes "/" })
diff_by logs (Some (folder ∷ from ∷ to ∷ path ∷ [])) = if is_path path then Some (record { folder = folder; logs = logs; from = from; to = to; path = path }) else None
diff_by logs values = None

abbrev pub diff_parted : Option (List ℕ) × List (List ℕ) → Option DiffWords
diff_parted rest = diff_by rest.0 (values_of rest.1)

-- the words after the command's name
abbrev pub diff_after : List (List ℕ) → Option DiffWords
diff_after words = diff_parted (parted (codes "--logs") (codes "--logs=") words)

-- the program's name, the command's, and those
abbrev pub diff_words : List (List ℕ) → Option DiffWords
diff_words [] = None
diff_words (program ∷ []) = None
diff_words (program ∷ name ∷ words) = if bytes_eq name (codes "diff") then diff_after words else None

-- a transaction, or a time
pub record IsDiff (given : DiffWords) (job : DiffJob) : Type 0 where
  pub folder : job.folder.now ≡ given.folder
  pub logs : option_map (λ logs. logs.now) job.logs ≡ given.logs
  pub from : SpellsUntil given.from job.from
  pub to : SpellsUntil given.to job.to
  pub path : job.path.now ≡ given.path

pub record NamesDiff (words : List (List ℕ)) (job : DiffJob) : Type 0 where
  pub given : DiffWords
  pub parted : diff_words words ≡ Some given
  pub is : IsDiff given job

abbrev pub ReadsDiff : List (List ℕ) → Option DiffJob → Type 0
ReadsDiff words (Some job) = NamesDiff words job
ReadsDiff words None = (job : DiffJob) → ¬ NamesDiff words job

-- ---- calls within

abbrev pub words_of_diff : DiffGiven → DiffWords
words_of_diff given = record { folder = given.folder.now; logs = option_map (λ logs. logs.now) given.logs; from = given.from.now; to = given.to.now; path = given.path.now }

abbrev pub ReadsDiffWords : DiffWords → Option DiffJob → Type 0
ReadsDiffWords given (Some job) = IsDiff given job
ReadsDiffWords given None = (job : DiffJob) → ¬ IsDiff given job
