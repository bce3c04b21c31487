-- The words of `zk restore`.
use Rattle.std.specs.Prelude.{◌≡◌, ℕ, List, [], ◌∷◌, Option, Some, None, option_map, if◌then◌else◌, codes}
use Rattle.std.specs.Str.{bytes_eq}
use Rattle.zk_cli_args.specs.Commands.{values_of}
use Rattle.zk_cli_args.specs.Folders.{SpellsUntil}
use Rattle.zk_cli_args.specs.Incidents.{is_path, parted}
use Rattle.zk_cli_args.specs.declared.restoration.RestoreGiven.{RestoreGiven}
use Rattle.zk_cli_args.specs.declared.restoration.RestoreJob.{RestoreJob}

pub record RestoreWords : Type 0 where
  pub folder : List ℕ
  pub logs : Option (List ℕ)
  pub path : List ℕ
  pub at : List ℕ

-- the last state of all, if none is asked for
abbrev pub at_word : Option (List ℕ) → List ℕ
at_word (Some word) = word
at_word None = codes "last"

-- a directory, and the path of a node
abbrev pub restore_by : Option (List ℕ) → Option (List ℕ) → Option (List (List ℕ)) → Option RestoreWords
restore_by logs at (Some (folder ∷ path ∷ [])) = if is_path path then Some (record { folder = folder; logs = logs; path = path; at = at_word at }) else None
restore_by logs at values = None

abbrev pub restore_dated : Option (List ℕ) → Option (List ℕ) × List (List ℕ) → Option RestoreWords
restore_dated logs rest = restore_by logs rest.0 (values_of rest.1)

abbrev pub restore_parted : Option (List ℕ) × List (List ℕ) → Option RestoreWords
restore_parted rest = restore_dated rest.0 (parted (codes "--at") (codes "--at=") rest.1)

-- the words after the command's name
abbrev pub restore_after : List (List ℕ) → Option RestoreWords
restore_after words = restore_parted (parted (codes "--logs") (codes "--logs=") words)

-- the program's name, the command's, and those
abbrev pub restore_words : List (List ℕ) → Option RestoreWords
restore_words [] = None
restore_words (program ∷ []) = None
restore_words (program ∷ name ∷ words) = if bytes_eq name (codes "restore") then restore_after words else None

-- a transaction, or a time
pub record IsRestore (given : RestoreWords) (job : RestoreJob) : Type 0 where
  pub folder : job.folder.now ≡ given.folder
  pub logs : option_map (λ logs. logs.now) job.logs ≡ given.logs
  pub path : job.path.now ≡ given.path
  pub at : SpellsUntil given.at job.at

pub record NamesRestore (words : List (List ℕ)) (job : RestoreJob) : Type 0 where
  pub given : RestoreWords
  pub parted : restore_words words ≡ Some given
  pub is : IsRestore given job

abbrev pub ReadsRestore : List (List ℕ) → Option RestoreJob → Type 0
ReadsRestore words (Some job) = NamesRestore words job
ReadsRestore words None = (job : RestoreJob) → ¬ NamesRestore words job

-- ---- calls within

abbrev pub words_of_restore : RestoreGiven → RestoreWords
words_of_restore given = record { folder = given.folder.now; logs = option_map (λ logs. logs.now) given.logs; path = given.path.now; at = given.at.now }

abbrev pub ReadsRestoreWords : RestoreWords → Option RestoreJob → Type 0
ReadsRestoreWords given (Some job) = IsRestore given job
ReadsRestoreWords given None = (job : RestoreJob) → ¬ IsRestore given job
