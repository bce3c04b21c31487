-- The words of `zk history` and `zk top`.
use Rattle.std.specs.Prelude.{◌≡◌, ℕ, Bool, true, false, List, [], ◌∷◌, Option, Some, None, is_none, option_map, if◌then◌else◌, codes}
use Rattle.std.specs.Str.{bytes_eq}
use Rattle.zk_path.specs.Paths.{fault_of}
use Rattle.zk_cli_args.specs.Commands.{values_of}
use Rattle.zk_cli_args.specs.Folders.{SpellsUntil}
use Rattle.zk_cli_args.specs.Options.{ValueBeside, flag_in, option_in}
use Rattle.zk_cli_args.specs.Serving.{SpellsWithin}
use Rattle.zk_cli_args.specs.declared.folders.Until.{Until}
use Rattle.zk_cli_args.specs.declared.history.HistoryJob.{HistoryJob}
use Rattle.zk_cli_args.specs.declared.top.By.{By}
use Rattle.zk_cli_args.specs.declared.top.By.TheVariants as bys
use Rattle.zk_cli_args.specs.declared.top.TopJob.{TopJob}

-- ---- options

abbrev pub parted_by : List (List ℕ) → Option ValueBeside → Option (List ℕ) × List (List ℕ)
parted_by words None = (None, words)
parted_by words (Some found) = (Some found.0, found.1)

-- the value of an option, if it is there, and the other words
abbrev pub parted : List ℕ → List ℕ → List (List ℕ) → Option (List ℕ) × List (List ℕ)
parted name prefix words = parted_by words (option_in name prefix words)

abbrev pub flagged_by : List (List ℕ) → Option (List (List ℕ)) → Bool × List (List ℕ)
flagged_by words None = (false, words)
flagged_by words (Some others) = (true, others)

-- whether a flag is there, and the other words
abbrev pub flagged : List ℕ → List (List ℕ) → Bool × List (List ℕ)
flagged flag words = flagged_by words (flag_in flag words)

-- ---- a node

-- the path of a node, there or not
abbrev pub is_path : List ℕ → Bool
is_path word = is_none (fault_of word)

-- ---- `zk history`

pub record HistoryWords : Type 0 where
  pub folder : List ℕ
  pub logs : Option (List ℕ)
  pub path : List ℕ
  pub below : Bool

-- a directory, and the path of a node
abbrev pub history_by : Option (List ℕ) → Bool → Option (List (List ℕ)) → Option HistoryWords
history_by logs below (Some (folder ∷ path ∷ [])) = if is_path path then Some (record { folder = folder; logs = logs; path = path; below = below }) else None
history_by logs below values = None

abbrev pub history_flagged : Option (List ℕ) → Bool × List (List ℕ) → Option HistoryWords
history_flagged logs rest = history_by logs rest.0 (values_of rest.1)

abbrev pub history_parted : Option (List ℕ) × List (List ℕ) → Option HistoryWords
history_parted rest = history_flagged rest.0 (flagged (codes "-r") rest.1)

-- the words after the command's name
abbrev pub history_after : List (List ℕ) → Option HistoryWords
history_after words = history_parted (parted (codes "--logs") (codes "--logs=") words)

-- the program's name, the command's, and those
abbrev pub history_of : List (List ℕ) → Option HistoryWords
history_of [] = None
history_of (program ∷ []) = None
history_of (program ∷ name ∷ words) = if bytes_eq name (codes "history") then history_after words else None

abbrev pub words_of_history : HistoryJob → HistoryWords
words_of_history job = record { folder = job.folder.now; logs = option_map (λ logs. logs.now) job.logs; path = job.path.now; below = job.below }

-- ---- `zk top`

pub record TopWords : Type 0 where
  pub folder : List ℕ
  pub logs : Option (List ℕ)
  pub by : Option (List ℕ)
  pub from : Option (List ℕ)
  pub to : Option (List ℕ)
  pub number : Option (List ℕ)

-- one value
abbrev pub top_by : Option (List ℕ) → Option (List ℕ) → Option (List ℕ) → Option (List ℕ) → Option (List ℕ) → Option (List (List ℕ)) → Option TopWords
top_by logs by from to number (Some (folder ∷ [])) = Some (record { folder = folder; logs = logs; by = by; from = from; to = to; number = number })
top_by logs by from to number values = None

abbrev pub top_numbered : Option (List ℕ) → Option (List ℕ) → Option (List ℕ) → Option (List ℕ) → Option (List ℕ) × List (List ℕ) → Option TopWords
top_numbered logs by from to rest = top_by logs by from to rest.0 (values_of rest.1)

abbrev pub top_to : Option (List ℕ) → Option (List ℕ) → Option (List ℕ) → Option (List ℕ) × List (List ℕ) → Option TopWords
top_to logs by from rest = top_numbered logs by from rest.0 (parted (codes "-n") (codes "-n=") rest.1)

abbrev pub top_from : Option (List ℕ) → Option (List ℕ) → Option (List ℕ) × List (List ℕ) → Option TopWords
top_from logs by rest = top_to logs by rest.0 (parted (codes "--to") (codes "--to=") rest.1)

abbrev pub top_keyed : Option (List ℕ) → Option (List ℕ) × List (List ℕ) → Option TopWords
top_keyed logs rest = top_from logs rest.0 (parted (codes "--from") (codes "--from=") rest.1)

abbrev pub top_parted : Option (List ℕ) × List (List ℕ) → Option TopWords
top_parted rest = top_keyed rest.0 (parted (codes "--by") (codes "--by=") rest.1)

-- the words after the command's name
abbrev pub top_after : List (List ℕ) → Option TopWords
top_after words = top_parted (parted (codes "--logs") (codes "--logs=") words)

-- the program's name, the command's, and those
abbrev pub top_of : List (List ℕ) → Option TopWords
top_of [] = None
top_of (program ∷ []) = None
top_of (program ∷ name ∷ words) = if bytes_eq name (codes "top") then top_after words else None

-- what the writes are counted by
abbrev pub SpellsBy : Option (List ℕ) → By → Type 0
SpellsBy word bys.Path = word ≡ Some (codes "path")
SpellsBy word bys.Session = word ≡ Some (codes "session")

-- a transaction, or a time
abbrev pub SpellsBound : Option (List ℕ) → Option Until → Type 0
SpellsBound None None = Unit {0}
SpellsBound (Some word) (Some until) = SpellsUntil word until
SpellsBound word bound = ⊥

-- the number of lines
abbrev pub SpellsNumber : Option (List ℕ) → Option ℕ → Type 0
SpellsNumber None None = Unit {0}
SpellsNumber (Some word) (Some number) = SpellsWithin 0 4294967295 word number
SpellsNumber word number = ⊥

pub record IsTop (given : TopWords) (job : TopJob) : Type 0 where
  pub folder : job.folder.now ≡ given.folder
  pub logs : option_map (λ logs. logs.now) job.logs ≡ given.logs
  pub by : SpellsBy given.by job.by
  pub from : SpellsBound given.from job.from
  pub to : SpellsBound given.to job.to
  pub number : SpellsNumber given.number job.number

pub record NamesTop (words : List (List ℕ)) (job : TopJob) : Type 0 where
  pub given : TopWords
  pub parted : top_of words ≡ Some given
  pub is : IsTop given job

abbrev pub ReadsTop : List (List ℕ) → Option TopJob → Type 0
ReadsTop words (Some job) = NamesTop words job
ReadsTop words None = (job : TopJob) → ¬ NamesTop words job

-- ---- calls within

abbrev pub ReadsBy : Option (List ℕ) → Option By → Type 0
ReadsBy word (Some by) = SpellsBy word by
ReadsBy word None = (by : By) → ¬ SpellsBy word by

abbrev pub ReadsBound : Option (List ℕ) → Option (Option Until) → Type 0
ReadsBound word (Some bound) = SpellsBound word bound
ReadsBound word None = (bound : Option Until) → ¬ SpellsBound word bound

abbrev pub ReadsNumber : Option (List ℕ) → Option (Option ℕ) → Type 0
ReadsNumber word (Some number) = SpellsNumber word number
ReadsNumber word None = (number : Option ℕ) → ¬ SpellsNumber word number
