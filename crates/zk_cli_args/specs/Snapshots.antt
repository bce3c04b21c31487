-- The words of `zk snapshot`.
use Rattle.std.specs.Prelude.{◌≡◌, ℕ, List, [], ◌∷◌, Option, Some, None, option_map, if◌then◌else◌, codes}
use Rattle.std.specs.Str.{bytes_eq}
use Rattle.zk_cli_args.specs.Commands.{values_of}
use Rattle.zk_cli_args.specs.Folders.{SpellsUntil}
use Rattle.zk_cli_args.specs.Incidents.{parted}
use Rattle.zk_cli_args.specs.Restoring.{at_word}
use Rattle.zk_cli_args.specs.declared.snapshot.SnapshotGiven.{SnapshotGiven}
use Rattle.zk_cli_args.specs.declared.snapshot.SnapshotJob.{SnapshotJob}

pub record SnapshotWords : Type 0 where
  pub folder : List ℕ
  pub logs : Option (List ℕ)
  pub output : List ℕ
  pub at : List ℕ

-- a directory, and the file to write
abbrev pub snapshot_by : Option (List ℕ) → Option (List ℕ) → Option (List (List ℕ)) → Option SnapshotWords
snapshot_by logs at (Some (folder ∷ output ∷ [])) = Some (record { folder = folder; logs = logs; output = output; at = at_word at })
snapshot_by logs at values = None

abbrev pub snapshot_dated : Option (List ℕ) → Option (List ℕ) × List (List ℕ) → Option SnapshotWords
snapshot_dated logs rest = snapshot_by logs rest.0 (values_of rest.1)

abbrev pub snapshot_parted : Option (List ℕ) × List (List ℕ) → Option SnapshotWords
snapshot_parted rest = snapshot_dated rest.0 (parted (codes "--at") (codes "--at=") rest.1)

-- the words after the command's name
abbrev pub snapshot_after : List (List ℕ) → Option SnapshotWords
snapshot_after words = snapshot_parted (parted (codes "--logs") (codes "--logs=") words)

-- the program's name, the command's, and those
abbrev pub snapshot_words : List (List ℕ) → Option SnapshotWords
snapshot_words [] = None
snapshot_words (program ∷ []) = None
snapshot_words (program ∷ name ∷ words) = if bytes_eq name (codes "snapshot") then snapshot_after words else None

-- a transaction, or a time
pub record IsSnapshot (given : SnapshotWords) (job : SnapshotJob) : Type 0 where
  pub folder : job.folder.now ≡ given.folder
  pub logs : option_map (λ logs. logs.now) job.logs ≡ given.logs
  pub output : job.output.now ≡ given.output
  pub at : SpellsUntil given.at job.at

pub record NamesSnapshot (words : List (List ℕ)) (job : SnapshotJob) : Type 0 where
  pub given : SnapshotWords
  pub parted : snapshot_words words ≡ Some given
  pub is : IsSnapshot given job

abbrev pub ReadsSnapshot : List (List ℕ) → Option SnapshotJob → Type 0
ReadsSnapshot words (Some job) = NamesSnapshot words job
ReadsSnapshot words None = (job : SnapshotJob) → ¬ NamesSnapshot words job

-- ---- calls within

abbrev pub words_of_snapshot : SnapshotGiven → SnapshotWords
words_of_snapshot given = record { folder = given.folder.now; logs = option_map (λ logs. logs.now) given.logs; output = given.output.now; at = given.at.now }

abbrev pub ReadsSnapshotWords : SnapshotWords → Option SnapshotJob → Type 0
ReadsSnapshotWords given (Some job) = IsSnapshot given job
ReadsSnapshotWords given None = (job : SnapshotJob) → ¬ IsSnapshot given job
