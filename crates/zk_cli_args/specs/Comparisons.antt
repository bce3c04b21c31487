-- The words of `zk compare` of three or more directories.
use Rattle.std.specs.Prelude.{◌≡◌, ℕ, ◌+◌, nat_lt, Bool, ◌||◌, List, [], ◌∷◌, drop, length, map, slice_get, Option, Some, None, is_some, option_map, Vec, if◌then◌else◌, codes}
use Rattle.std.specs.Borrow.{Bor}
use Rattle.std.specs.Global.{Global}
use Rattle.std.specs.List.{list_any}
use Rattle.std.specs.Str.{bytes_eq}
use Rattle.zk_cli_args.specs.Commands.{values_of}
use Rattle.zk_cli_args.specs.Forms.{form_of}
use Rattle.zk_cli_args.specs.Incidents.{parted}
use Rattle.zk_cli_args.specs.declared.comparisons.ComparedFolder.{ComparedFolder}
use Rattle.zk_cli_args.specs.declared.comparisons.Comparisons.{Comparisons}
use Rattle.zk_cli_args.specs.declared.comparisons.PartedLogs.{PartedLogs}
use Rattle.zk_cli_args.specs.declared.form.Form.{Form}
use Rattle.zk_cli_args.specs.declared.form.Form.TheVariants as forms

-- a directory, and that of its logs, if it is another
pub record FolderWords : Type 0 where
  pub folder : List ℕ
  pub logs : Option (List ℕ)

-- the options that name the directories of logs, in the order of the data directories
abbrev pub logs_options : List (List ℕ × List ℕ)
logs_options =
    (codes "--logs", codes "--logs=") ∷ (codes "--logs2", codes "--logs2=") ∷ (codes "--logs3", codes "--logs3=") ∷ (codes "--logs4", codes "--logs4=") ∷ (codes "--logs5", codes "--logs5=")
    ∷ (codes "--logs6", codes "--logs6=") ∷ (codes "--logs7", codes "--logs7=") ∷ (codes "--logs8", codes "--logs8=") ∷ (codes "--logs9", codes "--logs9=") ∷ []

abbrev pub before_values : Option (List ℕ) → List (Option (List ℕ)) × List (List ℕ) → List (Option (List ℕ)) × List (List ℕ)
before_values value rest = (value ∷ rest.0, rest.1)

-- the value of each option, if it is there, and the other words
abbrev pub parted_all : List (List ℕ × List ℕ) → List (List ℕ) → List (Option (List ℕ)) × List (List ℕ)
parted_all [] words = ([], words)
parted_all (option ∷ options) words = before_values (parted option.0 option.1 words).0 (parted_all options (parted option.0 option.1 words).1)

abbrev pub value_by : Option (Option (List ℕ)) → Option (List ℕ)
value_by None = None
value_by (Some value) = value

-- the value of the option of this place, if there is such an option
abbrev pub value_at : ℕ → List (Option (List ℕ)) → Option (List ℕ)
value_at place values = value_by (slice_get values place)

-- each directory, from this place on, with the value of its option
abbrev pub placed : ℕ → List (List ℕ) → List (Option (List ℕ)) → List FolderWords
placed place [] values = []
placed place (folder ∷ folders) values = record { folder = folder; logs = value_at place values } ∷ placed (place + 1) folders values

-- an option is there of a directory that is not
abbrev pub has_beyond : ℕ → List (Option (List ℕ)) → Bool
has_beyond count values = list_any is_some (drop count values)

-- three values or more
abbrev pub each_by : List (Option (List ℕ)) → Option (List (List ℕ)) → Option (List FolderWords)
each_by values None = None
each_by values (Some folders) = if nat_lt (length folders) 3 || has_beyond (length folders) values then None else Some (placed 0 folders values)

abbrev pub each_parted : List (Option (List ℕ)) × List (List ℕ) → Option (List FolderWords)
each_parted rest = each_by rest.0 (values_of rest.1)

-- the words after the command's name
abbrev pub each_after : List (List ℕ) → Option (List FolderWords)
each_after words = each_parted (parted_all logs_options words)

-- the program's name, the command's, and those
abbrev pub each_of : List (List ℕ) → Option (List FolderWords)
each_of [] = None
each_of (program ∷ []) = None
each_of (program ∷ name ∷ words) = if bytes_eq name (codes "compare") then each_after words else None

-- a comparison has no times of its own
abbrev pub formed_each : Form → Option (List FolderWords) → Option (Form × List FolderWords)
formed_each form None = None
formed_each forms.Times (Some folders) = None
formed_each form (Some folders) = Some (form, folders)

-- the directories, and the form, that words name
abbrev pub comparisons_of : List (List ℕ) → Option (Form × List FolderWords)
comparisons_of words = formed_each (form_of words).0 (each_of (form_of words).1)

abbrev pub words_of_folder : ComparedFolder → FolderWords
words_of_folder it = record { folder = it.folder.now; logs = option_map (λ logs. logs.now) it.logs }

abbrev pub words_of_comparisons : Comparisons → Form × List FolderWords
words_of_comparisons it = (it.form, map words_of_folder it.folders.items)

-- ---- calls within

abbrev pub compared_of : Option (Vec ComparedFolder Global) → Option (List FolderWords)
compared_of folders = option_map (λ it. map words_of_folder it.items) folders

abbrev pub shown_option_words : Bor (List ℕ) × Bor (List ℕ) → List ℕ × List ℕ
shown_option_words option = (option.0.now, option.1.now)

abbrev pub shown_parted : PartedLogs → List (Option (List ℕ)) × List (List ℕ)
shown_parted it = (map (option_map (λ value. value.now)) it.values.items, map (λ word. word.now) it.others.items)
