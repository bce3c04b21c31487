-- The words of a command line that debugs a data directory.
use Rattle.std.specs.Prelude.{◌≡◌, ℕ, List, [], ◌∷◌, Bool, true, false, Option, Some, None, codes, option_map}
use Rattle.zk_cli_args.specs.Commands.{values_of}
use Rattle.zk_cli_args.specs.Ensembles.{flag_or, value_or}
use Rattle.zk_cli_args.specs.Folders.{SpellsUntil}
use Rattle.zk_cli_args.specs.Options.{flag_in, option_in}
use Rattle.zk_cli_args.specs.declared.command.Order.{Order}
use Rattle.zk_cli_args.specs.declared.command.Order.TheVariants as orders
use Rattle.zk_cli_args.specs.declared.debugging.FolderDebug.{FolderDebug}
use Rattle.zk_cli_args.specs.declared.folders.Until.{Until}

-- ---- options

abbrev pub logged : List (List ℕ) → Option (List ℕ) × List (List ℕ)
logged words = value_or (option_in (codes "--logs") (codes "--logs=") words) words

abbrev pub starting : List (List ℕ) → Option (List ℕ) × List (List ℕ)
starting words = value_or (option_in (codes "--from") (codes "--from=") words) words

abbrev pub prompted : List (List ℕ) → Bool × List (List ℕ)
prompted words = flag_or (flag_in (codes "--prompt") words) words

-- after which transaction the debugger starts, if a word names one
abbrev pub SpellsFrom : Option (List ℕ) → Option Until → Type 0
SpellsFrom None from = from ≡ None
SpellsFrom (Some word) None = ⊥
SpellsFrom (Some word) (Some from) = SpellsUntil word from

abbrev pub debug_logs_of : FolderDebug → Option (List ℕ)
debug_logs_of it = option_map (λ word. word.now) it.logs

abbrev pub debug_script_of : FolderDebug → Option (List ℕ)
debug_script_of it = option_map (λ word. word.now) it.script

-- the job of a script, or of a session, on a file
abbrev pub debugs : Order → Bool
debugs orders.Debug = true
debugs (orders.Session prompts) = true
debugs order = false

-- ---- a command line

-- a directory, and a script; a session has none
abbrev pub IsOver : Bool → List (List ℕ) → List ℕ → Option (List ℕ) → Type 0
IsOver prompts values folder None = values ≡ folder ∷ []
IsOver prompts values folder (Some script) = (prompts ≡ false) × (values ≡ folder ∷ script ∷ [])

-- the words' values are those of a debugger
pub record NamesDebugPlain (words : List (List ℕ)) (it : FolderDebug) : Type 0 where
  pub values : List (List ℕ)
  pub given : values_of words ≡ Some values
  pub named : IsOver it.prompts values it.folder.now (debug_script_of it)

-- the same, among the words without the flag
pub record NamesDebugPrompted (words : List (List ℕ)) (it : FolderDebug) : Type 0 where
  pub flag : it.prompts ≡ (prompted words).0
  pub others : NamesDebugPlain (prompted words).1 it

-- the same, among the words without the start
pub record NamesDebugFrom (words : List (List ℕ)) (it : FolderDebug) : Type 0 where
  pub start : SpellsFrom (starting words).0 it.from
  pub others : NamesDebugPrompted (starting words).1 it

-- the same, among the words without the directory of logs
pub record NamesDebugBehind (words : List (List ℕ)) (it : FolderDebug) : Type 0 where
  pub logs : debug_logs_of it ≡ (logged words).0
  pub others : NamesDebugFrom (logged words).1 it

-- the words are the program's name, the command's, and those after it
pub record NamesDebugLine (words : List (List ℕ)) (it : FolderDebug) : Type 0 where
  pub program : List ℕ
  pub rest : List (List ℕ)
  pub spelled : words ≡ program ∷ codes "debug" ∷ rest
  pub named : NamesDebugBehind rest it

abbrev pub ReadsDebugLine : List (List ℕ) → Option FolderDebug → Type 0
ReadsDebugLine words (Some it) = NamesDebugLine words it
ReadsDebugLine words None = (it : FolderDebug) → ¬ NamesDebugLine words it

-- ---- its parts

abbrev pub ReadsDebugBehind : List (List ℕ) → Option FolderDebug → Type 0
ReadsDebugBehind words (Some it) = NamesDebugBehind words it
ReadsDebugBehind words None = (it : FolderDebug) → ¬ NamesDebugBehind words it

-- by the command's name, and the words after it
abbrev pub ReadsDebugNamed : List ℕ → List (List ℕ) → Option FolderDebug → Type 0
ReadsDebugNamed name words (Some it) = (name ≡ codes "debug") × NamesDebugBehind words it
ReadsDebugNamed name words None = (it : FolderDebug) → name ≡ codes "debug" → ¬ NamesDebugBehind words it

-- with this directory of logs
abbrev pub ReadsDebugWith : Option (List ℕ) → List (List ℕ) → Option FolderDebug → Type 0
ReadsDebugWith logs words (Some it) = (debug_logs_of it ≡ logs) × NamesDebugFrom words it
ReadsDebugWith logs words None = (it : FolderDebug) → ¬ NamesDebugFrom words it

-- with this and this start
abbrev pub ReadsDebugAfter : Option (List ℕ) → Option Until → List (List ℕ) → Option FolderDebug → Type 0
ReadsDebugAfter logs from words (Some it) = (debug_logs_of it ≡ logs) × (it.from ≡ from) × NamesDebugPrompted words it
ReadsDebugAfter logs from words None = (it : FolderDebug) → ¬ NamesDebugPrompted words it

-- with these, and the flag or without it
abbrev pub ReadsDebugPrompted : Option (List ℕ) → Option Until → Bool → List (List ℕ) → Option FolderDebug → Type 0
ReadsDebugPrompted logs from prompts words (Some it) = (debug_logs_of it ≡ logs) × (it.from ≡ from) × (it.prompts ≡ prompts) × NamesDebugPlain words it
ReadsDebugPrompted logs from prompts words None = (it : FolderDebug) → it.prompts ≡ prompts → ¬ NamesDebugPlain words it

-- with all options, by the values
abbrev pub ReadsDebugValues : Option (List ℕ) → Option Until → Bool → List (List ℕ) → Option FolderDebug → Type 0
ReadsDebugValues logs from prompts values (Some it) = (debug_logs_of it ≡ logs) × (it.from ≡ from) × (it.prompts ≡ prompts) × IsOver prompts values it.folder.now (debug_script_of it)
ReadsDebugValues logs from prompts values None = (folder : List ℕ) (script : Option (List ℕ)) → ¬ IsOver prompts values folder script
