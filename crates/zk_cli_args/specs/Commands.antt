-- The words of a command line that runs a command, from inputs to an output.
use Rattle.std.specs.Prelude.{◌≡◌, ◌≢◌, ℕ, ℤ, ◌<◌, ◌^◌, ◌==◌, ◌&&◌, ◌||◌, Bool, true, false, if◌then◌else◌, List, [], ◌∷◌, Option, Some, None, FitsSigned, codes, option_map}
use Rattle.std.specs.Int.{w64}
use Rattle.std.specs.Str.{bytes_eq}
use Rattle.zk_format.specs.Spelling.{sixteen_digits, id_digits}
use Rattle.zk_cli_args.specs.Zxids.{padded}
use Rattle.zk_cli_args.specs.declared.command.Order.{Order}
use Rattle.zk_cli_args.specs.declared.command.Order.TheVariants as orders
use Rattle.zk_cli_args.specs.declared.command.Job.{Job}

-- ---- up to which transaction

-- the 64 bits of a word of sixteen digits, or None
abbrev pub ReadsDigits : List ℕ → Option ℕ → Type 0
ReadsDigits word (Some bits) = word ≡ sixteen_digits bits
ReadsDigits word None = (bits : ℕ) → bits < 2 ^ 64 → word ≢ sixteen_digits bits

-- up to which transaction the tree is shown: its zxid, or "last"
abbrev pub upto_text : Option ℤ → List ℕ
upto_text None = codes "last"
upto_text (Some zxid) = id_digits zxid

-- a zxid, or None
abbrev pub IsUpto : Option ℤ → Type 0
IsUpto None = Unit {0}
IsUpto (Some zxid) = FitsSigned w64 zxid

-- up to which transaction the tree is shown, by a word; None for a word that is neither a zxid nor
-- "last"
abbrev pub ReadsUpto : List ℕ → Option (Option ℤ) → Type 0
ReadsUpto word (Some upto) = word ≡ upto_text upto
ReadsUpto word None = (upto : Option ℤ) → IsUpto upto → word ≢ upto_text upto

-- ---- the values after a command's name

-- an option, such as "-h" or "--help"; "-" alone is a value
abbrev pub is_option : List ℕ → Bool
is_option (first ∷ second ∷ rest) = first == 45
is_option word = false

abbrev pub with_value : List ℕ → Option (List (List ℕ)) → Option (List (List ℕ))
with_value word None = None
with_value word (Some values) = Some (word ∷ values)

-- The values among words, if none is an option. The first "--" is left out, and each word after it
-- is a value.
abbrev pub values_of : List (List ℕ) → Option (List (List ℕ))
values_of [] = Some []
values_of (word ∷ words) = if bytes_eq word (codes "--") then Some words else (if is_option word then None else with_value word (values_of words))

-- ---- the option of a session

abbrev pub without_second : List ℕ → List (List ℕ) → Option (List (List ℕ))
without_second first [] = None
without_second first (second ∷ rest) = if bytes_eq second (codes "--prompt") then (if bytes_eq first (codes "--") then None else Some (first ∷ rest)) else None

-- The words without "--prompt", if it is before the log or after it; after a "--" it is a value. A
-- session has one value, so there is no other position.
abbrev pub without_prompt : List (List ℕ) → Option (List (List ℕ))
without_prompt [] = None
without_prompt (first ∷ rest) = if bytes_eq first (codes "--prompt") then Some rest else without_second first rest

abbrev pub given_with : Option (List (List ℕ)) → List (List ℕ) → Option (Bool × List (List ℕ))
given_with None words = option_map (λ values. (false, values)) (values_of words)
given_with (Some kept) words = option_map (λ values. (true, values)) (values_of kept)

-- whether prompts are on, and the values
abbrev pub given_by : List (List ℕ) → Option (Bool × List (List ℕ))
given_by words = given_with (without_prompt words) words

-- only a session has the option
abbrev pub prompts_of : Order → Bool
prompts_of (orders.Session prompts) = prompts
prompts_of order = false

-- ---- a job

-- standard input can be read once
abbrev pub both_standard : List ℕ → List ℕ → Bool
both_standard input script = bytes_eq input (codes "@") && bytes_eq script (codes "@")

-- the log that is read must not be overwritten, and standard output has the report
abbrev pub writes_over : List ℕ → List ℕ → Bool
writes_over input output = bytes_eq output (codes "@") || bytes_eq input output

-- the log, and a word for the last transaction
abbrev pub ShowsUpto : List (List ℕ) → List ℕ → Option ℤ → Type 0
ShowsUpto values input upto = (word : List ℕ) × (values ≡ input ∷ word ∷ []) × (padded word ≡ upto_text upto)

-- A command's name and its values determine a command, its input, the script of a debugger, and its
-- output; "@" is a standard stream.
abbrev pub NamesBy : List ℕ → List (List ℕ) → Order → List ℕ → Option (List ℕ) → List ℕ → Type 0
NamesBy name values (orders.Show upto) input script output = (name ≡ codes "show") × ShowsUpto values input upto × IsUpto upto × (script ≡ None) × (output ≡ codes "@")
NamesBy name values orders.List input script output = (name ≡ codes "list") × (values ≡ input ∷ []) × (script ≡ None) × (output ≡ codes "@")
NamesBy name values orders.Asm input script output = (name ≡ codes "asm") × (values ≡ input ∷ output ∷ []) × (script ≡ None)
NamesBy name values orders.Run input script output = (name ≡ codes "run") × (values ≡ input ∷ []) × (script ≡ None) × (output ≡ codes "@")
NamesBy name values orders.Mend input script output = (name ≡ codes "mend") × (values ≡ input ∷ output ∷ []) × (script ≡ None) × (writes_over input output ≡ false)
NamesBy name values (orders.Session prompts) input script output = (name ≡ codes "debug") × (values ≡ input ∷ []) × (bytes_eq input (codes "@") ≡ false) × (script ≡ None) × (output ≡ codes "@")
NamesBy name values orders.Debug input None output = ⊥
NamesBy name values orders.Debug input (Some script) output = (name ≡ codes "debug") × (values ≡ input ∷ script ∷ []) × (both_standard input script ≡ false) × (output ≡ codes "@")

-- the words are the program's name, a command's, and words with its values
pub record Names (words : List (List ℕ)) (order : Order) (input : List ℕ) (script : Option (List ℕ)) (output : List ℕ) : Type 0 where
  pub program : List ℕ
  pub name : List ℕ
  pub rest : List (List ℕ)
  pub values : List (List ℕ)
  pub spelled : words ≡ program ∷ name ∷ rest
  pub given : given_by rest ≡ Some (prompts_of order, values)
  pub named : NamesBy name values order input script output

abbrev pub NamesNoJob : List (List ℕ) → Type 0
NamesNoJob words = (order : Order) (input : List ℕ) (script : Option (List ℕ)) (output : List ℕ) → ¬ Names words order input script output

abbrev pub script_of : Job → Option (List ℕ)
script_of job = option_map (λ script. script.now) job.script

-- a job is what the words name
abbrev pub ReadsJob : List (List ℕ) → Option Job → Type 0
ReadsJob words (Some job) = Names words job.order job.input.now (script_of job) job.output.now
ReadsJob words None = NamesNoJob words

-- ---- its parts

-- the job of a command's name and values, without prompts
abbrev pub ReadsJobBy : List ℕ → List (List ℕ) → Option Job → Type 0
ReadsJobBy name values (Some job) = NamesBy name values job.order job.input.now (script_of job) job.output.now × (prompts_of job.order ≡ false)
ReadsJobBy name values None = (order : Order) (input : List ℕ) (script : Option (List ℕ)) (output : List ℕ) → prompts_of order ≡ false → ¬ NamesBy name values order input script output

-- the same for the values of some words
abbrev pub ReadsGiven : List ℕ → Bool → Option (List (List ℕ)) → Option Job → Type 0
ReadsGiven name prompts given (Some job) = (values : List (List ℕ)) × (given ≡ Some values) × (prompts_of job.order ≡ prompts) × NamesBy name values job.order job.input.now (script_of job) job.output.now
ReadsGiven name prompts given None =
    (values : List (List ℕ)) (order : Order) (input : List ℕ) (script : Option (List ℕ)) (output : List ℕ) → given ≡ Some values → prompts_of order ≡ prompts → ¬ NamesBy name values order input script output

-- the same for all words after a command's name
abbrev pub ReadsBehind : List ℕ → List (List ℕ) → Option Job → Type 0
ReadsBehind name words (Some job) = (values : List (List ℕ)) × (given_by words ≡ Some (prompts_of job.order, values)) × NamesBy name values job.order job.input.now (script_of job) job.output.now
ReadsBehind name words None =
    (values : List (List ℕ)) (order : Order) (input : List ℕ) (script : Option (List ℕ)) (output : List ℕ) → given_by words ≡ Some (prompts_of order, values) → ¬ NamesBy name values order input script output

abbrev pub ReadsSession : List ℕ → Bool → Option Job → Type 0
ReadsSession input prompts None = bytes_eq input (codes "@") ≡ true
ReadsSession input prompts (Some job) = (bytes_eq input (codes "@") ≡ false) × (job.order ≡ orders.Session prompts) × (job.input.now ≡ input) × (script_of job ≡ None) × (job.output.now ≡ codes "@")

abbrev pub ReadsDebug : List ℕ → List ℕ → Option Job → Type 0
ReadsDebug input script None = both_standard input script ≡ true
ReadsDebug input script (Some job) = (both_standard input script ≡ false) × (job.order ≡ orders.Debug) × (job.input.now ≡ input) × (script_of job ≡ Some script) × (job.output.now ≡ codes "@")

abbrev pub ReadsMend : List ℕ → List ℕ → Option Job → Type 0
ReadsMend input output None = writes_over input output ≡ true
ReadsMend input output (Some job) = (writes_over input output ≡ false) × (job.order ≡ orders.Mend) × (job.input.now ≡ input) × (script_of job ≡ None) × (job.output.now ≡ output)

-- a list's only element
abbrev pub IsOnly : List (List ℕ) → Option (List ℕ) → Type 0
IsOnly values (Some value) = values ≡ value ∷ []
IsOnly values None = (value : List ℕ) → values ≢ value ∷ []

-- a list's only two elements
abbrev pub AreOnly : List (List ℕ) → Option (List ℕ × List ℕ) → Type 0
AreOnly values (Some both) = values ≡ both.0 ∷ both.1 ∷ []
AreOnly values None = (first second : List ℕ) → values ≢ first ∷ second ∷ []
