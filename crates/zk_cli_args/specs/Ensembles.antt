-- The words of a command line that runs an ensemble for ZooKeeper's clients.
use Rattle.std.specs.Prelude.{◌≡◌, ℕ, List, [], ◌∷◌, Bool, true, false, Option, Some, None, codes, option_map}
use Rattle.zk_cli_args.specs.Commands.{values_of}
use Rattle.zk_cli_args.specs.Options.{ValueBeside, flag_in, option_in}
use Rattle.zk_cli_args.specs.Serving.{NamesServers, SpellsWithin}
use Rattle.zk_cli_args.specs.declared.ensemble.Ensemble.{Ensemble}
use Rattle.zk_cli_args.specs.declared.serving.Serving.{Serving}

-- ---- options

-- an option's value, if it is there, and the other words
abbrev pub value_or : Option ValueBeside → List (List ℕ) → Option (List ℕ) × List (List ℕ)
value_or None words = (None, words)
value_or (Some found) words = (Some found.0, found.1)

-- whether a flag is there, and the other words
abbrev pub flag_or : Option (List (List ℕ)) → List (List ℕ) → Bool × List (List ℕ)
flag_or None words = (false, words)
flag_or (Some others) words = (true, others)

abbrev pub stored : List (List ℕ) → Option (List ℕ) × List (List ℕ)
stored words = value_or (option_in (codes "--data") (codes "--data=") words) words

abbrev pub bound : List (List ℕ) → Option (List ℕ) × List (List ℕ)
bound words = value_or (option_in (codes "--bind") (codes "--bind=") words) words

abbrev pub limited : List (List ℕ) → Option (List ℕ) × List (List ℕ)
limited words = value_or (option_in (codes "--max-connections") (codes "--max-connections=") words) words

abbrev pub ending : List (List ℕ) → Bool × List (List ℕ)
ending words = flag_or (flag_in (codes "--until-eof") words) words

-- without a limit, 1,000 connections
abbrev pub SpellsMost : Option (List ℕ) → ℕ → Type 0
SpellsMost None most = most ≡ 1000
SpellsMost (Some word) most = SpellsWithin 1 4294967295 word most

-- the word of the address
abbrev pub bind_of : Ensemble → Option (List ℕ)
bind_of it = option_map (λ word. word.now) it.bind

-- the word of the directory
abbrev pub directory_of : Ensemble → Option (List ℕ)
directory_of it = option_map (λ word. word.now) it.directory

-- ---- a command line

-- the words' values are a port and a number of servers, which may be one
pub record NamesPlain (words : List (List ℕ)) (it : Ensemble) : Type 0 where
  pub values : List (List ℕ)
  pub given : values_of words ≡ Some values
  pub named : NamesServers 1 values it.serving

-- the same, among the words without the flag
pub record NamesEnding (words : List (List ℕ)) (it : Ensemble) : Type 0 where
  pub flag : it.until_eof ≡ (ending words).0
  pub others : NamesPlain (ending words).1 it

-- the same, among the words without the limit
pub record NamesLimited (words : List (List ℕ)) (it : Ensemble) : Type 0 where
  pub most : SpellsMost (limited words).0 it.serving.connections
  pub others : NamesEnding (limited words).1 it

-- the same, among the words without the address
pub record NamesBound (words : List (List ℕ)) (it : Ensemble) : Type 0 where
  pub address : bind_of it ≡ (bound words).0
  pub others : NamesLimited (bound words).1 it

-- the same, among the words without the directory
pub record NamesEnsembleBehind (words : List (List ℕ)) (it : Ensemble) : Type 0 where
  pub place : directory_of it ≡ (stored words).0
  pub others : NamesBound (stored words).1 it

-- the words are the program's name, the command's, and those after it
pub record NamesEnsemble (words : List (List ℕ)) (it : Ensemble) : Type 0 where
  pub program : List ℕ
  pub rest : List (List ℕ)
  pub spelled : words ≡ program ∷ codes "ensemble" ∷ rest
  pub named : NamesEnsembleBehind rest it

abbrev pub NamesNoEnsemble : List (List ℕ) → Type 0
NamesNoEnsemble words = (it : Ensemble) → ¬ NamesEnsemble words it

abbrev pub ReadsEnsemble : List (List ℕ) → Option Ensemble → Type 0
ReadsEnsemble words (Some it) = NamesEnsemble words it
ReadsEnsemble words None = NamesNoEnsemble words

-- ---- its parts

abbrev pub ReadsEnsembleBehind : List (List ℕ) → Option Ensemble → Type 0
ReadsEnsembleBehind words (Some it) = NamesEnsembleBehind words it
ReadsEnsembleBehind words None = (it : Ensemble) → ¬ NamesEnsembleBehind words it

-- by the command's name, and the words after it
abbrev pub ReadsEnsembleNamed : List ℕ → List (List ℕ) → Option Ensemble → Type 0
ReadsEnsembleNamed name words (Some it) = (name ≡ codes "ensemble") × NamesEnsembleBehind words it
ReadsEnsembleNamed name words None = (it : Ensemble) → name ≡ codes "ensemble" → ¬ NamesEnsembleBehind words it

-- with this directory
abbrev pub ReadsStored : Option (List ℕ) → List (List ℕ) → Option Ensemble → Type 0
ReadsStored directory words (Some it) = (directory_of it ≡ directory) × NamesBound words it
ReadsStored directory words None = (it : Ensemble) → ¬ NamesBound words it

-- with this address, and without a directory
abbrev pub ReadsBound : Option (List ℕ) → List (List ℕ) → Option Ensemble → Type 0
ReadsBound bind words (Some it) = (directory_of it ≡ None) × (bind_of it ≡ bind) × NamesLimited words it
ReadsBound bind words None = (it : Ensemble) → ¬ NamesLimited words it

-- with this address and this limit
abbrev pub ReadsLimited : Option (List ℕ) → ℕ → List (List ℕ) → Option Ensemble → Type 0
ReadsLimited bind most words (Some it) = (directory_of it ≡ None) × (bind_of it ≡ bind) × (it.serving.connections ≡ most) × NamesEnding words it
ReadsLimited bind most words None = (it : Ensemble) → ¬ NamesEnding words it

-- with these, and the flag or without it
abbrev pub ReadsPlain : Option (List ℕ) → ℕ → Bool → List (List ℕ) → Option Ensemble → Type 0
ReadsPlain bind most until_eof words (Some it) = (directory_of it ≡ None) × (bind_of it ≡ bind) × (it.serving.connections ≡ most) × (it.until_eof ≡ until_eof) × NamesPlain words it
ReadsPlain bind most until_eof words None = (it : Ensemble) → ¬ NamesPlain words it
