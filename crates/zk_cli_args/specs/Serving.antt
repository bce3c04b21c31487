-- The words of a command line that runs servers.
use Rattle.std.specs.Prelude.{◌≡◌, ◌≢◌, ℕ, ℤ, ◌≤◌, FitsSigned, List, [], ◌∷◌, Option, Some, None, codes}
use Rattle.std.specs.Fmt.{decimal, signed_decimal}
use Rattle.std.specs.Int.{w64}
use Rattle.zk_cli_args.specs.Options.{given_with_option}
use Rattle.zk_cli_args.specs.declared.serving.Serving.{Serving}

-- ---- numbers

-- a decimal number in a range
pub record SpellsWithin (least most : ℕ) (word : List ℕ) (number : ℕ) : Type 0 where
  pub enough : least ≤ number
  pub few : number ≤ most
  pub spelled : word ≡ decimal number

abbrev pub ReadsWithin : ℕ → ℕ → List ℕ → Option ℕ → Type 0
ReadsWithin least most word (Some number) = SpellsWithin least most word number
ReadsWithin least most word None = (number : ℕ) → ¬ SpellsWithin least most word number

-- ---- a command line

-- the number of connections, if it is there, and the values
abbrev pub served_by : List (List ℕ) → Option (Option (List ℕ) × List (List ℕ))
served_by words = given_with_option (codes "--conns") (codes "--conns=") words

-- without a count, one connection is served
abbrev pub SpellsConnections : Option (List ℕ) → ℕ → Type 0
SpellsConnections None connections = connections ≡ 1
SpellsConnections (Some count) connections = SpellsWithin 0 4294967295 count connections

-- the values are a port and a number of servers, at least this one
pub record NamesServers (least : ℕ) (values : List (List ℕ)) (serving : Serving) : Type 0 where
  pub port : List ℕ
  pub servers : List ℕ
  pub two : values ≡ port ∷ servers ∷ []
  pub is_port : SpellsWithin 1 65535 port serving.port
  pub are_servers : SpellsWithin least 15 servers serving.servers

-- the words after the command's name are these values, with two servers at least, and may contain
-- the number of connections
pub record NamesBehind (words : List (List ℕ)) (serving : Serving) : Type 0 where
  pub count : Option (List ℕ)
  pub values : List (List ℕ)
  pub given : served_by words ≡ Some (count, values)
  pub named : NamesServers 2 values serving
  pub connections : SpellsConnections count serving.connections

-- the words are the program's name, the command's, and those after it
pub record NamesServing (words : List (List ℕ)) (serving : Serving) : Type 0 where
  pub program : List ℕ
  pub rest : List (List ℕ)
  pub spelled : words ≡ program ∷ codes "serve" ∷ rest
  pub named : NamesBehind rest serving

abbrev pub NamesNoServing : List (List ℕ) → Type 0
NamesNoServing words = (serving : Serving) → ¬ NamesServing words serving

abbrev pub ReadsServing : List (List ℕ) → Option Serving → Type 0
ReadsServing words (Some serving) = NamesServing words serving
ReadsServing words None = NamesNoServing words

-- ---- its parts

abbrev pub ReadsDecimal : List ℕ → Option ℤ → Type 0
ReadsDecimal word (Some z) = FitsSigned w64 z × (word ≡ signed_decimal z) × ((y : ℤ) → FitsSigned w64 y → word ≡ signed_decimal y → z ≡ y)
ReadsDecimal word None = (y : ℤ) → FitsSigned w64 y → word ≢ signed_decimal y

abbrev pub ReadsServingBehind : List (List ℕ) → Option Serving → Type 0
ReadsServingBehind words (Some serving) = NamesBehind words serving
ReadsServingBehind words None = (serving : Serving) → ¬ NamesBehind words serving

-- by the command's name, and the words after it
abbrev pub ReadsServingNamed : List ℕ → List (List ℕ) → Option Serving → Type 0
ReadsServingNamed name words (Some serving) = (name ≡ codes "serve") × NamesBehind words serving
ReadsServingNamed name words None = (serving : Serving) → name ≡ codes "serve" → ¬ NamesBehind words serving

-- by the values of some words, the least number of servers, and a number of connections
abbrev pub ReadsServersOf : Option (List (List ℕ)) → ℕ → ℕ → Option Serving → Type 0
ReadsServersOf given least connections (Some serving) =
    (values : List (List ℕ)) × (given ≡ Some values) × NamesServers least values serving × (serving.connections ≡ connections)
ReadsServersOf given least connections None =
    (values : List (List ℕ)) (serving : Serving) → given ≡ Some values → ¬ NamesServers least values serving

abbrev pub ReadsServers : List (List ℕ) → ℕ → ℕ → Option Serving → Type 0
ReadsServers values least connections (Some serving) = NamesServers least values serving × (serving.connections ≡ connections)
ReadsServers values least connections None = (serving : Serving) → ¬ NamesServers least values serving
