-- The lines of an operator.
use Rattle.std.specs.Prelude.{◌≡◌, ℕ, List, [], ◌∷◌, ◌++◌, length, nat_lt, Option, Some, None, Vec, codes, if◌then◌else◌}
use Rattle.std.specs.declared.alloc.Global.{Global}
use Rattle.std.specs.Str.Parse.{IsNumeral, digits_value, without_leading_plus}
use Rattle.zk_line_protocol.specs.Lines.{IsSplit}
use Rattle.zk_reactor.specs.declared.command.Command.{Command}
use Rattle.zk_reactor.specs.declared.command.Command.TheVariants as commands

-- ---- lines

-- what waits of a line that is too long is dropped
abbrev pub with_input : List ℕ → List ℕ → List ℕ
with_input bytes waiting = (if nat_lt 4096 (length waiting) then [] else waiting) ++ bytes

-- the first line is taken, without its newline
abbrev pub TakesLine : Option (Vec ℕ Global) → List ℕ → List ℕ → Type 0
TakesLine None old new = IsSplit old None × (new ≡ old)
TakesLine (Some line) old new = IsSplit old (Some (line.items, new))

-- ---- commands

-- a decimal number
pub record NamesServer (word : List ℕ) (server : ℕ) : Type 0 where
  pub numeral : IsNumeral 10 (without_leading_plus word)
  pub value : server ≡ digits_value 10 (without_leading_plus word)

-- two of them, with a space between
pub record NamesServers (words : List ℕ) (one other : ℕ) : Type 0 where
  pub first : List ℕ
  pub second : List ℕ
  pub both : words ≡ first ++ 32 ∷ second
  pub is_one : NamesServer first one
  pub is_other : NamesServer second other

-- a word, and the number of a server
abbrev pub NamesOf : List ℕ → List ℕ → ℕ → Type 0
NamesOf name line server = (word : List ℕ) × (line ≡ name ++ word) × NamesServer word server

abbrev pub NamesCommand : List ℕ → Command → Type 0
NamesCommand line commands.Heal = line ≡ codes "heal"
NamesCommand line commands.Status = line ≡ codes "status"
NamesCommand line (commands.Crash server) = NamesOf (codes "crash ") line server
NamesCommand line (commands.Restart server) = NamesOf (codes "restart ") line server
NamesCommand line (commands.Lead server) = NamesOf (codes "lead ") line server
NamesCommand line (commands.Cut one other) = (words : List ℕ) × (line ≡ codes "cut " ++ words) × NamesServers words one other
