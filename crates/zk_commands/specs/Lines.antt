-- The lines of an input, as they are read: a definition of this project.
use Rattle.std.specs.Prelude.{◌≡◌, ◌≢◌, ◌==◌, ◌<◌, ◌≤◌, ◌⊎◌, ℕ, List, [], ◌∷◌, ◌++◌, Bool, true, false, length, Option, Some}
use Rattle.std.specs.Io.KnownBytes.{Consumes}
use Rattle.std.specs.List.{AllByRecursion}
use Rattle.zk_listing.specs.Lines.{lines_of}
use Rattle.zk_commands.specs.declared.line.Line.{Line}

-- a text without a newline
abbrev pub IsUnended : List ℕ → Type 0
IsUnended text = AllByRecursion (λ b. (b == 10) ≡ false) text

-- a part of a line was read from the known bytes
pub record HearsPart (left left' : Option (List ℕ)) : Type 0 where
  pub read : List ℕ
  pub consumed : Consumes left left' read
  pub unended : IsUnended read

-- a whole line was read, with its newline; the last one may have none
pub record HearsLine (left left' : Option (List ℕ)) (text : List ℕ) : Type 0 where
  pub read : List ℕ
  pub consumed : Consumes left left' read
  pub unended : IsUnended text
  pub ends : (read ≡ text ++ 10 ∷ []) ⊎ ((read ≡ text) × (text ≢ []) × (left' ≡ Some []))

-- n lines were read: the rest starts a line, or is empty
pub record HearsLines (left left' : Option (List ℕ)) (lines : List (List ℕ)) : Type 0 where
  pub read : List ℕ
  pub consumed : Consumes left left' read
  pub split : lines_of read ≡ lines
  pub between : ((more : List ℕ) → lines_of (read ++ more) ≡ lines ++ lines_of more) ⊎ (left' ≡ Some [])

-- ---- a line that is too long

abbrev pub most_bytes : ℕ
most_bytes = 65536

abbrev pub HoldsBy : Bool → List ℕ → List ℕ → Type 0
HoldsBy true bytes text = most_bytes < length text
HoldsBy false bytes text = (bytes ≡ text) × (length text ≤ most_bytes)

-- the part of a line that was read
abbrev pub Holds : Line → List ℕ → Type 0
Holds it text = HoldsBy it.is_long it.bytes.items text
