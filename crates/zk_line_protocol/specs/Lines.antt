-- The lines of an input. This project's own.
use Rattle.std.specs.Prelude.{ℕ, ◌+◌, ◌==◌, ◌≡◌, nat_le, List, [], ◌∷◌, ◌++◌, Bool, true, false, if◌then◌else◌, length, Option, Some, None}
use Rattle.std.specs.List.{AllByRecursion, filter}

-- a line, without the newline that ends it; the last line of an input may have none
pub record Line : Type 0 where
  pub text : List ℕ
  pub ended : Bool

abbrev pub line : List ℕ → Bool → Line
line text ended = record { text = text; ended = ended }

abbrev pub begun_by : ℕ → List Line → List Line
begun_by b [] = line (b ∷ []) false ∷ []
begun_by b (l ∷ ls) = line (b ∷ l.text) l.ended ∷ ls

unfoldable pub lines_in : List ℕ → List Line
lines_in [] = []
lines_in (b ∷ bs) = if b == 10 then line [] true ∷ lines_in bs else begun_by b (lines_in bs)

-- the lines that a newline ends
abbrev pub ended_in : List ℕ → List Line
ended_in bytes = filter (λ l. l.ended) (lines_in bytes)

abbrev pub most_bytes : ℕ
most_bytes = 65536

-- the bytes of a line that is not too long, with its newline
abbrev pub read_line : Line → Option (List ℕ)
read_line l = if nat_le (length l.text + (if l.ended then 1 else 0)) most_bytes then Some l.text else None

-- a text without newline
abbrev pub IsUnended : List ℕ → Type 0
IsUnended text = AllByRecursion (λ b. (b == 10) ≡ false) text

-- the bytes before and after the first newline
abbrev pub IsSplit : List ℕ → Option (List ℕ × List ℕ) → Type 0
IsSplit bytes None = IsUnended bytes
IsSplit bytes (Some x) = (bytes ≡ x.0 ++ 10 ∷ x.1) × IsUnended x.0
