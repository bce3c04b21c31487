-- Which error a line on standard error is for.
use denote.Ref.{Bor}
use Rattle.std.specs.Prelude.{◌≡◌, ℕ, ◌==◌, ◌||◌, nat_eq, Bool, List, codes, take, drop, Option, Some, None, if◌then◌else◌}
use Rattle.std.specs.Cmp.Lexicographic.{pointwise}
use Rattle.std.specs.List.{position}
use Rattle.std.specs.Str.{bytes_eq}

-- a space, or the end of the line
abbrev pub is_end : ℕ → Bool
is_end byte = (byte == 32) || (byte == 10)

-- the bytes before the first end, or all if there is none
abbrev pub before : Option ℕ → List ℕ → List ℕ
before None bytes = bytes
before (Some end) bytes = take end bytes

abbrev pub first_word : List ℕ → List ℕ
first_word bytes = before (position is_end bytes) bytes

-- the word after `zk: `, of a line that begins so
abbrev pub code_of : List ℕ → Option (List ℕ)
code_of line = if pointwise nat_eq (take 4 line) (codes "zk: ") then Some (first_word (drop 4 line)) else None

-- what the program finds in a line: this word, where it stands in memory
abbrev pub CodeIs : List ℕ → Option (Bor (List ℕ)) → Type 0
CodeIs line None = code_of line ≡ None
CodeIs line (Some code) = code_of line ≡ Some code.now

-- ---- the option that asks for explanations

abbrev pub asks : Bor (List ℕ) → Bool
asks word = bytes_eq word.now (codes "--explain")

-- the place of the option among the words of a command line
abbrev pub explain_at : List (Bor (List ℕ)) → Option ℕ
explain_at words = position asks words
