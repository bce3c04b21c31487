-- The lines of a text, and the line for the first line of a script that is not a command:
-- definitions of this project.
use Rattle.std.specs.Prelude.{◌==◌, ℕ, List, [], ◌∷◌, ◌++◌, if◌then◌else◌, codes}
use Rattle.std.specs.Fmt.{decimal}

abbrev pub begun_by : ℕ → List (List ℕ) → List (List ℕ)
begun_by b [] = (b ∷ []) ∷ []
begun_by b (line ∷ lines) = (b ∷ line) ∷ lines

-- the lines of a text, without their newlines; the last one may have none
unfoldable pub lines_of : List ℕ → List (List ℕ)
lines_of [] = []
lines_of (b ∷ bs) = if b == 10 then [] ∷ lines_of bs else begun_by b (lines_of bs)

-- the line for the first line of a script that is not a command, by its number
abbrev pub line_of_script_fault : ℕ → List ℕ
line_of_script_fault number = codes "zk: script " ++ decimal number ++ codes "\n"
