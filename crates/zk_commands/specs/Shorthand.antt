-- The short forms of a session's lines: a definition of this project.
use Rattle.std.specs.Prelude.{ℕ, nat_eq, nat_lt, ◌-◌, ◌==◌, ◌&&◌, ◌||◌, not, Bool, List, [], ◌∷◌, ◌++◌, length, replicate, Option, None, Some, if◌then◌else◌, codes}
use Rattle.std.specs.List.{list_any, starts_with}
use Rattle.std.specs.Option.{unwrap_or}
use Rattle.zk_debug.specs.Reading.{looked_up, word_in, field_in}
use Rattle.zk_listing.specs.Reading.{◌>>=◌, past}

-- ---- fields

-- a path without quotes, spaces or backslashes
abbrev pub is_marked : ℕ → Bool
is_marked byte = byte == 32 || byte == 34 || byte == 92

abbrev pub is_bare : List ℕ → Bool
is_bare path = starts_with nat_eq path (codes "/") && not (list_any is_marked path)

-- such a path gets quotes
abbrev pub long_path : List ℕ → List ℕ
long_path path = if is_bare path then codes "\"" ++ path ++ codes "\"" else path

-- `0x` and one to sixteen digits are sixteen digits
abbrev pub long_digits : List ℕ → List ℕ → List ℕ
long_digits id digits = if nat_eq (length digits) 0 || nat_lt 16 (length digits) then id else replicate (16 - length digits) 48 ++ digits

abbrev pub digits_past : List ℕ → Option (List ℕ)
digits_past id = past 48 id >>= past 120

abbrev pub long_after : List ℕ → Option (List ℕ) → List ℕ
long_after id None = id
long_after id (Some digits) = long_digits id digits

abbrev pub long_id : List ℕ → List ℕ
long_id id = long_after id (digits_past id)

-- ---- lines

-- what follows a word, by the words that a zxid or a path follows
abbrev pub by_word : List (List ℕ × (List ℕ → List ℕ)) → List ℕ → List ℕ → List ℕ
by_word words word field = unwrap_or (looked_up word words) (λ same. same) field

unfoldable pub long_break_field : List ℕ → List ℕ → List ℕ
long_break_field = by_word ((codes "at", long_id) ∷ (codes "session", long_id) ∷ (codes "path", long_path) ∷ (codes "prefix", long_path) ∷ [])

abbrev pub condition_by : List ℕ → Option (List ℕ) → List ℕ
condition_by word None = word
condition_by word (Some field) = word ++ 32 ∷ long_break_field word field

abbrev pub long_condition : List ℕ → List ℕ
long_condition condition = condition_by (word_in condition) (field_in condition)

unfoldable pub long_field : List ℕ → List ℕ → List ℕ
long_field = by_word ((codes "goto", long_id) ∷ (codes "node", long_path) ∷ (codes "tree", long_path) ∷ (codes "break", long_condition) ∷ [])

unfoldable pub long_word : List ℕ → List ℕ
long_word word = unwrap_or (looked_up word ((codes "s", codes "step") ∷ (codes "b", codes "back") ∷ (codes "r", codes "run") ∷ (codes "rb", codes "runback") ∷ (codes "g", codes "goto") ∷ [])) word

abbrev pub line_by : List ℕ → Option (List ℕ) → List ℕ
line_by word None = word
line_by word (Some field) = word ++ 32 ∷ long_field word field

-- the line that a session's line stands for
abbrev pub long_form : List ℕ → List ℕ
long_form line = line_by (long_word (word_in line)) (field_in line)
