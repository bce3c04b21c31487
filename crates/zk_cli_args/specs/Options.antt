-- An option that takes a value, and a flag, among the words after a command's name.
use Rattle.std.specs.Prelude.{ℕ, List, [], ◌∷◌, ◌++◌, length, map, Option, Some, None, if◌then◌else◌, codes, option_map, take, drop}
use Rattle.std.specs.Str.{bytes_eq}
use Rattle.zk_cli_args.specs.Commands.{values_of}
use Rattle.zk_cli_args.specs.declared.options.OptionValue.{OptionValue}

-- the value in "--NAME=VALUE"; the prefix ends with "="
abbrev pub value_in : List ℕ → List ℕ → Option (List ℕ)
value_in prefix word = if bytes_eq (take (length prefix) word) prefix then Some (drop (length prefix) word) else None

-- a value, and the other words
abbrev pub ValueBeside : Type 0
ValueBeside = List ℕ × List (List ℕ)

abbrev pub value_behind : List (List ℕ) → Option ValueBeside
value_behind [] = None
value_behind (value ∷ rest) = Some (value, rest)

-- prepends words
abbrev pub behind : List (List ℕ) → Option ValueBeside → Option ValueBeside
behind front None = None
behind front (Some found) = Some (found.0, front ++ found.1)

abbrev pub found_or : Option (List ℕ) → List ℕ → List (List ℕ) → Option ValueBeside → Option ValueBeside
found_or (Some value) word rest further = Some (value, rest)
found_or None word rest further = behind (word ∷ []) further

-- The value in the first "--NAME VALUE" or "--NAME=VALUE", and all other words; None without such
-- words before a "--".
abbrev pub option_in : List ℕ → List ℕ → List (List ℕ) → Option ValueBeside
option_in name prefix [] = None
option_in name prefix (word ∷ rest) = if bytes_eq word (codes "--") then None else (if bytes_eq word name then value_behind rest else found_or (value_in prefix word) word rest (option_in name prefix rest))

-- the file of a record, and the other words
abbrev pub record_of : List (List ℕ) → Option ValueBeside
record_of words = option_in (codes "--record") (codes "--record=") words

abbrev pub given_beside : Option ValueBeside → List (List ℕ) → Option (Option (List ℕ) × List (List ℕ))
given_beside None words = option_map (λ values. (None, values)) (values_of words)
given_beside (Some found) words = option_map (λ values. (Some found.0, values)) (values_of found.1)

-- the option's value, if it is there, and the other values; a second one is an unknown option
abbrev pub given_with_option : List ℕ → List ℕ → List (List ℕ) → Option (Option (List ℕ) × List (List ℕ))
given_with_option name prefix words = given_beside (option_in name prefix words) words

-- ---- a flag

-- prepends words
abbrev pub after : List (List ℕ) → Option (List (List ℕ)) → Option (List (List ℕ))
after front None = None
after front (Some others) = Some (front ++ others)

-- All words but the flag; None without a flag before a "--".
abbrev pub flag_in : List ℕ → List (List ℕ) → Option (List (List ℕ))
flag_in flag [] = None
flag_in flag (word ∷ rest) = if bytes_eq word (codes "--") then None else (if bytes_eq word flag then Some rest else after (word ∷ []) (flag_in flag rest))

-- ---- its parts

abbrev pub shown : OptionValue → ValueBeside
shown found = (found.value.now, map (λ word. word.now) found.others.items)
