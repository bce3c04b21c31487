-- The form in which a command writes what it reads: `--json`, or `--time iso`.
use Rattle.std.specs.Prelude.{ℕ, Bool, ◌||◌, List, [], ◌∷◌, ◌++◌, map, take, drop, Option, Some, None, if◌then◌else◌, codes}
use Rattle.std.specs.Borrow.{Bor}
use Rattle.std.specs.List.{position_or_len}
use Rattle.std.specs.Str.{bytes_eq}
use Rattle.zk_cli_args.specs.declared.form.AskedForm.{AskedForm}
use Rattle.zk_cli_args.specs.declared.form.Form.{Form}
use Rattle.zk_cli_args.specs.declared.form.Form.TheVariants as forms

-- a form, and words
abbrev pub Found : Type 0
Found = Form × List (List ℕ)

-- a word that may decide; "--" ends the options
abbrev pub is_mark : List ℕ → Bool
is_mark word = ((bytes_eq word (codes "--json") || bytes_eq word (codes "--time")) || bytes_eq word (codes "--time=iso")) || bytes_eq word (codes "--")

abbrev pub times_by : List (List ℕ) → Option Found
times_by [] = None
times_by (word ∷ rest) = if bytes_eq word (codes "iso") then Some (forms.Times, rest) else None

-- the form that words ask for at their beginning, and the words after these
abbrev pub asked_at : List (List ℕ) → Option Found
asked_at [] = None
asked_at (word ∷ rest) = if bytes_eq word (codes "--json") then Some (forms.Json, rest) else (if bytes_eq word (codes "--time=iso") then Some (forms.Times, rest) else (if bytes_eq word (codes "--time") then times_by rest else None))

abbrev pub found_after : List (List ℕ) → List (List ℕ) → Option Found → Found
found_after front rest None = (forms.Lines, front ++ rest)
found_after front rest (Some found) = (found.0, front ++ found.1)

abbrev pub form_at : ℕ → List (List ℕ) → Found
form_at mark words = found_after (take mark words) (drop mark words) (asked_at (drop mark words))

-- the form, and the other words: the first word that may decide decides
abbrev pub form_of : List (List ℕ) → Found
form_of words = form_at (position_or_len is_mark words) words

abbrev pub shown_form : AskedForm → Found
shown_form asked = (asked.form, map (λ word. word.now) asked.others.items)

-- ---- calls within

abbrev pub shown_found : Form × Bor (List (Bor (List ℕ))) → Found
shown_found found = (found.0, map (λ word. word.now) found.1.now)
