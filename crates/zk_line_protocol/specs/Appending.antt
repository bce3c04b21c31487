-- Appending a text that may be absent.
use Rattle.std.specs.Prelude.{◌≡◌, ℕ, List, [], ◌++◌, Bool, Option, Some, None, Result, Ok, Err}
use Rattle.std.specs.Option.{is_some}

-- the text, or no text
abbrev pub or_nothing : Option (List ℕ) → List ℕ
or_nothing None = []
or_nothing (Some text) = text

-- the text was appended, if there is one, and the result says whether there is
abbrev pub Tells : {E : Type 0} → Option (List ℕ) → Result Bool E → List ℕ → List ℕ → Type 0
Tells text (Ok told) page page' = (told ≡ is_some text) × (page' ≡ page ++ or_nothing text)
Tells text (Err refused) page page' = Unit {0}
