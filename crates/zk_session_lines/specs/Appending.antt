-- Texts in parts.
use Rattle.std.specs.Prelude.{◌≡◌, ℕ, List, [], ◌∷◌, ◌++◌}

-- just these bytes
abbrev pub Is : List ℕ → List ℕ → Type 0
Is bytes text = text ≡ bytes

-- a part, and then another
abbrev pub Then : (List ℕ → Type 0) → (List ℕ → Type 0) → List ℕ → Type 0
Then First Rest text = (first : List ℕ) × (rest : List ℕ) × First first × Rest rest × (text ≡ first ++ rest)

-- a text for each element, in order
abbrev pub Each : {A : Type 0} → (A → List ℕ → Type 0) → List A → List ℕ → Type 0
Each IsOne [] text = text ≡ []
Each IsOne (x ∷ xs) text = Then (IsOne x) (Each IsOne xs) text

-- ---- calls

-- such a text is appended
abbrev pub Appends : (List ℕ → Type 0) → List ℕ → List ℕ → Type 0
Appends Text old new = (text : List ℕ) × Text text × (new ≡ old ++ text)
