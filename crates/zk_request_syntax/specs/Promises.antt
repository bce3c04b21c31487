-- What the readers of whole texts accept: exactly the texts of the form.
use Rattle.std.specs.Prelude.{◌≡◌, ℕ, List, Result, Ok, Err}
use Rattle.zk_listing.specs.declared.list_fault.ListCause.{ListCause}
use Rattle.zk_listing.specs.declared.list_fault.ListCause.TheVariants as causes

-- a text is read as the one thing that it stands for, or rejected if there is none
abbrev pub ReadsAll : {X : Type 0} → (X → List ℕ → Type 0) → List ℕ → Result X ListCause → Type 0
ReadsAll {X} Spells text (Ok x) = Spells x text × ((other : X) → Spells other text → other ≡ x)
ReadsAll Spells text (Err causes.NoMemory) = Unit {0}
ReadsAll {X} Spells text (Err cause) = (x : X) → Spells x text → ⊥
