-- Texts of lines, and words at their beginning.
use Rattle.std.proofs.Common.{◌≡◌, ◌≢◌, ℕ, Bool, true, false, if◌then◌else◌, List, ◌∷◌, Option, Some, None, option_map, Bor, refl, sym, ◌∙◌}
use Rattle.std.specs.Option.{MatchOption}
use Rattle.std.proofs.lemmas.Str.{IsUtf8-from_is_utf8}
use Rattle.std.specs.Str.{bytes_eq, is_utf8, IsUtf8}
use Rattle.zk_listing.specs.Reading.{front_of, back_of, past}
use Rattle.zk_listing.proofs.Exact.{past_self}
use Rattle.zk_listing.proofs.FieldLaws.{past_none}
use Rattle.zk_line_protocol.specs.ParsedLines.{behind_word}

module _ (bytes : List ℕ) (none : IsUtf8 bytes → ⊥) where
  by_test : (b : Bool) → is_utf8 bytes ≡ b → None ≡ (if b then Some bytes else None)
  by_test true e = absurd (none (IsUtf8-from_is_utf8 bytes e))
  by_test false e = refl

  pub no_text : None ≡ (if is_utf8 bytes then Some bytes else None)
  no_text = by_test (is_utf8 bytes) refl

module _ (word line : List ℕ) where
  pub behind_is : (rest : List ℕ) → bytes_eq (front_of line) word ≡ true → back_of line ≡ 32 ∷ rest → Some rest ≡ behind_word word line
  unfolding behind_word
  behind_is rest same e = rw (same, e, past_self 32 rest) refl

  none_by : (b : Bool) → past 32 (back_of line) ≡ None → None ≡ (if b then past 32 (back_of line) else None)
  none_by true e = sym e
  none_by false e = refl

  pub behind_none : ((rest : List ℕ) → back_of line ≢ 32 ∷ rest) → None ≡ behind_word word line
  unfolding behind_word
  behind_none no_space = none_by (bytes_eq (front_of line) word) (past_none 32 (back_of line) no_space)

  pub behind_so : (rest : List ℕ) (r : Option (Bor (List ℕ))) → bytes_eq (front_of line) word ≡ true → rest ≡ back_of line → MatchOption r ((more : List ℕ) → rest ≢ 32 ∷ more) (λ x. rest ≡ 32 ∷ x.now) → option_map (λ text. text.now) r ≡ behind_word word line
  behind_so rest None same is m = behind_none (λ more e. m more (is ∙ e))
  behind_so rest (Some x) same is m = behind_is x.now same (sym is ∙ m)

  pub behind_other : bytes_eq (front_of line) word ≡ false → None ≡ behind_word word line
  unfolding behind_word
  behind_other other = rw other refl
