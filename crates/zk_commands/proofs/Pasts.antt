-- What follows a first character.
use Rattle.std.proofs.Common.{◌≡◌, ◌≢◌, ℕ, List, ◌∷◌, Option, Some, None, Bor, sym, ap}
use Rattle.std.specs.Prelude.{MatchOption}
use Rattle.std.specs.Option.{option_copied}
use Rattle.zk_listing.specs.Reading.{past}
use Rattle.zk_listing.proofs.FieldLaws.{past_none}

pub past_zero_is : (bs : List ℕ) (r : Option (Bor (List ℕ))) → MatchOption r ((rest : List ℕ) → bs ≢ 48 ∷ rest) (λ x. bs ≡ 48 ∷ x.now) → option_copied r ≡ past 48 bs
past_zero_is bs None h = sym (past_none 48 bs h)
past_zero_is bs (Some x) h = sym (ap (past 48) h)

pub past_x_is : (bs : List ℕ) (r : Option (Bor (List ℕ))) → MatchOption r ((rest : List ℕ) → bs ≢ 120 ∷ rest) (λ x. bs ≡ 120 ∷ x.now) → option_copied r ≡ past 120 bs
past_x_is bs None h = sym (past_none 120 bs h)
past_x_is bs (Some x) h = sym (ap (past 120) h)
