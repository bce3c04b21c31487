use Rattle.std.proofs.Common.{◌≡◌, ℕ, List, ◌++◌, length, Option, Some, None, sym, ap, ◌∙◌}
use Rattle.std.proofs.lemmas.List.{nil_from_length}
use Rattle.std.specs.Option.{MatchOption}
use lib.Utf8.{encode}
use Rattle.zk_listing.specs.Reading.{TakesFirst}
use Rattle.zk_listing.proofs.quoting.next_char.Goals as goal

first_taken : (ended : Type 0) (first : Option ℕ) (bytes whole after rest : List ℕ) → MatchOption first ((length whole ≡ 0) × ended) (λ c. whole ≡ encode c ++ after) → whole ≡ bytes → rest ≡ after → TakesFirst first rest bytes
first_taken ended None bytes whole after rest steps same left = sym same ∙ nil_from_length whole steps.0
first_taken ended (Some c) bytes whole after rest steps same left = sym same ∙ (steps ∙ ap (λ (l : List ℕ). encode c ++ l) (sym left))

pub returns : goal.returns
returns c = first_taken _ c.next-first.result c.args.input.now.now c.chars-chars.result.rest.now c.next-first.new.self.rest.now c.as_str.result.now c.next-first.ensures.steps.0 c.chars-chars.ensures.rest c.as_str.ensures
