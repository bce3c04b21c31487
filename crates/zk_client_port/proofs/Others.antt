-- The requests of the other connections stay while one connection's replies and reads are taken.
use Rattle.std.proofs.Common.{◌≡◌, ◌∙◌, ℕ, Bool, true, false, not, List, [], ◌∷◌, if◌then◌else◌, refl, ap}
use Rattle.zk_hub.specs.Hubs.{is_done, is_of, is_read, without_connection, without_read, without_ready}
use Rattle.zk_hub.specs.declared.request.Outstanding.{Outstanding}

module _ {E R : Type 0} (number : ℕ) where
  -- the requests after one, which is the connection's or another's
  abbrev rest_with : Bool → Outstanding E R → List (Outstanding E R) → List (Outstanding E R)
  rest_with own one its = if not own then one ∷ its else its

  own_ready : (own done : Bool) (one : Outstanding E R) (its rest : List (Outstanding E R)) → is_of number one ≡ own → without_connection number rest ≡ without_connection number its
      → without_connection number (if own then (if done then rest else one ∷ its) else one ∷ rest) ≡ rest_with own one (without_connection number its)
  own_ready true true one its rest is same = same
  own_ready true false one its rest is same = ap (λ (b : Bool). rest_with b one (without_connection number its)) is
  own_ready false done one its rest is same = ap (λ (b : Bool). rest_with b one (without_connection number rest)) is ∙ ap (λ (l : List (Outstanding E R)). one ∷ l) same

  pub others_ready : (its : List (Outstanding E R)) → without_connection number (without_ready number its) ≡ without_connection number its
  others_ready [] = refl
  others_ready (one ∷ its) =
      own_ready (is_of number one) (is_done one.stage) one its (without_ready number its) refl (others_ready its)

  own_read : (own reads : Bool) (one : Outstanding E R) (its rest : List (Outstanding E R)) → is_of number one ≡ own → without_connection number rest ≡ without_connection number its
      → without_connection number (if own then (if reads then its else one ∷ its) else one ∷ rest) ≡ rest_with own one (without_connection number its)
  own_read true true one its rest is same = refl
  own_read true false one its rest is same = ap (λ (b : Bool). rest_with b one (without_connection number its)) is
  own_read false reads one its rest is same = ap (λ (b : Bool). rest_with b one (without_connection number rest)) is ∙ ap (λ (l : List (Outstanding E R)). one ∷ l) same

  pub others_read : (its : List (Outstanding E R)) → without_connection number (without_read number its) ≡ without_connection number its
  others_read [] = refl
  others_read (one ∷ its) =
      own_read (is_of number one) (is_read one.stage) one its (without_read number its) refl (others_read its)
