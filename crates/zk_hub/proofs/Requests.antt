-- Sorting gives the replies and the rest.
use Rattle.std.proofs.Common.{◌≡◌, ◌∙◌, ◌==◌, ℕ, ◌+◌, ◌<◌, Bool, true, false, List, [], ◌∷◌, ◌++◌, length, take, drop, slice_set, refl, sym, ap}
use Rattle.std.proofs.lemmas.List.{take-append-drop, take-set, drop-set}
use Rattle.zk_hub.specs.declared.request.Outstanding.{Outstanding}
use Rattle.zk_hub.specs.declared.request.Stage.{Stage}
use Rattle.zk_hub.specs.declared.request.Stage.TheVariants.{Waits, Reads, Done}
use Rattle.zk_hub.specs.Hubs.{replies_for, without_ready}
use Rattle.zk_hub.specs.Sorting.{replies_from, kept_from}

pub set_is : {X : Type 0} → (xs : List X) (i : ℕ) (y : X) → i < length xs → slice_set xs i y ≡ take i xs ++ y ∷ drop (i + 1) xs
set_is xs i y h = sym (take-append-drop i (slice_set xs i y)) ∙ ap (λ front. front ++ drop i (slice_set xs i y)) (take-set xs i y) ∙ ap (λ back. take i xs ++ back) (drop-set xs i y h)

no_replies : {E R : Type 0} → (connection : ℕ) (requests : List (Outstanding E R)) → replies_from false connection requests ≡ []
no_replies connection [] = refl
no_replies connection (request ∷ requests) = no_replies connection requests

all_stay : {E R : Type 0} → (connection : ℕ) (requests : List (Outstanding E R)) → kept_from false connection requests ≡ requests
all_stay connection [] = refl
all_stay connection (request ∷ requests) = ap (λ rest. request ∷ rest) (all_stay connection requests)

request_with : {E R : Type 0} → ℕ → Stage R → E → Outstanding E R
request_with connection stage expected = record { connection = connection; stage = stage; expected = expected }

module _ {E R : Type 0} (connection number : ℕ) (expected : E) (requests : List (Outstanding E R)) where
  replies_by : replies_from true connection requests ≡ replies_for connection requests
      → (mine : Bool) → (number == connection) ≡ mine → (stage : Stage R)
      → replies_from true connection (request_with number stage expected ∷ requests) ≡ replies_for connection (request_with number stage expected ∷ requests)
  unfolding request_with
  replies_by known false other stage = rw other known
  replies_by known true mine (Done result) = rw mine (ap (λ replies. record { expected = expected; result = result } ∷ replies) known)
  replies_by known true mine (Waits tag) = rw mine (no_replies connection requests)
  replies_by known true mine Reads = rw mine (no_replies connection requests)

  kept_by : kept_from true connection requests ≡ without_ready connection requests
      → (mine : Bool) → (number == connection) ≡ mine → (stage : Stage R)
      → kept_from true connection (request_with number stage expected ∷ requests) ≡ without_ready connection (request_with number stage expected ∷ requests)
  unfolding request_with
  kept_by known false other stage = rw other (ap (λ rest. request_with number stage expected ∷ rest) known)
  kept_by known true mine (Done result) = rw mine known
  kept_by known true mine (Waits tag) = rw mine (ap (λ rest. request_with number (Waits tag) expected ∷ rest) (all_stay connection requests))
  kept_by known true mine Reads = rw mine (ap (λ rest. request_with number Reads expected ∷ rest) (all_stay connection requests))

pub all_replies : {E R : Type 0} → (connection : ℕ) (requests : List (Outstanding E R)) → replies_from true connection requests ≡ replies_for connection requests
unfolding request_with
all_replies connection [] = refl
all_replies connection (request ∷ requests) = replies_by connection request.connection request.expected requests (all_replies connection requests) (request.connection == connection) refl request.stage

pub all_kept : {E R : Type 0} → (connection : ℕ) (requests : List (Outstanding E R)) → kept_from true connection requests ≡ without_ready connection requests
unfolding request_with
all_kept connection [] = refl
all_kept connection (request ∷ requests) = kept_by connection request.connection request.expected requests (all_kept connection requests) (request.connection == connection) refl request.stage
