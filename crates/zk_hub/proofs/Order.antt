-- Each input keeps a connection's order, and leaves the other connections alone.
use Rattle.std.proofs.Common.{◌≡◌, ◌∙◌, ◌==◌, ◌||◌, ℕ, Bool, true, false, List, [], ◌∷◌, ◌++◌, map, find, Option, Some, None, refl, sym, ap, subst, append_assoc, if◌then◌else◌}
use Rattle.std.specs.List.{AllByRecursion, flat_map}
use Rattle.std.proofs.lemmas.Bool.{eqb-true, false≢true}
use Rattle.std.proofs.lemmas.List.{append-nil, map-append}
use Rattle.std.proofs.lemmas.List.Elements.{filter-append}
use Rattle.std.proofs.lemmas.Grind.{flat_map-append}
use Rattle.zk_hub.specs.declared.news.News.{News}
use Rattle.zk_hub.specs.declared.news.News.TheVariants.{Event, Outcome}
use Rattle.zk_hub.specs.declared.news.Output.{Output}
use Rattle.zk_hub.specs.declared.request.Outstanding.{Outstanding}
use Rattle.zk_hub.specs.declared.request.Reply.{Reply}
use Rattle.zk_hub.specs.declared.request.Stage.{Stage}
use Rattle.zk_hub.specs.declared.request.Stage.TheVariants.{Waits, Reads, Done}
use Rattle.zk_hub.specs.Deliveries.{reply_output, replies_at, left_at, outputs_for, left_for, outputs_of, left_after}
use Rattle.zk_hub.specs.Hubs.{is_of, requests_of, waits_for, awaits, with_result, connection_of, replies_for, without_ready, next_read, without_read, without_connection}
use Rattle.zk_hub.specs.Laws.{Input, Pushes, Delivers, TakesReplies, TakesRead, Closes, after_input, after_inputs, outstanding, sent_by, sent, one_or_none, reply_in, taken_by, taken, closes, is_at, has_result, concerns, FirstInFirstOut, OthersStay}

-- a number that is the other's is not a third one
other_number : (n m c : ℕ) → (n == m) ≡ true → (m == c) ≡ false → (n == c) ≡ false
other_number n m c same other = ap (λ k. k == c) (eqb-true n m same) ∙ other

or_left : (a b : Bool) → (a || b) ≡ false → a ≡ false
or_left false b neither = refl
or_left true b neither = neither

or_right : (a b : Bool) → (a || b) ≡ false → b ≡ false
or_right false b neither = neither
or_right true b neither = absurd (false≢true (sym neither))

module _ {E R : Type 0} where
  request_with : ℕ → Stage R → E → Outstanding E R
  request_with number stage expected = record { connection = number; stage = stage; expected = expected }

  -- ---- results

  result_keeps_by : (c tag : ℕ) (outcome : R) (number : ℕ) (expected : E) (requests : List (Outstanding E R))
      → outstanding c (with_result tag outcome requests) ≡ outstanding c requests
      → (stage : Stage R) (awaited : Bool) → awaits tag stage ≡ awaited → (mine : Bool) → (number == c) ≡ mine
      → outstanding c (with_result tag outcome (request_with number stage expected ∷ requests)) ≡ outstanding c (request_with number stage expected ∷ requests)
  unfolding request_with
  result_keeps_by c tag outcome number expected requests known stage true awaited true is = rw (awaited, is) refl
  result_keeps_by c tag outcome number expected requests known stage true awaited false is = rw (awaited, is) refl
  result_keeps_by c tag outcome number expected requests known stage false awaited true is = rw (awaited, is) (ap (λ rest. expected ∷ rest) known)
  result_keeps_by c tag outcome number expected requests known stage false awaited false is = rw (awaited, is) known

  result_keeps : (c tag : ℕ) (outcome : R) (requests : List (Outstanding E R)) → outstanding c (with_result tag outcome requests) ≡ outstanding c requests
  unfolding request_with
  result_keeps c tag outcome [] = refl
  result_keeps c tag outcome (request ∷ requests) =
      result_keeps_by c tag outcome request.connection request.expected requests (result_keeps c tag outcome requests) request.stage (awaits tag request.stage) refl (request.connection == c) refl

  result_elsewhere_by : (c tag : ℕ) (outcome : R) (number : ℕ) (expected : E) (requests : List (Outstanding E R))
      → (is_at c (connection_of (find (waits_for tag) requests)) ≡ false → requests_of c (with_result tag outcome requests) ≡ requests_of c requests)
      → (stage : Stage R) (awaited : Bool) → awaits tag stage ≡ awaited
      → is_at c (connection_of (find (waits_for tag) (request_with number stage expected ∷ requests))) ≡ false
      → requests_of c (with_result tag outcome (request_with number stage expected ∷ requests)) ≡ requests_of c (request_with number stage expected ∷ requests)
  unfolding request_with
  result_elsewhere_by c tag outcome number expected requests known stage true awaited other =
      let not_mine : (number == c) ≡ false = subst (λ it. is_at c (connection_of (if it then Some (request_with number stage expected) else find (waits_for tag) requests)) ≡ false) awaited other in
      rw (awaited, not_mine) refl
  result_elsewhere_by c tag outcome number expected requests known stage false awaited other =
      let later : is_at c (connection_of (find (waits_for tag) requests)) ≡ false = subst (λ it. is_at c (connection_of (if it then Some (request_with number stage expected) else find (waits_for tag) requests)) ≡ false) awaited other in
      rw awaited (ap (λ rest. if number == c then request_with number stage expected ∷ rest else rest) (known later))

  result_elsewhere : (c tag : ℕ) (outcome : R) (requests : List (Outstanding E R)) → is_at c (connection_of (find (waits_for tag) requests)) ≡ false → requests_of c (with_result tag outcome requests) ≡ requests_of c requests
  unfolding request_with
  result_elsewhere c tag outcome [] other = refl
  result_elsewhere c tag outcome (request ∷ requests) other =
      result_elsewhere_by c tag outcome request.connection request.expected requests (result_elsewhere c tag outcome requests) request.stage (awaits tag request.stage) refl other

  -- ---- replies

  replies_keep_by : (c number : ℕ) (expected : E) (requests : List (Outstanding E R))
      → map (λ reply. reply.expected) (replies_for c requests) ++ outstanding c (without_ready c requests) ≡ outstanding c requests
      → (mine : Bool) → (number == c) ≡ mine → (stage : Stage R)
      → map (λ reply. reply.expected) (replies_for c (request_with number stage expected ∷ requests)) ++ outstanding c (without_ready c (request_with number stage expected ∷ requests)) ≡ outstanding c (request_with number stage expected ∷ requests)
  unfolding request_with
  replies_keep_by c number expected requests known false is stage = rw is (rw is known)
  replies_keep_by c number expected requests known true is (Done outcome) = rw is (ap (λ rest. expected ∷ rest) known)
  replies_keep_by c number expected requests known true is (Waits tag) = rw is (rw is refl)
  replies_keep_by c number expected requests known true is Reads = rw is (rw is refl)

  replies_keep : (c : ℕ) (requests : List (Outstanding E R)) → map (λ reply. reply.expected) (replies_for c requests) ++ outstanding c (without_ready c requests) ≡ outstanding c requests
  unfolding request_with
  replies_keep c [] = refl
  replies_keep c (request ∷ requests) = replies_keep_by c request.connection request.expected requests (replies_keep c requests) (request.connection == c) refl request.stage

  replies_elsewhere_by : (c m number : ℕ) (expected : E) (requests : List (Outstanding E R)) → (m == c) ≡ false
      → requests_of c (without_ready m requests) ≡ requests_of c requests
      → (there : Bool) → (number == m) ≡ there → (mine : Bool) → (number == c) ≡ mine → (stage : Stage R)
      → requests_of c (without_ready m (request_with number stage expected ∷ requests)) ≡ requests_of c (request_with number stage expected ∷ requests)
  unfolding request_with
  replies_elsewhere_by c m number expected requests other known true there mine is (Done outcome) = rw (there, other_number number m c there other) known
  replies_elsewhere_by c m number expected requests other known true there mine is (Waits tag) = rw there refl
  replies_elsewhere_by c m number expected requests other known true there mine is Reads = rw there refl
  replies_elsewhere_by c m number expected requests other known false there true is stage = rw (there, is) (ap (λ rest. request_with number stage expected ∷ rest) known)
  replies_elsewhere_by c m number expected requests other known false there false is stage = rw (there, is) known

  replies_elsewhere : (c m : ℕ) (requests : List (Outstanding E R)) → (m == c) ≡ false → requests_of c (without_ready m requests) ≡ requests_of c requests
  unfolding request_with
  replies_elsewhere c m [] other = refl
  replies_elsewhere c m (request ∷ requests) other =
      replies_elsewhere_by c m request.connection request.expected requests other (replies_elsewhere c m requests other) (request.connection == m) refl (request.connection == c) refl request.stage

  -- ---- reads

  read_keeps_by : (c number : ℕ) (expected : E) (requests : List (Outstanding E R))
      → one_or_none (next_read c requests) ++ outstanding c (without_read c requests) ≡ outstanding c requests
      → (mine : Bool) → (number == c) ≡ mine → (stage : Stage R)
      → one_or_none (next_read c (request_with number stage expected ∷ requests)) ++ outstanding c (without_read c (request_with number stage expected ∷ requests)) ≡ outstanding c (request_with number stage expected ∷ requests)
  unfolding request_with
  read_keeps_by c number expected requests known false is stage = rw is (rw is known)
  read_keeps_by c number expected requests known true is (Done outcome) = rw is (rw is refl)
  read_keeps_by c number expected requests known true is (Waits tag) = rw is (rw is refl)
  read_keeps_by c number expected requests known true is Reads = rw is refl

  read_keeps : (c : ℕ) (requests : List (Outstanding E R)) → one_or_none (next_read c requests) ++ outstanding c (without_read c requests) ≡ outstanding c requests
  unfolding request_with
  read_keeps c [] = refl
  read_keeps c (request ∷ requests) = read_keeps_by c request.connection request.expected requests (read_keeps c requests) (request.connection == c) refl request.stage

  read_elsewhere_by : (c m number : ℕ) (expected : E) (requests : List (Outstanding E R)) → (m == c) ≡ false
      → requests_of c (without_read m requests) ≡ requests_of c requests
      → (there : Bool) → (number == m) ≡ there → (mine : Bool) → (number == c) ≡ mine → (stage : Stage R)
      → requests_of c (without_read m (request_with number stage expected ∷ requests)) ≡ requests_of c (request_with number stage expected ∷ requests)
  unfolding request_with
  read_elsewhere_by c m number expected requests other known true there mine is (Done outcome) = rw there refl
  read_elsewhere_by c m number expected requests other known true there mine is (Waits tag) = rw there refl
  read_elsewhere_by c m number expected requests other known true there mine is Reads = rw (there, other_number number m c there other) refl
  read_elsewhere_by c m number expected requests other known false there true is stage = rw (there, is) (ap (λ rest. request_with number stage expected ∷ rest) known)
  read_elsewhere_by c m number expected requests other known false there false is stage = rw (there, is) known

  read_elsewhere : (c m : ℕ) (requests : List (Outstanding E R)) → (m == c) ≡ false → requests_of c (without_read m requests) ≡ requests_of c requests
  unfolding request_with
  read_elsewhere c m [] other = refl
  read_elsewhere c m (request ∷ requests) other =
      read_elsewhere_by c m request.connection request.expected requests other (read_elsewhere c m requests other) (request.connection == m) refl (request.connection == c) refl request.stage

  -- ---- the end of a connection

  end_elsewhere_by : (c m : ℕ) (request : Outstanding E R) (requests : List (Outstanding E R)) → (m == c) ≡ false
      → requests_of c (without_connection m requests) ≡ requests_of c requests
      → (there : Bool) → (request.connection == m) ≡ there → (mine : Bool) → (request.connection == c) ≡ mine
      → requests_of c (without_connection m (request ∷ requests)) ≡ requests_of c (request ∷ requests)
  end_elsewhere_by c m request requests other known true there mine is = rw (there, other_number request.connection m c there other) known
  end_elsewhere_by c m request requests other known false there true is = rw (there, is) (ap (λ rest. request ∷ rest) known)
  end_elsewhere_by c m request requests other known false there false is = rw (there, is) known

  end_elsewhere : (c m : ℕ) (requests : List (Outstanding E R)) → (m == c) ≡ false → requests_of c (without_connection m requests) ≡ requests_of c requests
  end_elsewhere c m [] other = refl
  end_elsewhere c m (request ∷ requests) other =
      end_elsewhere_by c m request requests other (end_elsewhere c m requests other) (request.connection == m) refl (request.connection == c) refl

  -- ---- a request

  push_elsewhere : (c : ℕ) (request : Outstanding E R) (requests : List (Outstanding E R)) → (request.connection == c) ≡ false → requests_of c (requests ++ request ∷ []) ≡ requests_of c requests
  push_elsewhere c request requests other =
      filter-append (is_of c) requests (request ∷ []) ∙ rw other (append-nil (requests_of c requests))

  push_keeps_by : (c : ℕ) (request : Outstanding E R) (requests : List (Outstanding E R)) → (mine : Bool) → (request.connection == c) ≡ mine
      → outstanding c (requests ++ request ∷ []) ≡ outstanding c requests ++ (if request.connection == c then request.expected ∷ [] else [])
  push_keeps_by c request requests true is =
      ap (map (λ it. it.expected)) (filter-append (is_of c) requests (request ∷ [])) ∙ rw is (map-append (λ it. it.expected) (requests_of c requests) (request ∷ []))
  push_keeps_by c request requests false is =
      ap (map (λ it. it.expected)) (push_elsewhere c request requests is) ∙ rw is (sym (append-nil (outstanding c requests)))

module _ {E R : Type 0} where
  -- ---- a result

  replied_here : (V : Type 0) (c m : ℕ) (replies : List (Reply E R)) → (m == c) ≡ true → flat_map (reply_in {V = V} c) (map (reply_output m) replies) ≡ map (λ reply. reply.expected) replies
  replied_here V c m [] is = refl
  replied_here V c m (reply ∷ replies) is = rw is (ap (λ rest. reply.expected ∷ rest) (replied_here V c m replies is))

  replied_elsewhere : (V : Type 0) (c m : ℕ) (replies : List (Reply E R)) → (m == c) ≡ false → flat_map (reply_in {V = V} c) (map (reply_output m) replies) ≡ []
  replied_elsewhere V c m [] other = refl
  replied_elsewhere V c m (reply ∷ replies) other = rw other (replied_elsewhere V c m replies other)

  some_keeps : (V : Type 0) (c m : ℕ) (requests : List (Outstanding E R)) (mine : Bool) → (m == c) ≡ mine
      → flat_map (reply_in {V = V} c) (replies_at (Some m) requests) ++ outstanding c (left_at (Some m) requests) ≡ outstanding c requests
  some_keeps V c m requests true is =
      ap (λ front. front ++ outstanding c (without_ready m requests)) (replied_here V c m (replies_for m requests) is)
      ∙ ap (λ n. map (λ reply. reply.expected) (replies_for n requests) ++ outstanding c (without_ready n requests)) (eqb-true m c is)
      ∙ replies_keep c requests
  some_keeps V c m requests false is =
      ap (λ front. front ++ outstanding c (without_ready m requests)) (replied_elsewhere V c m (replies_for m requests) is)
      ∙ ap (map (λ it. it.expected)) (replies_elsewhere c m requests is)

  at_keeps : (V : Type 0) (c : ℕ) (at : Option ℕ) (requests : List (Outstanding E R)) → flat_map (reply_in {V = V} c) (replies_at at requests) ++ outstanding c (left_at at requests) ≡ outstanding c requests
  at_keeps V c None requests = refl
  at_keeps V c (Some m) requests = some_keeps V c m requests (m == c) refl

  outcome_keeps : (V : Type 0) (c tag : ℕ) (outcome : R) (requests : List (Outstanding E R)) → flat_map (reply_in {V = V} c) (outputs_for tag outcome requests) ++ outstanding c (left_for tag outcome requests) ≡ outstanding c requests
  outcome_keeps V c tag outcome requests =
      at_keeps V c (connection_of (find (waits_for tag) requests)) (with_result tag outcome requests) ∙ result_keeps c tag outcome requests

  at_elsewhere : (V : Type 0) (c : ℕ) (at : Option ℕ) (requests : List (Outstanding E R)) → is_at c at ≡ false
      → (requests_of c (left_at at requests) ≡ requests_of c requests) × (flat_map (reply_in {V = V} c) (replies_at at requests) ≡ [])
  at_elsewhere V c None requests other = (refl, refl)
  at_elsewhere V c (Some m) requests other = (replies_elsewhere c m requests other, replied_elsewhere V c m (replies_for m requests) other)

  outcome_elsewhere : (V : Type 0) (c tag : ℕ) (outcome : R) (requests : List (Outstanding E R)) → is_at c (connection_of (find (waits_for tag) requests)) ≡ false
      → (requests_of c (left_for tag outcome requests) ≡ requests_of c requests) × (flat_map (reply_in {V = V} c) (outputs_for tag outcome requests) ≡ [])
  outcome_elsewhere V c tag outcome requests other =
      let both = at_elsewhere V c (connection_of (find (waits_for tag) requests)) (with_result tag outcome requests) other in
      (both.0 ∙ result_elsewhere c tag outcome requests other, both.1)

module _ {V E R : Type 0} where
  -- ---- news

  news_keep : (c : ℕ) (news : List (News V R)) (requests : List (Outstanding E R)) → flat_map (reply_in c) (outputs_of news requests) ++ outstanding c (left_after news requests) ≡ outstanding c requests
  news_keep c [] requests = refl
  news_keep c (Event n event ∷ news) requests = news_keep c news requests
  news_keep c (Outcome tag outcome ∷ news) requests =
      let left = left_for tag outcome requests in
      let now : List (Output V E R) = outputs_for tag outcome requests in
      let later : List (Output V E R) = outputs_of news left in
      ap (λ it. it ++ outstanding c (left_after news left)) (flat_map-append (reply_in c) now later)
      ∙ append_assoc (flat_map (reply_in c) now) (flat_map (reply_in c) later) (outstanding c (left_after news left))
      ∙ ap (λ rest. flat_map (reply_in c) now ++ rest) (news_keep c news left)
      ∙ outcome_keeps V c tag outcome requests

  news_elsewhere : (c : ℕ) (news : List (News V R)) (requests : List (Outstanding E R)) → has_result c news requests ≡ false
      → (requests_of c (left_after news requests) ≡ requests_of c requests) × (flat_map (reply_in c) (outputs_of news requests) ≡ [])
  news_elsewhere c [] requests other = (refl, refl)
  news_elsewhere c (Event n event ∷ news) requests other = news_elsewhere c news requests other
  news_elsewhere c (Outcome tag outcome ∷ news) requests other =
      let left = left_for tag outcome requests in
      let now : List (Output V E R) = outputs_for tag outcome requests in
      let later : List (Output V E R) = outputs_of news left in
      let here = is_at c (connection_of (find (waits_for tag) requests)) in
      let first = outcome_elsewhere V c tag outcome requests (or_left here (has_result c news left) other) in
      let rest = news_elsewhere c news left (or_right here (has_result c news left) other) in
      (rest.0 ∙ first.0, flat_map-append (reply_in c) now later ∙ ap (λ it. it ++ flat_map (reply_in c) later) first.1 ∙ rest.1)

  -- ---- one input

  pub others_stay : (c : ℕ) (input : Input V E R) (requests : List (Outstanding E R)) → concerns c input requests ≡ false
      → (requests_of c (after_input input requests) ≡ requests_of c requests) × (taken_by c input requests ≡ [])
  others_stay c (Pushes request) requests other = (push_elsewhere c request requests other, refl)
  others_stay c (Delivers news) requests other = news_elsewhere c news requests other
  others_stay c (TakesReplies m) requests other = (replies_elsewhere c m requests other, rw other refl)
  others_stay c (TakesRead m) requests other = (read_elsewhere c m requests other, rw other refl)
  others_stay c (Closes m) requests other = (end_elsewhere c m requests other, refl)

  keeps : ℕ → Input V E R → List (Outstanding E R) → Type 0
  keeps c input requests = taken_by c input requests ++ outstanding c (after_input input requests) ≡ outstanding c requests ++ sent_by c input

  -- an input for other connections
  elsewhere : (c : ℕ) (input : Input V E R) (requests : List (Outstanding E R)) → concerns c input requests ≡ false → sent_by c input ≡ [] → keeps c input requests
  unfolding keeps
  elsewhere c input requests other silent =
      let both = others_stay c input requests other in
      ap (λ front. front ++ outstanding c (after_input input requests)) both.1
      ∙ ap (map (λ it. it.expected)) both.0
      ∙ sym (append-nil (outstanding c requests))
      ∙ ap (λ end. outstanding c requests ++ end) (sym silent)

module _ {E R : Type 0} where
  replies_kept : (V : Type 0) (c m : ℕ) (requests : List (Outstanding E R)) (mine : Bool) → (m == c) ≡ mine → keeps {V = V} c (TakesReplies m) requests
  unfolding keeps
  replies_kept V c m requests true is =
      rw is (ap (λ n. map (λ reply. reply.expected) (replies_for n requests) ++ outstanding c (without_ready n requests)) (eqb-true m c is) ∙ replies_keep c requests ∙ sym (append-nil (outstanding c requests)))
  replies_kept V c m requests false is = elsewhere {V = V} c (TakesReplies m) requests is refl

  read_kept : (V : Type 0) (c m : ℕ) (requests : List (Outstanding E R)) (mine : Bool) → (m == c) ≡ mine → keeps {V = V} c (TakesRead m) requests
  unfolding keeps
  read_kept V c m requests true is =
      rw is (ap (λ n. one_or_none (next_read n requests) ++ outstanding c (without_read n requests)) (eqb-true m c is) ∙ read_keeps c requests ∙ sym (append-nil (outstanding c requests)))
  read_kept V c m requests false is = elsewhere {V = V} c (TakesRead m) requests is refl

module _ {V E R : Type 0} where
  input_keeps : (c : ℕ) (input : Input V E R) (requests : List (Outstanding E R)) → closes c input ≡ false → keeps c input requests
  unfolding keeps
  input_keeps c (Pushes request) requests stays = push_keeps_by c request requests (request.connection == c) refl
  input_keeps c (Delivers news) requests stays = news_keep c news requests ∙ sym (append-nil (outstanding c requests))
  input_keeps c (TakesReplies m) requests stays = replies_kept V c m requests (m == c) refl
  input_keeps c (TakesRead m) requests stays = read_kept V c m requests (m == c) refl
  input_keeps c (Closes m) requests stays = elsewhere {V = V} c (Closes m) requests stays refl

  -- ---- every list of inputs

  inputs_keep : (c : ℕ) (inputs : List (Input V E R)) (requests : List (Outstanding E R)) → AllByRecursion (λ input. closes c input ≡ false) inputs
      → taken c inputs requests ++ outstanding c (after_inputs inputs requests) ≡ outstanding c requests ++ sent c inputs
  unfolding keeps
  inputs_keep c [] requests stays = sym (append-nil (outstanding c requests))
  inputs_keep c (input ∷ inputs) requests stays =
      append_assoc (taken_by c input requests) (taken c inputs (after_input input requests)) (outstanding c (after_inputs inputs (after_input input requests)))
      ∙ ap (λ rest. taken_by c input requests ++ rest) (inputs_keep c inputs (after_input input requests) stays.1)
      ∙ sym (append_assoc (taken_by c input requests) (outstanding c (after_input input requests)) (sent c inputs))
      ∙ ap (λ front. front ++ sent c inputs) (input_keeps c input requests stays.0)
      ∙ append_assoc (outstanding c requests) (sent_by c input) (sent c inputs)

pub first_in_first_out : {V E R : Type 0} → FirstInFirstOut V E R
first_in_first_out connection inputs stays = inputs_keep connection inputs [] stays

pub others_are_left : {V E R : Type 0} → OthersStay V E R
others_are_left connection input requests other = others_stay connection input requests other
