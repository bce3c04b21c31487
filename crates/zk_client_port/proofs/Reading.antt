-- Replies and reads leave fewer requests.
use Rattle.std.proofs.Common.{◌≡◌, ◌==◌, ℕ, ◌+◌, ◌≤◌, suc, Bool, true, false, List, [], ◌∷◌, ◌++◌, length, find, Some, None, if◌then◌else◌, refl, sym, ap, subst, arith}
use Rattle.zk_client_port.specs.Execution.{Served}
use Rattle.zk_client_port.specs.Flushing.{after_replies, MakesReads, ReadsNext}
use Rattle.zk_client_port.specs.declared.admission.Admission.{Admission}
use Rattle.zk_client_port.specs.declared.expected.Expected.{Expected}
use Rattle.zk_hub.specs.Hubs.{is_of, next_read, read_in, without_read, without_ready}
use Rattle.zk_hub.specs.declared.request.Outstanding.{Outstanding}
use Rattle.zk_hub.specs.declared.request.Stage.{Stage}
use Rattle.zk_hub.specs.declared.request.Stage.TheVariants.{Waits, Reads, Done}

request_with : {E R : Type 0} → ℕ → Stage R → E → Outstanding E R
request_with number stage expected = record { connection = number; stage = stage; expected = expected }

some≢none : {X : Type 0} (x : X) → None ≡ Some x → ⊥
some≢none x e = grind (arith, e)

module _ {E R : Type 0} (c number : ℕ) (expected : E) (requests : List (Outstanding E R)) where
  ready_by : length (without_ready c requests) ≤ length requests → (mine : Bool) → (number == c) ≡ mine → (stage : Stage R)
      → length (without_ready c (request_with number stage expected ∷ requests)) ≤ suc (length requests)
  unfolding request_with
  ready_by known false is stage = rw is (omega (arith, known))
  ready_by known true is (Done result) = rw is (omega (arith, known))
  ready_by known true is (Waits tag) = rw is (omega arith)
  ready_by known true is Reads = rw is (omega arith)

  none_by : (next_read c requests ≡ None → without_read c requests ≡ requests) → (mine : Bool) → (number == c) ≡ mine → (stage : Stage R)
      → next_read c (request_with number stage expected ∷ requests) ≡ None
      → without_read c (request_with number stage expected ∷ requests) ≡ request_with number stage expected ∷ requests
  unfolding request_with
  none_by known false is stage none =
      let later : next_read c requests ≡ None = subst (λ it. read_in (if it then Some (request_with number stage expected) else find (is_of c) requests) ≡ None) is none in
      rw is (ap (λ rest. request_with number stage expected ∷ rest) (known later))
  none_by known true is (Done result) none = rw is refl
  none_by known true is (Waits tag) none = rw is refl
  none_by known true is Reads none =
      absurd (some≢none expected (sym (subst (λ it. read_in (if it then Some (request_with number Reads expected) else find (is_of c) requests) ≡ None) is none)))

  fewer_by : (read : E) → (next_read c requests ≡ Some read → length (without_read c requests) + 1 ≤ length requests)
      → (mine : Bool) → (number == c) ≡ mine → (stage : Stage R)
      → next_read c (request_with number stage expected ∷ requests) ≡ Some read
      → length (without_read c (request_with number stage expected ∷ requests)) + 1 ≤ suc (length requests)
  unfolding request_with
  fewer_by read known false is stage next =
      let later : next_read c requests ≡ Some read = subst (λ it. read_in (if it then Some (request_with number stage expected) else find (is_of c) requests) ≡ Some read) is next in
      let rest : length (without_read c requests) + 1 ≤ length requests = known later in
      rw is (omega (arith, rest))
  fewer_by read known true is (Done result) next =
      absurd (some≢none read (subst (λ it. read_in (if it then Some (request_with number (Done result) expected) else find (is_of c) requests) ≡ Some read) is next))
  fewer_by read known true is (Waits tag) next =
      absurd (some≢none read (subst (λ it. read_in (if it then Some (request_with number (Waits tag) expected) else find (is_of c) requests) ≡ Some read) is next))
  fewer_by read known true is Reads next = rw is (omega arith)

pub fewer_ready : {E R : Type 0} (c : ℕ) (requests : List (Outstanding E R)) → length (without_ready c requests) ≤ length requests
unfolding request_with
fewer_ready c [] = omega arith
fewer_ready c (request ∷ requests) = ready_by c request.connection request.expected requests (fewer_ready c requests) (request.connection == c) refl request.stage

pub none_taken : {E R : Type 0} (c : ℕ) (requests : List (Outstanding E R)) → next_read c requests ≡ None → without_read c requests ≡ requests
unfolding request_with
none_taken c [] none = refl
none_taken c (request ∷ requests) none = none_by c request.connection request.expected requests (none_taken c requests) (request.connection == c) refl request.stage none

pub fewer_read : {E R : Type 0} (c : ℕ) (requests : List (Outstanding E R)) (read : E) → next_read c requests ≡ Some read → length (without_read c requests) + 1 ≤ length requests
unfolding request_with
fewer_read c [] read next = absurd (some≢none read next)
fewer_read c (request ∷ requests) read next = fewer_by c request.connection request.expected requests read (fewer_read c requests read) (request.connection == c) refl request.stage next

-- ---- reads, one after another

pub record ReadSoFar {S : Type 0} (admission : Admission) (server number : ℕ) (old now : Served S) : Type 0 where
  pub reads : List Expected
  pub makes : MakesReads admission server number reads old now

makes_more : {S : Type 0} (admission : Admission) (server number : ℕ) (reads : List Expected) (expected : Expected) (old between new : Served S)
    → MakesReads admission server number reads old between → ReadsNext server number expected (after_replies admission number between) new
    → MakesReads admission server number (reads ++ expected ∷ []) old new
makes_more admission server number [] expected old between new makes next =
    (new, subst (λ (it : Served _). ReadsNext server number expected (after_replies admission number it) new) makes next, refl)
makes_more admission server number (read ∷ reads) expected old between new makes next =
    (makes.0, makes.1, makes_more admission server number reads expected makes.0 between new makes.2 next)

pub reads_more : {S : Type 0} (admission : Admission) (server number : ℕ) (expected : Expected) (old between new : Served S)
    → ReadSoFar admission server number old between → ReadsNext server number expected (after_replies admission number between) new
    → ReadSoFar admission server number old new
reads_more admission server number expected old between new so_far next = record {
  reads = so_far.reads ++ expected ∷ [];
  makes = makes_more admission server number so_far.reads expected old between new so_far.makes next;
}

pub none_read : {S : Type 0} (admission : Admission) (server number : ℕ) (old : Served S) → ReadSoFar admission server number old old
none_read admission server number old = record { reads = []; makes = refl }
