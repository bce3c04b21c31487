-- One more thread.
use Rattle.std.proofs.Common.{◌≡◌, ◌⊎◌, inl, inr, ℕ, ◌+◌, ◌<◌, ◌≤◌, List, [], ◌∷◌, ◌++◌, length, refl, sym, ap, subst, ◌∙◌, arith}
use lib.ListN.{get_or}
use Rattle.std.proofs.lemmas.List.{length-append, append_assoc, append-nil, get_or_append_left, get_or_push}
use Rattle.std.proofs.Math.Nat.{eq-or-lt_of_le}
use Rattle.zk_servers.specs.declared.serving.Worker.{Worker}
use Rattle.zk_servers.specs.declared.serving.Worked.{Worked}
use Rattle.zk_servers.specs.declared.running.Turns.{Turns}
use Rattle.std.specs.declared.thread.PromisedHandle.{PromisedHandle}
use Rattle.zk_servers.specs.Running.{ArePromised}

module _ {L : Type 0} where
  abbrev pub IsOf : ℕ → Worker L → PromisedHandle (Worked L) (Turns L) → Type 0
  IsOf turns worker child = (child.promise.worker.value ≡ worker) × (child.promise.turns ≡ turns)

  at_by : (done : List (Worker L)) (turns : ℕ) (children : List (PromisedHandle (Worked L) (Turns L))) (worker : Worker L) (child : PromisedHandle (Worked L) (Turns L)) → ArePromised done turns children → IsOf turns worker child
      → (at : ℕ) (w : Worker L) (c : PromisedHandle (Worked L) (Turns L)) → (at ≡ length done) ⊎ (at < length done) → IsOf turns (get_or (done ++ worker ∷ []) at w) (get_or (children ++ child ∷ []) at c)
  at_by done turns children worker child are is at w c (inl last) =
      subst (λ b. IsOf turns b (get_or (children ++ child ∷ []) at c)) (sym (get_or_push done worker w at (sym last)))
      (subst (λ k. IsOf turns worker k) (sym (get_or_push children child c at (are.0 ∙ sym last))) is)
  at_by done turns children worker child are is at w c (inr below) =
      let early : at < length children = omega (arith, are.0, below) in
      subst (λ b. IsOf turns b (get_or (children ++ child ∷ []) at c)) (sym (get_or_append_left done (worker ∷ []) w at below))
      (subst (λ k. IsOf turns (get_or done at w) k) (sym (get_or_append_left children (child ∷ []) c at early)) (are.1 at w c below))

  pub promised_more : (done : List (Worker L)) (turns : ℕ) (children : List (PromisedHandle (Worked L) (Turns L))) (worker : Worker L) (child : PromisedHandle (Worked L) (Turns L)) → ArePromised done turns children → IsOf turns worker child → ArePromised (done ++ worker ∷ []) turns (children ++ child ∷ [])
  promised_more done turns children worker child are is = (
    omega (arith, are.0, length-append done (worker ∷ []), length-append children (child ∷ [])),
    λ at w c below. at_by done turns children worker child are is at w c (eq-or-lt_of_le (omega (arith, below, length-append done (worker ∷ [])))),
  )

  pub record Started (workers : List (Worker L)) (turns : ℕ) (left : List (Worker L)) (children : List (PromisedHandle (Worked L) (Turns L))) : Type 0 where
    pub done : List (Worker L)
    pub parts : workers ≡ done ++ left
    pub promised : ArePromised done turns children

  pub started_more : (workers : List (Worker L)) (turns : ℕ) (left : List (Worker L)) (children : List (PromisedHandle (Worked L) (Turns L))) (worker : Worker L) (child : PromisedHandle (Worked L) (Turns L)) → Started workers turns (worker ∷ left) children → IsOf turns worker child → Started workers turns left (children ++ child ∷ [])
  started_more workers turns left children worker child started is = record {
    done = started.done ++ worker ∷ [];
    parts = started.parts ∙ sym (append_assoc started.done (worker ∷ []) left);
    promised = promised_more started.done turns children worker child started.promised is;
  }

  pub all_started : (workers : List (Worker L)) (turns : ℕ) (children : List (PromisedHandle (Worked L) (Turns L))) → Started workers turns [] children → ArePromised workers turns children
  all_started workers turns children started = subst (λ l. ArePromised l turns children) (sym (started.parts ∙ append-nil started.done)) started.promised

  pub first_started : (workers : List (Worker L)) (turns : ℕ) → Started workers turns workers []
  first_started workers turns = record { done = []; parts = refl; promised = (refl, λ at w c below. absurd (omega (arith, below))) }
