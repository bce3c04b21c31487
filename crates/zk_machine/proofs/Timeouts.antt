-- Restoring a session's timeout.
use Rattle.std.proofs.Common.{◌≡◌, ℕ, ℤ, true, false, cond, Option, Some, None, refl, ap, ◌∙◌}
use Rattle.std.proofs.lemmas.Cmp.{nat_cmp_total}
use Rattle.std.specs.FinMap as finite
use Rattle.std.specs.FinMap.{nat_cmp-IsAntisymmetric}
use Rattle.std.specs.Ordering.{nat_cmp, eq_by_cmp}
use Rattle.zk_table.specs.States.{SessionMap}
use Rattle.zk_machine.specs.Undoing.{timeout_put_back}
use Rattle.zk_machine.proofs.Texts.{tied}

get-put_back : (k : ℕ) (x : Option ℤ) (n : SessionMap) (q : ℕ) → finite.get (timeout_put_back k x n) q ≡ cond (eq_by_cmp nat_cmp q k) x (finite.get n q)
get-put_back k None n q = finite.get-remove nat_cmp_total n k q
get-put_back k (Some t) n q = finite.get-insert nat_cmp_total n k t q

-- a change of one session and its preimage cancel
put_back_noted : (s n : SessionMap) (k : ℕ) → ((q : ℕ) → eq_by_cmp nat_cmp q k ≡ false → finite.get n q ≡ finite.get s q) → timeout_put_back k (finite.get s k) n ≡ s
put_back_noted s n k others = finite.same_map nat_cmp_total nat_cmp-IsAntisymmetric _ _ (λ q. get-put_back k (finite.get s k) n q ∙ by_key q)
  where
    by_key : (q : ℕ) → cond (eq_by_cmp nat_cmp q k) (finite.get s k) (finite.get n q) ≡ finite.get s q
    by_key q = elim (eq_by_cmp nat_cmp q k) as (λ b. eq_by_cmp nat_cmp q k ≡ b → cond b (finite.get s k) (finite.get n q) ≡ finite.get s q) [
      | true ↦ λ e. finite.get_tied nat_cmp_total s q k (tied _ e)
      | false ↦ λ e. others q e
    ] refl

pub opened_back : (s n : SessionMap) (k : ℕ) (t : ℤ) (before : Option ℤ) → before ≡ finite.get s k → n ≡ finite.insert s k t → timeout_put_back k before n ≡ s
opened_back s n k t before was after =
    (λ i. timeout_put_back k (was i) n)
    ∙ put_back_noted s n k (λ q e. ap (λ m. finite.get m q) after ∙ finite.get-insert nat_cmp_total s k t q ∙ ap (λ b. cond b (Some t) (finite.get s q)) e)

pub closed_back : (s n : SessionMap) (k : ℕ) (before : Option ℤ) → before ≡ finite.get s k → n ≡ finite.remove s k → timeout_put_back k before n ≡ s
closed_back s n k before was after =
    (λ i. timeout_put_back k (was i) n)
    ∙ put_back_noted s n k (λ q e. ap (λ m. finite.get m q) after ∙ finite.get-remove nat_cmp_total s k q ∙ ap (λ b. cond b None (finite.get s q)) e)
