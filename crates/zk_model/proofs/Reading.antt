-- Transactions that are taken some at a time.
use Rattle.std.proofs.Common.{◌≡◌, ◌∙◌, ℕ, zero, suc, ◌+◌, ◌≤◌, List, [], ◌∷◌, length, take, drop, refl, sym, ap, arith}
use Rattle.std.proofs.Math.ListN.{drop_of_length-le}
use Rattle.zk_table.specs.Histories.{state_after}
use Rattle.zk_table.specs.States.{State}
use Rattle.zk_table.specs.declared.txn.Txn.{Txn}

both : (n : ℕ) (txns : List Txn) (state : State) → state_after (state_after state (take n txns)) (drop n txns) ≡ state_after state txns
both zero txns state = refl
both (suc n) [] state = refl
both (suc n) (txn ∷ txns) state = both n txns _

no_more : (n : ℕ) → drop {A = Txn} n [] ≡ []
no_more zero = refl
no_more (suc n) = refl

later : (m n : ℕ) (txns : List Txn) → drop (m + n) txns ≡ drop n (drop m txns)
later zero n txns = (let same : zero + n ≡ n = omega arith in ap (λ k. drop k txns) same)
later (suc m) n [] = no_more (suc m + n) ∙ sym (no_more n)
later (suc m) n (txn ∷ txns) =
    (let next : suc m + n ≡ suc (m + n) = omega arith in
    ap (λ k. drop k (txn ∷ txns)) next ∙ later m n txns)

pub some_more : (done many : ℕ) (txns : List Txn) (now then whole : State) → then ≡ state_after now (take many (drop done txns)) → state_after now (drop done txns) ≡ whole → state_after then (drop (done + many) txns) ≡ whole
some_more done many txns now then whole is so_far =
    ap (λ (it : State). state_after it (drop (done + many) txns)) is
    ∙ ap (state_after (state_after now (take many (drop done txns)))) (later done many txns)
    ∙ both many (drop done txns) now ∙ so_far

pub all_read : (done : ℕ) (txns : List Txn) (now whole : State) → length txns ≤ done → state_after now (drop done txns) ≡ whole → now ≡ whole
all_read done txns now whole ended so_far = sym (ap (state_after now) (drop_of_length-le txns ended)) ∙ so_far
