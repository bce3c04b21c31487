-- Zxids that rise.
use Rattle.std.proofs.Common.{◌≡◌, ℤ, List, [], ◌∷◌, ◌++◌, Bool, true, false, cond, is_lt, Less, Equal, Greater, refl, sym, ap, ◌∙◌}
use Rattle.std.proofs.lemmas.Bool.{cond-true, false_from_ne_true, false≢true}
use Rattle.std.proofs.lemmas.Cmp.{int_cmp_total}
use Rattle.std.specs.Ordering.{int_cmp, ordering_reverse}
use Rattle.std.specs.Prelude.{int_lt}
use Rattle.std.specs.declared.cmp.Ordering.{Ordering}
use Rattle.zk_table.specs.declared.txn.Txn.{Txn}
use Rattle.zk_replay_laws.specs.Histories.{AreRising}

less_if : (a b : ℤ) → int_cmp a b ≡ Less → int_lt a b ≡ true
less_if a b e = by_test (int_lt a b) (int_lt b a) e
  where
    by_test : (s t : Bool) → cond s Less (cond t Greater Equal) ≡ Less → s ≡ true
    by_test true t h = refl
    by_test false true h = absurd (false≢true (ap is_lt h))
    by_test false false h = absurd (false≢true (ap is_lt h))

pub lt_trans : (a b c : ℤ) → int_lt a b ≡ true → int_lt b c ≡ true → int_lt a c ≡ true
lt_trans a b c x y = less_if a c (int_cmp_total.trans a b c (cond-true (int_lt a b) Less _ x) (cond-true (int_lt b c) Less _ y))

irreflexive : (a : ℤ) → int_lt a a ≡ true → ⊥
irreflexive a e = clash (int_cmp a a) (int_cmp_total.antisymm a a) (cond-true (int_lt a a) Less _ e)
  where
    clash : (r : Ordering) → r ≡ ordering_reverse r → r ≡ Less → ⊥
    clash r same less = absurd (false≢true (sym (ap (λ x. is_lt (ordering_reverse x)) less) ∙ sym (ap is_lt same) ∙ ap is_lt less))

pub lt_not_above : (a b : ℤ) → int_lt a b ≡ true → int_lt b a ≡ false
lt_not_above a b e = false_from_ne_true _ (λ back. irreflexive a (lt_trans a b a e back))

-- each is above this zxid
abbrev pub AllAbove : ℤ → List Txn → Type 0
AllAbove zxid [] = Unit {0}
AllAbove zxid (txn ∷ txns) = (int_lt zxid txn.zxid ≡ true) × AllAbove zxid txns

above_through : (zxid last : ℤ) (txns : List Txn) → int_lt zxid last ≡ true → AreRising last txns → AllAbove zxid txns
above_through zxid last [] less rising = tt
above_through zxid last (txn ∷ txns) less rising = let first = lt_trans zxid last txn.zxid less rising.0 in (first, above_through zxid txn.zxid txns first rising.1)

pub all_above : (last : ℤ) (txns : List Txn) → AreRising last txns → AllAbove last txns
all_above last [] rising = tt
all_above last (txn ∷ txns) rising = (rising.0, above_through last txn.zxid txns rising.0 rising.1)

pub rising_front : (last : ℤ) (xs ys : List Txn) → AreRising last (xs ++ ys) → AreRising last xs
rising_front last [] ys rising = tt
rising_front last (x ∷ xs) ys rising = (rising.0, rising_front x.zxid xs ys rising.1)

-- the zxid of the last transaction, or else this one
abbrev pub last_zxid : ℤ → List Txn → ℤ
last_zxid last [] = last
last_zxid last (txn ∷ txns) = last_zxid txn.zxid txns

pub rising_rest : (last : ℤ) (xs ys : List Txn) → AreRising last (xs ++ ys) → AreRising (last_zxid last xs) ys
rising_rest last [] ys rising = rising
rising_rest last (x ∷ xs) ys rising = rising_rest x.zxid xs ys rising.1
