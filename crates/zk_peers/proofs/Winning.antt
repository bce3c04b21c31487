-- The winner of some votes and one more.
use Rattle.std.proofs.Common.{◌≡◌, ◌<◌, ◌⊎◌, inl, inr, ◌≤ℤ◌, ◌<ℤ◌, ◌==◌, ◌&&◌, ◌||◌, nat_lt, int_lt, ℕ, ℤ, zero, suc, Bool, true, false, List, [], ◌∷◌, ◌++◌, length, slice_get, Option, Some, None, refl, sym, ap, ◌∙◌, subst, arith}
use Rattle.std.specs.List.{AllByRecursion}
use Rattle.std.specs.Ordering.{int_eq}
use Rattle.std.proofs.lemmas.Bool.Decides.{nat_tests, Decides-eqb, Decides-int_eq}
use Rattle.std.proofs.lemmas.Int.{ints}
use Rattle.zab_host.specs.declared.vote.Vote.{Vote}
use Rattle.zab_host.specs.Votes.{total_order_predicate}
use Rattle.zk_peers.specs.Elections.{IsWinner, IsResult}

-- ---- the order

not_both : (b : Bool) → b ≡ true → b ≡ false → ⊥
not_both b is is_not = cc

true_or_false : (b : Bool) → (b ≡ true) ⊎ (b ≡ false)
true_or_false true = inl refl
true_or_false false = inr refl

or_true : (a b : Bool) → b ≡ true → (a || b) ≡ true
or_true true b e = refl
or_true false b e = e

either_true : (a b : Bool) → (a || b) ≡ true → (a ≡ true) ⊎ (b ≡ true)
either_true true b e = inl refl
either_true false b e = inr e

both_true : (a b : Bool) → (a && b) ≡ true → (a ≡ true) × (b ≡ true)
both_true true b e = (refl, e)
both_true false b e = absurd cc

below_is : (m n : ℕ) → nat_lt m n ≡ true → m < n
below_is m n e = grind (arith, nat_tests)

is_below : (m n : ℕ) → m < n → nat_lt m n ≡ true
is_below m n h = grind (arith, nat_tests)

below_is_int : (a b : ℤ) → int_lt a b ≡ true → a <ℤ b
below_is_int a b e = grind (arith, nat_tests, ints)

is_below_int : (a b : ℤ) → a <ℤ b → int_lt a b ≡ true
is_below_int a b h = grind (arith, nat_tests, ints)

-- the zxid is greater, or the same and the server's number greater
abbrev Later : ℤ → ℕ → ℤ → ℕ → Type 0
Later z s y r = (y <ℤ z) ⊎ ((z ≡ y) × (r < s))

-- the epoch is greater, or the same and the rest is later
abbrev Wins : Vote → Vote → Type 0
Wins v w = (w.epoch < v.epoch) ⊎ ((v.epoch ≡ w.epoch) × Later v.zxid v.server w.zxid w.server)

later_is : (z y : ℤ) (s r : ℕ) → (int_lt y z || (int_eq z y && nat_lt r s)) ≡ true → Later z s y r
later_is z y s r e = elim (either_true (int_lt y z) (int_eq z y && nat_lt r s) e) [
  | inl above ↦ inl (below_is_int y z above)
  | inr same ↦
      (let both = both_true (int_eq z y) (nat_lt r s) same in
      inr ((Decides-int_eq z y).0 both.0, below_is r s both.1))
]

is_later : (z y : ℤ) (s r : ℕ) → Later z s y r → (int_lt y z || (int_eq z y && nat_lt r s)) ≡ true
is_later z y s r (inl above) = ap (λ (b : Bool). b || (int_eq z y && nat_lt r s)) (is_below_int y z above)
is_later z y s r (inr same) =
    or_true (int_lt y z) (int_eq z y && nat_lt r s)
    (ap (λ (b : Bool). b && nat_lt r s) ((Decides-int_eq z y).1 same.0) ∙ is_below r s same.1)

wins_is : (v w : Vote) → total_order_predicate v w ≡ true → Wins v w
wins_is v w e = elim (either_true (nat_lt w.epoch v.epoch) ((v.epoch == w.epoch) && (int_lt w.zxid v.zxid || (int_eq v.zxid w.zxid && nat_lt w.server v.server))) e) [
  | inl above ↦ inl (below_is w.epoch v.epoch above)
  | inr same ↦
      (let both = both_true (v.epoch == w.epoch) (int_lt w.zxid v.zxid || (int_eq v.zxid w.zxid && nat_lt w.server v.server)) same in
      inr ((Decides-eqb v.epoch w.epoch).0 both.0, later_is v.zxid w.zxid v.server w.server both.1))
]

is_winning : (v w : Vote) → Wins v w → total_order_predicate v w ≡ true
is_winning v w (inl above) =
    ap (λ (b : Bool). b || ((v.epoch == w.epoch) && (int_lt w.zxid v.zxid || (int_eq v.zxid w.zxid && nat_lt w.server v.server)))) (is_below w.epoch v.epoch above)
is_winning v w (inr same) =
    or_true (nat_lt w.epoch v.epoch) ((v.epoch == w.epoch) && (int_lt w.zxid v.zxid || (int_eq v.zxid w.zxid && nat_lt w.server v.server)))
    (ap (λ (b : Bool). b && (int_lt w.zxid v.zxid || (int_eq v.zxid w.zxid && nat_lt w.server v.server))) ((Decides-eqb v.epoch w.epoch).1 same.0)
    ∙ is_later v.zxid w.zxid v.server w.server same.1)

later_then : (z y x : ℤ) (s r q : ℕ) → Later z s y r → Later y r x q → Later z s x q
later_then z y x s r q (inl a) (inl b) = inl (omega (arith, ints))
later_then z y x s r q (inl a) (inr b) = inl (subst (λ (i : ℤ). i <ℤ z) b.0 a)
later_then z y x s r q (inr a) (inl b) = inl (subst (λ (i : ℤ). x <ℤ i) (sym a.0) b)
later_then z y x s r q (inr a) (inr b) = inr (a.0 ∙ b.0, omega (arith, a.1, b.1))

wins_then : (u v w : Vote) → Wins u v → Wins v w → Wins u w
wins_then u v w (inl a) (inl b) = inl (omega arith)
wins_then u v w (inl a) (inr b) = inl (omega (arith, b.0))
wins_then u v w (inr a) (inl b) = inl (omega (arith, a.0))
wins_then u v w (inr a) (inr b) = inr (a.0 ∙ b.0, later_then u.zxid v.zxid w.zxid u.server v.server w.server a.1 b.1)

transitive : (u v w : Vote) → total_order_predicate u v ≡ true → total_order_predicate v w ≡ true → total_order_predicate u w ≡ true
transitive u v w first second = is_winning u w (wins_then u v w (wins_is u v first) (wins_is v w second))

not_later : (z : ℤ) (s : ℕ) → Later z s z s → ⊥
not_later z s (inl above) = omega (arith, ints)
not_later z s (inr same) = omega (arith, same.1)

not_over_itself : (v : Vote) → Wins v v → ⊥
not_over_itself v (inl above) = omega arith
not_over_itself v (inr same) = not_later v.zxid v.server same.1

irreflexive : (v : Vote) → total_order_predicate v v ≡ false
irreflexive v = elim (true_or_false (total_order_predicate v v)) [
  | inl won ↦ absurd (not_over_itself v (wins_is v v won))
  | inr lost ↦ lost
]

-- ---- lists

at_end : (votes : List Vote) (vote : Vote) → slice_get (votes ++ vote ∷ []) (length votes) ≡ Some vote
at_end [] vote = refl
at_end (x ∷ votes) vote = at_end votes vote

still_at : (votes : List Vote) (vote other : Vote) (k : ℕ) → slice_get votes k ≡ Some other → slice_get (votes ++ vote ∷ []) k ≡ Some other
still_at [] vote other k e = absurd cc
still_at (x ∷ votes) vote other zero e = e
still_at (x ∷ votes) vote other (suc k) e = still_at votes vote other k e

all_more : (P : Vote → Type 0) (votes : List Vote) (vote : Vote) → AllByRecursion P votes → P vote → AllByRecursion P (votes ++ vote ∷ [])
all_more P [] vote all last = (last, tt)
all_more P (x ∷ votes) vote all last = (all.0, all_more P votes vote all.1 last)

-- what loses against a vote loses against one that wins over it
loses_too : (vote other x : Vote) → total_order_predicate vote other ≡ true → total_order_predicate x other ≡ false → total_order_predicate x vote ≡ false
loses_too vote other x wins loses = elim (true_or_false (total_order_predicate x vote)) [
  | inl won ↦ absurd (not_both (total_order_predicate x other) (transitive x vote other won wins) loses)
  | inr lost ↦ lost
]

all_lose : (vote other : Vote) (votes : List Vote) → total_order_predicate vote other ≡ true → AllByRecursion (λ x. total_order_predicate x other ≡ false) votes → AllByRecursion (λ x. total_order_predicate x vote ≡ false) votes
all_lose vote other [] wins all = tt
all_lose vote other (x ∷ votes) wins all = (loses_too vote other x wins all.0, all_lose vote other votes wins all.1)

-- ---- one vote more

pub first_vote : (vote : Vote) (votes : List Vote) → votes ≡ [] → IsResult (Some vote) (votes ++ vote ∷ [])
first_vote vote votes none =
    let first : IsWinner vote (vote ∷ []) = record { place = 0; among = refl; greatest = (irreflexive vote, tt) } in
    subst (λ (l : List Vote). IsWinner vote (l ++ vote ∷ [])) (sym none) first

pub next_wins : (vote other : Vote) (votes : List Vote) → IsWinner other votes → total_order_predicate vote other ≡ true → IsResult (Some vote) (votes ++ vote ∷ [])
next_wins vote other votes best wins = record {
  place = length votes;
  among = at_end votes vote;
  greatest = all_more (λ x. total_order_predicate x vote ≡ false) votes vote (all_lose vote other votes wins best.greatest) (irreflexive vote);
}

pub next_loses : (vote other : Vote) (votes : List Vote) → IsWinner other votes → total_order_predicate vote other ≡ false → IsResult (Some other) (votes ++ vote ∷ [])
next_loses vote other votes best loses = record {
  place = best.place;
  among = still_at votes vote other best.place best.among;
  greatest = all_more (λ x. total_order_predicate x other ≡ false) votes vote best.greatest loses;
}
