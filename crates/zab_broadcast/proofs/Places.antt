-- The places at which tags of calls were first taken.
use Rattle.std.proofs.Common.{◌≡◌, ℕ, zero, suc, ◌+◌, ◌<◌, ◌==◌, ◌||◌, Bool, true, false, cond, List, [], ◌∷◌, ◌++◌, length, take, get_or, Option, Some, None, is_some, refl, sym, ap, subst, ◌∙◌, arith}
use Rattle.std.proofs.lemmas.Bool.Decides.{nat_tests}
use Rattle.std.proofs.lemmas.List.{take_more}
use Rattle.std.specs.BTreeMap.{BTreeMap, get, is_at}
use Rattle.std.specs.Cmp.{unsigned_tied}
use Rattle.std.specs.Ordering.{nat_cmp}
use Rattle.zab_broadcast.specs.Calls.{is_taken}
use Rattle.zab_broadcast.specs.Places.{place_from, ArePlaces}

-- ---- one list

some_or_none : (o : Option ℕ) (P : Type 0) → ((i : ℕ) → o ≡ Some i → P) → (o ≡ None → P) → P
some_or_none (Some i) P one other = one i refl
some_or_none None P one other = other refl

true_or_false : (b : Bool) (P : Type 0) → (b ≡ true → P) → (b ≡ false → P) → P
true_or_false true P one other = one refl
true_or_false false P one other = other refl

equal_is : (a b : ℕ) → (a == b) ≡ true → a ≡ b
equal_is a b e = grind (arith, nat_tests)

is_equal : (a : ℕ) → (a == a) ≡ true
is_equal a = grind (arith, nat_tests)

pub taken_is : (at tag : ℕ) (tags : List ℕ) → is_some (place_from at tag tags) ≡ is_taken tag tags
taken_is at tag [] = refl
taken_is at tag (t ∷ tags) = by (t == tag) (taken_is (at + 1) tag tags)
  where
    by : (b : Bool) → is_some (place_from (at + 1) tag tags) ≡ is_taken tag tags → is_some (cond b (Some at) (place_from (at + 1) tag tags)) ≡ (b || is_taken tag tags)
    by true e = refl
    by false e = e

-- one that was taken keeps its place
stays : (at tag x i : ℕ) (tags : List ℕ) → place_from at tag tags ≡ Some i → place_from at tag (tags ++ x ∷ []) ≡ Some i
stays at tag x i [] e = absurd cc
stays at tag x i (t ∷ tags) e = by (t == tag) e (λ below. stays (at + 1) tag x i tags below)
  where
    by : (b : Bool) → cond b (Some at) (place_from (at + 1) tag tags) ≡ Some i → (place_from (at + 1) tag tags ≡ Some i → place_from (at + 1) tag (tags ++ x ∷ []) ≡ Some i) → cond b (Some at) (place_from (at + 1) tag (tags ++ x ∷ [])) ≡ Some i
    by true here later = here
    by false here later = later here

-- another is not found in the one more
other_stays : (at tag x : ℕ) (tags : List ℕ) → (x == tag) ≡ false → place_from at tag (tags ++ x ∷ []) ≡ place_from at tag tags
other_stays at tag x [] apart = ap (λ (b : Bool). cond b (Some at) None) apart
other_stays at tag x (t ∷ tags) apart = ap (λ (o : Option ℕ). cond (t == tag) (Some at) o) (other_stays (at + 1) tag x tags apart)

-- a new one has the last place
comes_last : (at tag : ℕ) (tags : List ℕ) → place_from at tag tags ≡ None → place_from at tag (tags ++ tag ∷ []) ≡ Some (at + length tags)
comes_last at tag [] none = ap (λ (b : Bool). cond b (Some at) None) (is_equal tag) ∙ (let here : at ≡ at + 0 = omega arith in ap (λ k. Some k) here)
comes_last at tag (t ∷ tags) none = by (t == tag) none (λ below. comes_last (at + 1) tag tags below)
  where
    by : (b : Bool) → cond b (Some at) (place_from (at + 1) tag tags) ≡ None → (place_from (at + 1) tag tags ≡ None → place_from (at + 1) tag (tags ++ tag ∷ []) ≡ Some (at + 1 + length tags)) → cond b (Some at) (place_from (at + 1) tag (tags ++ tag ∷ [])) ≡ Some (at + suc (length tags))
    by true here later = absurd cc
    by false here later = later here ∙ (let same : at + 1 + length tags ≡ at + suc (length tags) = omega arith in ap (λ k. Some k) same)

comes_first : (tag : ℕ) (tags : List ℕ) → place_from 0 tag tags ≡ None → place_from 0 tag (tags ++ tag ∷ []) ≡ Some (length tags)
comes_first tag tags none = comes_last 0 tag tags none ∙ (let all : 0 + length tags ≡ length tags = omega arith in ap (λ k. Some k) all)

same_place : (i j : ℕ) → (let o : Option ℕ = Some i in o ≡ Some j) → i ≡ j
same_place i j e = cc

place_below : (at tag i : ℕ) (tags : List ℕ) → place_from at tag tags ≡ Some i → i < at + length tags
place_below at tag i [] e = absurd cc
place_below at tag i (t ∷ tags) e = by (t == tag) e (λ below. place_below (at + 1) tag i tags below)
  where
    by : (b : Bool) → cond b (Some at) (place_from (at + 1) tag tags) ≡ Some i → (place_from (at + 1) tag tags ≡ Some i → i < at + 1 + length tags) → i < at + suc (length tags)
    by true here later = (let same = same_place at i here in omega arith)
    by false here later = (let less = later here in omega arith)

-- ---- maps

test_is : (x q : ℕ) → is_at (nat_cmp x) q ≡ (x == q)
test_is x q = unsigned_tied x q

-- a tag that was taken is taken again
pub taken_again : (m : BTreeMap ℕ ℕ) (tags : List ℕ) (x : ℕ) → ArePlaces m tags → is_some (get nat_cmp m x) ≡ true → ArePlaces m (tags ++ x ∷ [])
taken_again m tags x are some q =
    true_or_false (x == q) (get nat_cmp m q ≡ place_from 0 q (tags ++ x ∷ []))
    (λ same. some_or_none (place_from 0 q tags) (get nat_cmp m q ≡ place_from 0 q (tags ++ x ∷ []))
    (λ i at. are q ∙ at ∙ sym (stays 0 q x i tags at))
    (λ none. absurd (no_place (get nat_cmp m x) some (are x ∙ ap (λ k. place_from 0 k tags) (equal_is x q same) ∙ none))))
    (λ apart. are q ∙ sym (other_stays 0 q x tags apart))
  where
    no_place : (o : Option ℕ) → is_some o ≡ true → o ≡ None → ⊥
    no_place (Some i) e f = cc
    no_place None e f = cc

-- a new tag gets a place
pub newly_taken : (m n : BTreeMap ℕ ℕ) (tags : List ℕ) (x : ℕ) → ArePlaces m tags → is_some (get nat_cmp m x) ≡ false → ((q : ℕ) → get nat_cmp n q ≡ cond (is_at (nat_cmp x) q) (Some (length tags)) (get nat_cmp m q)) → ArePlaces n (tags ++ x ∷ [])
newly_taken m n tags x are free puts q =
    true_or_false (x == q) (get nat_cmp n q ≡ place_from 0 q (tags ++ x ∷ []))
    (λ same. puts q ∙ ap (λ (b : Bool). cond b (Some (length tags)) (get nat_cmp m q)) (test_is x q ∙ same)
    ∙ sym (comes_first x tags (sym (are x) ∙ no_place (get nat_cmp m x) free)) ∙ ap (λ k. place_from 0 k (tags ++ x ∷ [])) (equal_is x q same))
    (λ apart. puts q ∙ ap (λ (b : Bool). cond b (Some (length tags)) (get nat_cmp m q)) (test_is x q ∙ apart) ∙ are q ∙ sym (other_stays 0 q x tags apart))
  where
    no_place : (o : Option ℕ) → is_some o ≡ false → o ≡ None
    no_place (Some i) e = absurd cc
    no_place None e = refl

-- all but the last
in_two : (tags : List ℕ) (n x : ℕ) → n < length tags → x ≡ get_or tags n x → n + 1 ≡ length tags → tags ≡ take n tags ++ x ∷ []
in_two tags n x below is last = sym (all tags (n + 1) (sym last)) ∙ take_more tags n x below ∙ ap (λ k. take n tags ++ k ∷ []) (sym is)
  where
    all : (l : List ℕ) (k : ℕ) → length l ≡ k → take k l ≡ l
    all [] zero e = refl
    all [] (suc k) e = refl
    all (y ∷ l) zero e = absurd (omega (arith, e))
    all (y ∷ l) (suc k) e = ap (λ r. y ∷ r) (all l k (omega (arith, e)))

length_front : (tags : List ℕ) (n : ℕ) → n < length tags → length (take n tags) ≡ n
length_front tags zero below = refl
length_front [] (suc n) below = absurd (omega (arith, below))
length_front (t ∷ tags) (suc n) below = ap (λ k. suc k) (length_front tags n (omega (arith, below)))

-- a tag first taken at the last position is removed with it
gone_from : (m k : BTreeMap ℕ ℕ) (front : List ℕ) (x : ℕ) → ArePlaces m (front ++ x ∷ []) → get nat_cmp m x ≡ Some (length front) → ((q : ℕ) → get nat_cmp k q ≡ cond (is_at (nat_cmp x) q) None (get nat_cmp m q)) → ArePlaces k front
gone_from m k front x are last takes q =
    true_or_false (x == q) (get nat_cmp k q ≡ place_from 0 q front)
    (λ same. takes q ∙ ap (λ (b : Bool). cond b None (get nat_cmp m q)) (test_is x q ∙ same)
    ∙ sym (some_or_none (place_from 0 x front) (place_from 0 x front ≡ None)
    (λ i at. (let here : length front ≡ i = same_place (length front) i (sym last ∙ are x ∙ stays 0 x x i front at) in let less = place_below 0 x i front at in absurd (omega arith)))
    (λ none. none))
    ∙ ap (λ t. place_from 0 t front) (equal_is x q same))
    (λ apart. takes q ∙ ap (λ (b : Bool). cond b None (get nat_cmp m q)) (test_is x q ∙ apart) ∙ are q ∙ other_stays 0 q x front apart)

kept_from : (m : BTreeMap ℕ ℕ) (front : List ℕ) (x : ℕ) → ArePlaces m (front ++ x ∷ []) → (get nat_cmp m x ≡ Some (length front) → ⊥) → ArePlaces m front
kept_from m front x are early q =
    true_or_false (x == q) (get nat_cmp m q ≡ place_from 0 q front)
    (λ same. some_or_none (place_from 0 x front) (get nat_cmp m q ≡ place_from 0 q front)
    (λ i at. ap (get nat_cmp m) (sym (equal_is x q same)) ∙ are x ∙ stays 0 x x i front at ∙ sym at ∙ ap (λ t. place_from 0 t front) (equal_is x q same))
    (λ none. absurd (early (are x ∙ comes_first x front none))))
    (λ apart. are q ∙ other_stays 0 q x front apart)

pub last_gone : (m k : BTreeMap ℕ ℕ) (tags : List ℕ) (n x : ℕ) → ArePlaces m tags → n + 1 ≡ length tags → x ≡ get_or tags n x → get nat_cmp m x ≡ Some n → ((q : ℕ) → get nat_cmp k q ≡ cond (is_at (nat_cmp x) q) None (get nat_cmp m q)) → ArePlaces k (take n tags)
last_gone m k tags n x are all is last takes =
    let below : n < length tags = omega (arith, all) in
    gone_from m k (take n tags) x (subst (ArePlaces m) (in_two tags n x below is all) are) (last ∙ ap (λ j. Some j) (sym (length_front tags n below))) takes

pub last_kept : (m : BTreeMap ℕ ℕ) (tags : List ℕ) (n x : ℕ) → ArePlaces m tags → n + 1 ≡ length tags → x ≡ get_or tags n x → (get nat_cmp m x ≡ Some n → ⊥) → ArePlaces m (take n tags)
last_kept m tags n x are all is early =
    let below : n < length tags = omega (arith, all) in
    kept_from m (take n tags) x (subst (ArePlaces m) (in_two tags n x below is all) are) (λ here. early (here ∙ ap (λ j. Some j) (length_front tags n below)))
