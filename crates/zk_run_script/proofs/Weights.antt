-- Weights, each after a space, are read exactly if the text has this form.
use Rattle.std.proofs.Common.{◌≡◌, ℕ, ◌^◌, ◌<◌, nat_lt, Bool, true, false, List, [], ◌∷◌, ◌++◌, length, Option, Some, None, refl, sym, ap, subst, ◌∙◌, arith}
use Rattle.std.proofs.lemmas.List.{append-nil}
use Rattle.std.proofs.lemmas.Bool.Decides.{nat_tests}
use Rattle.std.specs.Prelude.{if◌then◌else◌, codes}
use Rattle.std.specs.Fmt.{decimal}
use Rattle.std.specs.List.{AllByRecursion, flat_map}
use Rattle.zk_listing.specs.Reading.{IsEnd, front_of, back_of, past, spaced, many_at}
use Rattle.zk_listing.proofs.Exact.{IsExact, bind_some, first_is, second_is, past_is, exact_spaced}
use Rattle.zk_request_syntax.specs.Reading.{by_word, number_at}
use Rattle.zk_request_syntax.proofs.FieldLaws.{many_takes, many_again}
use Rattle.zk_request_syntax.proofs.NumberLaws.{number_exact}
use Rattle.zk_request_syntax.proofs.Readings.{TakesBehind, by_word_takes}
use Rattle.zk_run_script.specs.FirstLines.{field}
use Rattle.zk_run_script.specs.FirstLineReading.{if_weight, weight_at, listed_at}

pub spaced_number : IsExact field (λ n. n < 2 ^ 64) (spaced number_at)
spaced_number = exact_spaced decimal (λ n. n < 2 ^ 64) number_at number_exact

-- ---- one weight

abbrev pub IsWeight : ℕ → Type 0
IsWeight weight = weight < 2 ^ 32

pub if_some : {A : Type 0} (b : Bool) (o : Option A) (y : A) → (if b then o else None) ≡ Some y → (b ≡ true) × (o ≡ Some y)
if_some true o y h = (refl, h)
if_some false o y h = absurd (let bad : None ≡ Some y = h in cc)

weight_takes : (bytes : List ℕ) (w : ℕ) (rest : List ℕ) → weight_at bytes ≡ Some (w, rest) → IsWeight w × (bytes ≡ field w ++ rest)
unfolding weight_at
weight_takes bytes w rest h =
    let p = bind_some {B = ℕ × List ℕ} (spaced number_at bytes) if_weight (w, rest) h in
    let q = if_some (nat_lt p.0.0 (2 ^ 32)) (Some p.0) (w, rest) p.2 in
    let value : p.0.0 ≡ w = first_is p.0 (w, rest) q.1 in
    let left : p.0.1 ≡ rest = second_is p.0 (w, rest) q.1 in
    let test = q.0 in
    let small : p.0.0 < 2 ^ 32 = grind (arith, nat_tests) in
    let t = spaced_number.takes bytes p.0.0 p.0.1 p.1 in
    (subst IsWeight value small, t.1 ∙ ap (λ (n : ℕ). field n ++ p.0.1) value ∙ ap (λ (r : List ℕ). field w ++ r) left)

weight_again : (w : ℕ) (rest : List ℕ) → IsWeight w → IsEnd rest → weight_at (field w ++ rest) ≡ Some (w, rest)
unfolding weight_at
weight_again w rest small end =
    let fits : w < 2 ^ 64 = omega (arith, small) in
    let test : nat_lt w (2 ^ 32) ≡ true = grind (arith, nat_tests) in
    rw (spaced_number.again w rest fits end, test) refl

weight_exact : IsExact field IsWeight weight_at
weight_exact = record { takes = weight_takes; again = weight_again }

-- ---- all of them, after their word

abbrev pub Fit : List ℕ → Type 0
Fit weights = AllByRecursion IsWeight weights

record IsListed (count : ℕ) (weights text : List ℕ) : Type 0 where
  pub counted : length weights ≡ count
  pub fit : Fit weights
  pub spelled : text ≡ codes "weights" ++ flat_map field weights

behind_word : (count : ℕ) → TakesBehind (IsListed count) (codes "weights") (many_at weight_at count)
behind_word count = λ bytes weights rest h.
    let r = many_takes field IsWeight weight_at weight_exact count bytes weights rest h in
    let listed : IsListed count weights (codes "weights" ++ flat_map field weights) = record { counted = r.0; fit = r.1.fits; spelled = refl } in
    (codes "weights" ++ flat_map field weights, listed, ap (λ (b : List ℕ). codes "weights" ++ b) r.1.spelled)

pub listed_takes : (count : ℕ) (bytes weights rest : List ℕ) → listed_at count bytes ≡ Some (weights, rest) → (length weights ≡ count) × Fit weights × (bytes ≡ (codes " weights" ++ flat_map field weights) ++ rest)
unfolding listed_at
listed_takes count bytes weights rest h =
    let p = bind_some {B = List ℕ × List ℕ} (past 32 bytes) (by_word ((codes "weights", many_at weight_at count) ∷ [])) (weights, rest) h in
    let t = by_word_takes (IsListed count) ((codes "weights", many_at weight_at count) ∷ []) (behind_word count, tt) p.0 weights rest p.2 in
    (t.1.counted, t.1.fit, past_is 32 bytes p.0 p.1 ∙ ap (λ (b : List ℕ). 32 ∷ b) t.2 ∙ ap (λ (b : List ℕ). 32 ∷ (b ++ rest)) t.1.spelled)

list_again : (weights : List ℕ) → Fit weights → many_at weight_at (length weights) (flat_map field weights) ≡ Some (weights, [])
list_again weights fit =
    ap (many_at weight_at (length weights)) (sym (append-nil (flat_map field weights)))
    ∙ many_again field IsWeight weight_at weight_exact (λ w rest. refl) weights [] fit tt

pub listed_again : (weights : List ℕ) → Fit weights → listed_at (length weights) (codes " weights" ++ flat_map field weights) ≡ Some (weights, [])
unfolding listed_at front_of back_of
listed_again [] fit = list_again [] fit
listed_again (w ∷ weights) fit = list_again (w ∷ weights) fit
