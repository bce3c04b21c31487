-- A first line is read exactly if it has this form.
use Rattle.std.proofs.Common.{◌≡◌, ◌≢◌, ◌&&◌, ◌==◌, inl, inr, ℕ, zero, suc, ◌^◌, ◌<◌, ◌≤◌, nat_le, Bool, true, false, List, [], ◌∷◌, ◌++◌, length, replicate, Option, Some, None, Result, Ok, Err, refl, sym, ap, subst, ◌∙◌, append_assoc, arith}
use Rattle.std.proofs.lemmas.List.{append-nil, length-replicate}
use Rattle.std.proofs.lemmas.Bool.Decides.{nat_tests}
use Rattle.std.specs.Prelude.{if◌then◌else◌, IfOk, IfErr, codes, is_none}
use Rattle.std.specs.Fmt.{decimal}
use Rattle.std.specs.List.{flat_map}
use Rattle.zab_epoch.specs.declared.weight_fault.WeightFault.{WeightFault}
use Rattle.zab_epoch.specs.declared.weight_fault.WeightFault.TheVariants as faults
use Rattle.zab_epoch.specs.Weights.{weight_fault}
use Rattle.zk_listing.specs.Reading.{IsEnd, front_of, back_of, spaced, Fails}
use Rattle.zk_listing.specs.declared.list_fault.ListCause.{ListCause}
use Rattle.zk_listing.specs.declared.list_fault.ListCause.TheVariants as causes
use Rattle.zk_listing.proofs.Exact.{bind_some, first_is, second_is}
use Rattle.zk_request_syntax.specs.Reading.{number_at}
use Rattle.zk_request_syntax.proofs.Readings.{TakesBehind, by_word_takes, ReadsWhole, nothing_left}
use Rattle.zk_run_script.specs.FirstLines.{field, SpellsWeights, SaysServers, ReadsServers}
use Rattle.zk_run_script.specs.FirstLineReading.{servers_at, weights_of, counted_weights, first_at, are_right, are_right_alone}
use Rattle.zk_run_script.proofs.Weights.{Fit, spaced_number, if_some, listed_takes, listed_again}

-- ---- the number of servers

record IsCounted (servers : ℕ) (text : List ℕ) : Type 0 where
  pub fits : servers < 2 ^ 64
  pub spelled : text ≡ codes "servers " ++ decimal servers

behind_word : TakesBehind IsCounted (codes "servers") (spaced number_at)
behind_word = λ bytes n rest h.
    let t = spaced_number.takes bytes n rest h in
    let counted : IsCounted n (codes "servers " ++ decimal n) = record { fits = t.0; spelled = refl } in
    (codes "servers " ++ decimal n, counted, ap (λ (b : List ℕ). codes "servers" ++ b) t.1)

servers_takes : (bytes : List ℕ) (n : ℕ) (rest : List ℕ) → servers_at bytes ≡ Some (n, rest) → bytes ≡ (codes "servers " ++ decimal n) ++ rest
unfolding servers_at
servers_takes bytes n rest h =
    let t = by_word_takes IsCounted ((codes "servers", spaced number_at) ∷ []) (behind_word, tt) bytes n rest h in
    t.2 ∙ ap (λ (b : List ℕ). b ++ rest) t.1.spelled

servers_again : (n : ℕ) (rest : List ℕ) → n < 2 ^ 64 → IsEnd rest → servers_at ((codes "servers " ++ decimal n) ++ rest) ≡ Some (n, rest)
unfolding servers_at front_of back_of
servers_again n rest fits end = spaced_number.again n rest fits end

-- ---- what comes after it

-- the line has these weights, of at most 15 servers
record IsFirst (weights text : List ℕ) : Type 0 where
  pub most : length weights ≤ 15
  pub each : Fit weights
  pub spelled : SpellsWeights weights text

ones_fit : (n : ℕ) → Fit (replicate n 1)
ones_fit zero = tt
ones_fit (suc n) = (omega arith, ones_fit n)

even_first : (n : ℕ) → n ≤ 15 → IsFirst (replicate n 1) ((codes "servers " ++ decimal n) ++ [])
even_first n few =
    let count : length (replicate n 1) ≡ n = length-replicate n 1 in
    record {
      most = omega (arith, count);
      each = ones_fit n;
      spelled = inl (ap (λ (k : ℕ). replicate k 1) (sym count), append-nil (codes "servers " ++ decimal n) ∙ ap (λ (k : ℕ). codes "servers " ++ decimal k) (sym count));
    }

record IsBehind (n : ℕ) (bytes weights rest : List ℕ) : Type 0 where
  pub text : List ℕ
  pub is : IsFirst weights ((codes "servers " ++ decimal n) ++ text)
  pub split : bytes ≡ text ++ rest

behind_takes : (n : ℕ) (bytes weights rest : List ℕ) → n ≤ 15 → weights_of n bytes ≡ Some (weights, rest) → IsBehind n bytes weights rest
behind_takes n [] weights rest few h = record {
  text = [];
  is = subst (λ (l : List ℕ). IsFirst l ((codes "servers " ++ decimal n) ++ [])) (first_is (replicate n 1, []) (weights, rest) h) (even_first n few);
  split = second_is (replicate n 1, []) (weights, rest) h;
}
behind_takes n (b ∷ bytes) weights rest few h =
    let t = listed_takes n (b ∷ bytes) weights rest h in
    record {
      text = codes " weights" ++ flat_map field weights;
      is = record {
        most = omega (arith, t.0, few);
        each = t.1;
        spelled = inr (sym (append_assoc (codes "servers " ++ decimal n) (codes " weights") (flat_map field weights))
            ∙ ap (λ (k : ℕ). ((codes "servers " ++ decimal k) ++ codes " weights") ++ flat_map field weights) (sym t.0));
      };
      split = t.2;
    }

first_again : (n : ℕ) (rest weights : List ℕ) → n ≤ 15 → IsEnd rest → weights_of n rest ≡ Some (weights, []) → first_at ((codes "servers " ++ decimal n) ++ rest) ≡ Some (weights, [])
unfolding first_at
first_again n rest weights few end h =
    let fits : n < 2 ^ 64 = omega (arith, few) in
    let test : nat_le n 15 ≡ true = grind (arith, nat_tests) in
    rw (servers_again n rest fits end, test) h

whole_first : ReadsWhole IsFirst first_at
unfolding first_at
whole_first = record {
  takes = λ bytes weights rest h.
      let p = bind_some {B = List ℕ × List ℕ} (servers_at bytes) counted_weights (weights, rest) h in
      let q = if_some (nat_le p.0.0 15) (weights_of p.0.0 p.0.1) (weights, rest) p.2 in
      let test = q.0 in
      let few : p.0.0 ≤ 15 = grind (arith, nat_tests) in
      let t = behind_takes p.0.0 p.0.1 weights rest few q.1 in
      let front = codes "servers " ++ decimal p.0.0 in
      (front ++ t.text, t.is, servers_takes bytes p.0.0 p.0.1 p.1 ∙ ap (λ (r : List ℕ). front ++ r) t.split ∙ sym (append_assoc front t.text rest));
  again = λ weights text s. spelled_again weights text s s.spelled;
}
  where
    spelled_again : (weights text : List ℕ) → IsFirst weights text → SpellsWeights weights text → first_at text ≡ Some (weights, [])
    spelled_again weights text s (inl even) =
        ap first_at (even.1 ∙ sym (append-nil (codes "servers " ++ decimal (length weights))))
        ∙ first_again (length weights) [] weights s.most tt (ap (λ (l : List ℕ). Some (l, [])) (sym even.0))
    spelled_again weights text s (inr is) =
        ap first_at (is ∙ append_assoc (codes "servers " ++ decimal (length weights)) (codes " weights") (flat_map field weights))
        ∙ first_again (length weights) (codes " weights" ++ flat_map field weights) weights s.most refl (listed_again weights s.each)

-- ---- weights that are taken

none_is : {A : Type 0} (o : Option A) → is_none o ≡ true → o ≡ None
none_is None h = refl
none_is (Some x) h = absurd (let bad : false ≡ true = h in cc)

both_are : (a b : Bool) → (a && b) ≡ true → (a ≡ true) × (b ≡ true)
both_are true b h = (refl, h)
both_are false b h = absurd (let bad : false ≡ true = h in cc)

counted_if : (b : Bool) (o : Option WeightFault) → (if b then o else Some faults.Count) ≡ None → b ≡ true
counted_if true o h = refl
counted_if false o h = absurd (let bad : Some faults.Count ≡ None = h in cc)

few_weights : (weights : List ℕ) → weight_fault weights ≡ None → length weights ≤ 15
few_weights weights right =
    let counts : (nat_le 2 (length weights) && nat_le (length weights) 15) ≡ true = counted_if (nat_le 2 (length weights) && nat_le (length weights) 15) _ right in
    let test = (both_are (nat_le 2 (length weights)) (nat_le (length weights) 15) counts).1 in
    grind (arith, nat_tests)

read_again : (line weights : List ℕ) → SaysServers line weights → first_at line ≡ Some (weights, [])
read_again line weights s = whole_first.again weights line (record { most = few_weights weights s.right; each = s.each; spelled = s.spelled })

no_such : {Y : Type 0} (y : Y) → None ≡ Some y → ⊥
no_such y h = let bad : None ≡ Some y = h in cc

none_said : (line : List ℕ) → first_at line ≡ None → (weights : List ℕ) → SaysServers line weights → ⊥
none_said line none weights s = no_such (weights, []) (sym none ∙ read_again line weights s)

pub unread : (line : List ℕ) (cause : ListCause) → cause ≢ causes.NoMemory → Fails cause (first_at line) → ReadsServers line (Err cause)
unread line causes.NoMemory other f = absurd (other refl)
unread line causes.Fields other f = none_said line f
unread line causes.Number other f = none_said line f
unread line causes.Quote other f = none_said line f
unread line causes.Hex other f = none_said line f
unread line causes.Word other f = none_said line f
unread line causes.Path other f = none_said line f
unread line causes.NoNewline other f = none_said line f

module _ (line left weights : List ℕ) (read : first_at line ≡ Some (weights, left)) where
  says : are_right_alone left weights ≡ true → SaysServers line weights
  says passed =
      let p = both_are (length left == 0) (are_right weights) passed in
      let t = whole_first.takes line weights left read in
      let alone : line ≡ t.0 = t.2 ∙ ap (λ (r : List ℕ). t.0 ++ r) (nothing_left left p.0) ∙ append-nil t.0 in
      record {
        right = none_is (weight_fault weights) p.1;
        each = t.1.each;
        spelled = subst (SpellsWeights weights) (sym alone) t.1.spelled;
      }

  only : (other : List ℕ) → SaysServers line other → other ≡ weights
  only other s = sym (first_is (weights, left) (other, []) (sym read ∙ read_again line other s))

  none : are_right_alone left weights ≡ false → (other : List ℕ) → SaysServers line other → ⊥
  none refused other s =
      let same : other ≡ weights = only other s in
      let all : left ≡ [] = second_is (weights, left) (other, []) (sym read ∙ read_again line other s) in
      let taken : is_none (weight_fault weights) ≡ true = ap (λ (l : List ℕ). is_none (weight_fault l)) (sym same) ∙ ap is_none s.right in
      let passed : are_right_alone left weights ≡ true = ap (λ (l : List ℕ). are_right_alone l weights) all ∙ taken in
      let bad : false ≡ true = sym refused ∙ passed in
      cc

  pub reads : (r : Result (List ℕ) ListCause) → IfOk r (λ it. (it ≡ weights) × (are_right_alone left weights ≡ true)) → IfErr r (λ cause. cause ≢ causes.NoMemory → are_right_alone left weights ≡ false) → (r ≡ Err causes.NoMemory → are_right_alone left weights ≡ true) → ReadsServers line r
  reads (Ok it) found refused memory =
      (subst (SaysServers line) (sym found.0) (says found.1), λ other s. only other s ∙ sym found.0)
  reads (Err causes.NoMemory) found refused memory = (weights, says (memory refl))
  reads (Err causes.Fields) found refused memory = none (refused (λ e. cc))
  reads (Err causes.Number) found refused memory = none (refused (λ e. cc))
  reads (Err causes.Quote) found refused memory = none (refused (λ e. cc))
  reads (Err causes.Hex) found refused memory = none (refused (λ e. cc))
  reads (Err causes.Word) found refused memory = none (refused (λ e. cc))
  reads (Err causes.Path) found refused memory = none (refused (λ e. cc))
  reads (Err causes.NoNewline) found refused memory = none (refused (λ e. cc))
