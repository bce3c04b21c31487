-- Bytes that are handed over in parts.
use Rattle.std.proofs.Common.{◌≡◌, ℕ, ◌+◌, ◌-◌, ◌<◌, ◌≤◌, List, [], ◌++◌, length, take, drop, sym, ap, subst, ◌∙◌, append_assoc, take-append-drop, arith, length-append, length-drop}
use Rattle.std.proofs.lemmas.List.{append-nil, drop-drop, drop-take, drop_all, take-take, take_all, take-append-le, drop-append-le, nil_from_length}
use Rattle.zk_snapshot_writer.specs.Writing.{IsHandedOver}

take_two : (n m : ℕ) (xs : List ℕ) → take n xs ++ take m (drop n xs) ≡ take (n + m) xs
take_two n m xs =
    ap (λ (l : List ℕ). take n xs ++ l) (sym (drop-take n m xs))
    ∙ ap (λ (l : List ℕ). l ++ drop n (take (n + m) xs)) (sym (take-take n (n + m) xs (omega arith)))
    ∙ take-append-drop n (take (n + m) xs)

-- ---- the parts of one call

pub more_appended : (all out out2 out3 rest : List ℕ) (k n m : ℕ) → out2 ≡ out ++ take k all → rest ≡ drop k all → out3 ≡ out2 ++ take n rest → m ≡ k + n → out3 ≡ out ++ take m all
more_appended all out out2 out3 rest k n m so_far left one sum =
    one
    ∙ ap (λ (l : List ℕ). l ++ take n rest) so_far
    ∙ ap (λ (l : List ℕ). (out ++ take k all) ++ take n l) left
    ∙ append_assoc out (take k all) (take n (drop k all))
    ∙ ap (λ (l : List ℕ). out ++ l) (take_two k n all)
    ∙ ap (λ (i : ℕ). out ++ take i all) (sym sum)

pub more_left : (all rest rest2 : List ℕ) (k n m : ℕ) → rest ≡ drop k all → rest2 ≡ drop n rest → m ≡ k + n → rest2 ≡ drop m all
more_left all rest rest2 k n m left one sum =
    one ∙ ap (drop n) left ∙ drop-drop n k all ∙ ap (λ (i : ℕ). drop i all) (sym sum)

-- all that is left was handed over
pub all_appended : (all out out2 rest : List ℕ) (k most : ℕ) → k ≤ most → out2 ≡ out ++ take k all → rest ≡ drop k all → length rest ≡ 0 → out2 ≡ out ++ take most all
all_appended all out out2 rest k most within so_far left none =
    let short : length all ≤ k = omega (arith, length-drop k all, ap length left, none) in
    so_far ∙ ap (λ (l : List ℕ). out ++ l) (take_all k all short ∙ sym (take_all most all (omega (arith, short, within))))

pub all_left : (all rest : List ℕ) (k most : ℕ) → k ≤ most → rest ≡ drop k all → length rest ≡ 0 → rest ≡ drop most all
all_left all rest k most within left none =
    let short : length all ≤ k = omega (arith, length-drop k all, ap length left, none) in
    nil_from_length rest none ∙ sym (drop_all most all (omega (arith, short, within)))

pub broken_off : (all out out2 rest : List ℕ) (k : ℕ) → out2 ≡ out ++ take k all → rest ≡ drop k all → IsHandedOver all rest out out2
broken_off all out out2 rest k so_far left = record {
  bytes = take k all;
  before = sym (take-append-drop k all) ∙ ap (λ (l : List ℕ). take k all ++ l) (sym left);
  appended = so_far;
}

-- ---- a part of an item

pub part_appended : (item rest : List ℕ) (start n : ℕ) → start + n ≤ length item → take n (drop start item) ≡ take n (drop start item ++ rest)
part_appended item rest start n within = sym (take-append-le n (drop start item) rest (omega (arith, length-drop start item, within)))

pub part_left : (item rest : List ℕ) (start n : ℕ) → start + n ≤ length item → drop (start + n) item ++ rest ≡ drop n (drop start item ++ rest)
part_left item rest start n within =
    ap (λ (l : List ℕ). l ++ rest) (sym (drop-drop n start item)) ∙ sym (drop-append-le n (drop start item) rest (omega (arith, length-drop start item, within)))

-- no byte of an item is left
pub none_left : (item rest : List ℕ) (start : ℕ) → length item ≤ start → drop start item ++ rest ≡ rest
none_left item rest start le = ap (λ (l : List ℕ). l ++ rest) (drop_all start item le)
