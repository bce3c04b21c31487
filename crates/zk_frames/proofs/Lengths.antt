-- Lengths of replies.
use Rattle.std.proofs.Common.{◌≡◌, ℕ, ◌<◌, ◌^◌, List, length, get_or, sym, ap, subst, arith, length-append}
use Rattle.std.specs.List.{flat_map, AllByRecursion}
use Rattle.std.proofs.lemmas.List.Elements.{All-from_recursion}
use Rattle.zk_records.specs.Records.{ustring}
use Rattle.zk_records.proofs.Lengths.{each_below}

pub text_filled : (text : List ℕ) → 0 < length (ustring text)
text_filled text = omega (arith, length-append text text)

-- a text whose field is short
pub text_short : (text same : List ℕ) → length (ustring text) < 2 ^ 31 → same ≡ text → length same < 2 ^ 31
text_short text same lt is = omega (arith, ap length is)

-- an element of a short concatenation
pub element_short : {A : Type 0} (element : A → List ℕ) (xs items : List A) (i : ℕ) (x : A) → length (flat_map element xs) < 2 ^ 31 → items ≡ xs → i < length items → x ≡ get_or items i x → length (element x) < 2 ^ 31
element_short {A} element xs items i x short same below is =
    let each : AllByRecursion (λ y. length (element y) < 2 ^ 31) items = subst (AllByRecursion (λ y. length (element y) < 2 ^ 31)) (sym same) (each_below element (2 ^ 31) xs short) in
    subst (λ (y : A). length (element y) < 2 ^ 31) (sym is) (All-from_recursion (λ y. length (element y) < 2 ^ 31) items each i x below)
