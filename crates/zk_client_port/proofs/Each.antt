-- Writes to the elements of a list, one after another.
use Rattle.std.proofs.Common.{◌≡◌, ◌∙◌, ℕ, ◌+◌, ◌<◌, ◌≤◌, zero, suc, Bool, true, if◌then◌else◌, List, [], ◌∷◌, ◌++◌, length, map, take, drop, find, get_or, slice_set, Some, Result, Ok, Err, OnOk, IfOk, sym, ap, subst, append-nil, add-one, arith}
use Rattle.std.proofs.Math.ListN.{drop_of_length-le}
use Rattle.std.proofs.lemmas.List.{take-append-drop, take-set, drop-set, take_all}
use Rattle.zk_client_port.specs.Outputs.{with_first}
use Rattle.zk_connections.specs.declared.connection.Connection.{Connection}

pub set_is : {X : Type 0} → (xs : List X) (i : ℕ) (y : X) → i < length xs → slice_set xs i y ≡ take i xs ++ y ∷ drop (i + 1) xs
set_is xs i y h = sym (take-append-drop i (slice_set xs i y)) ∙ ap (λ front. front ++ drop i (slice_set xs i y)) (take-set xs i y) ∙ ap (λ back. take i xs ++ back) (drop-set xs i y h)

changed_at : {X : Type 0} (change : X → X) (all : List X) (i : ℕ) (x y : X) → i < length (map change (take i all) ++ drop i all) → x ≡ get_or (map change (take i all) ++ drop i all) i x → y ≡ change x
    → slice_set (map change (take i all) ++ drop i all) i y ≡ map change (take (suc i) all) ++ drop (suc i) all
changed_at change [] zero x y within is e = absurd (omega (arith, within))
changed_at change [] (suc i) x y within is e = absurd (omega (arith, within))
changed_at change (a ∷ all) zero x y within is e = ap (λ z. z ∷ all) (e ∙ ap change is)
changed_at change (a ∷ all) (suc i) x y within is e =
    let rest : slice_set (map change (take i all) ++ drop i all) i y ≡ map change (take (suc i) all) ++ drop (suc i) all = changed_at change all i x y (omega (arith, within)) is e in
    ap (λ its. change a ∷ its) rest

-- the elements before a place are changed, and now the next one
pub one_more : {X : Type 0} (change : X → X) (all now : List X) (i : ℕ) (x y : X) → now ≡ map change (take i all) ++ drop i all → i < length now → x ≡ get_or now i x → y ≡ change x
    → slice_set now i y ≡ map change (take (i + 1) all) ++ drop (i + 1) all
one_more change all now i x y so_far within is e =
    rw (add-one i) (ap (λ its. slice_set its i y) so_far ∙ changed_at change all i x y (subst (λ its. i < length its) so_far within) (is ∙ ap (λ its. get_or its i x) so_far) e)

-- no element passes the test
pub none_changed : (test : Connection → Bool) (change : Connection → Connection) (all now : List Connection) (n : ℕ) → now ≡ all
    → with_first test change all ≡ take n all ++ with_first test change (drop n all) → length all ≤ n → now ≡ with_first test change all
none_changed test change all now n same so_far ended =
    same ∙ sym (so_far ∙ ap (λ its. take n all ++ with_first test change its) (drop_of_length-le all ended) ∙ append-nil (take n all) ∙ take_all n all ended)

-- the element at a place is the first that passes the test
from_place : {X : Type 0} (all : List X) (i : ℕ) (x : X) → i < length all → x ≡ get_or all i x → drop i all ≡ x ∷ drop (suc i) all
from_place [] i x within is = absurd (omega (arith, within))
from_place (a ∷ all) zero x within is = ap (λ z. z ∷ all) (sym is)
from_place (a ∷ all) (suc i) x within is = from_place all i x (omega (arith, within)) is

module _ (test : Connection → Bool) (all now : List Connection) (i : ℕ) (x : Connection) (same : now ≡ all) (within : i < length now) (is : x ≡ get_or now i x) (passes : test x ≡ true) where
  rest : drop i all ≡ x ∷ drop (suc i) all
  rest = from_place all i x (subst (λ its. i < length its) same within) (is ∙ ap (λ its. get_or its i x) same)

  pub first_changed : (change : Connection → Connection) (y : Connection) → with_first test change all ≡ take i all ++ with_first test change (drop i all) → y ≡ change x
      → slice_set now i y ≡ with_first test change all
  first_changed change y so_far e =
      set_is now i y within ∙ ap (λ its. take i its ++ y ∷ drop (i + 1) its) same ∙ ap (λ z. take i all ++ z ∷ drop (i + 1) all) e ∙ ap (λ n. take i all ++ change x ∷ drop n all) (add-one i)
      ∙ ap (λ (b : Bool). take i all ++ (if b then change x ∷ drop (suc i) all else x ∷ with_first test change (drop (suc i) all))) (sym passes)
      ∙ ap (λ its. take i all ++ with_first test change its) (sym rest) ∙ sym so_far

  pub first_found : find test all ≡ find test (drop i all) → find test all ≡ Some x
  first_found so_far = so_far ∙ ap (find test) rest ∙ ap (λ (b : Bool). if b then Some x else find test (drop (suc i) all)) passes

pub then_ok : {T E P Q : Type 0} (result : Result T E) → (P → Q) → OnOk result P → OnOk result Q
then_ok (Ok x) f p = f p
then_ok (Err e) f p = tt

pub then_if : {T E : Type 0} {P Q : T → Type 0} (result : Result T E) → ((x : T) → P x → Q x) → IfOk result P → IfOk result Q
then_if (Ok x) f p = f x p
then_if (Err e) f p = tt
