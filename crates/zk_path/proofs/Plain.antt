-- A text that a scan of the bytes accepts has no fault.
use Rattle.std.proofs.Common.{◌≡◌, ◌≢◌, ℕ, ◌==◌, ◌<◌, ◌≤◌, ◌&&◌, ◌||◌, not, List, [], ◌∷◌, Bool, true, false, length, get_or, None, sym, ap, ◌∙◌, refl, ⊎_elim, arith}
use Rattle.std.specs.Prelude.{nat_lt}
use Rattle.std.specs.List.{All, AllByRecursion, list_any, slice_split, onto_first}
use Rattle.std.specs.Str.{chars}
use Rattle.std.proofs.lemmas.Bool.{cond-true, cond-false, cases_Bool, and_parts, or_parts, or_from, le-ltb, lt-leb, leb-true, eqb-false, ne_eqb, false≢true}
use Rattle.std.proofs.lemmas.List.Elements.{All-from_recursion}
use Rattle.std.proofs.lemmas.List.Folds.{list_any_none}
use Rattle.std.proofs.lemmas.Str.{chars-IsAscii}
use Rattle.std.proofs.lemmas.Str.Ascii.{IsAscii-from_all}
use Rattle.zk_path.specs.Paths.{is_slash, is_bad_char, is_dot_name, earlier, name_fault, first_fault}
use Rattle.zk_path.specs.Plain.{may_follow, is_plain_behind}
use Rattle.zk_path.proofs.FaultLaw.{different_bytes}

-- a byte that is a character, and not a bad one
record IsGood (b : ℕ) : Type 0 where
  ascii : b < 128
  good : is_bad_char b ≡ false

good_between : (b : ℕ) → 32 ≤ b → b ≤ 126 → IsGood b
good_between b low high = record {
  ascii = omega (arith, high);
  good =
      or_from _ _
      (or_from _ _
      (or_from _ _ (le-ltb b 32 low) (ap (λ z. z && nat_lt b 0xa0) (lt-leb 0x7f b (omega (arith, high)))))
      (ap (λ z. z && nat_lt b 0xf900) (lt-leb 0xe000 b (omega (arith, high)))))
      (lt-leb 0xfff0 b (omega (arith, high)));
}

record Follows (behind : Bool) (b : ℕ) : Type 0 where
  good : IsGood b
  first : (behind && (is_slash b || b == 46)) ≡ false

not_true : (x : Bool) → not x ≡ true → x ≡ false
not_true true e = absurd (false≢true e)
not_true false e = refl

follows : (behind : Bool) (b : ℕ) → may_follow behind b ≡ true → Follows behind b
follows behind b e =
    let both = and_parts _ _ e in
    let range = and_parts _ _ both.1 in
    record { good = good_between b (leb-true 32 b range.0) (leb-true b 126 range.1); first = not_true _ both.0 }

-- ---- names

abbrev AreGood : List ℕ → Type 0
AreGood = AllByRecursion IsGood

-- after a slash a name starts, and not with a dot
abbrev Begins : Bool → List ℕ → Type 0
Begins true [] = ⊥
Begins true (b ∷ bs) = (b == 46) ≡ false
Begins false bs = Unit {0}

no_dot : (b : ℕ) (bs ys : List ℕ) → (b == 46) ≡ false → b ∷ bs ≢ 46 ∷ ys
no_dot b bs ys other e = eqb-false b 46 other (ap (λ l. get_or l 0 0) e)

name_fault-good : (name : List ℕ) → AreGood name → Begins true name → name_fault name ≡ None
name_fault-good [] good begins = absurd begins
name_fault-good (b ∷ bs) good begins =
    let name = b ∷ bs in
    let all : All IsGood name = All-from_recursion IsGood name good in
    let ascii = IsAscii-from_all name (λ i d h. (all i d h).ascii) in
    let chars_good = ap (list_any is_bad_char) (chars-IsAscii name ascii) ∙ list_any_none is_bad_char name (λ i d h. (all i d h).good) in
    cond-false (length name == 0) _ _ (ne_eqb (length name) 0 (λ e. absurd (omega arith)))
    ∙ (cond-false (is_dot_name name) _ _ (or_from _ _ (different_bytes name _ (no_dot b bs [] begins)) (different_bytes name _ (no_dot b bs (46 ∷ []) begins)))
    ∙ cond-false (list_any is_bad_char (chars name)) _ _ chars_good)

-- ---- a text that is split at its slashes

record Parts (behind : Bool) (parts : List (List ℕ)) : Type 0 where
  name : List ℕ
  names : List (List ℕ)
  is : parts ≡ name ∷ names
  good : AreGood name
  begins : Begins behind name
  rest : first_fault names ≡ None

first_fault-parts : (parts : List (List ℕ)) → Parts true parts → first_fault parts ≡ None
first_fault-parts parts p =
    ap first_fault p.is ∙ (ap (λ o. earlier o (first_fault p.names)) (name_fault-good p.name p.good p.begins) ∙ p.rest)

begins_none : (behind : Bool) (b : ℕ) → is_slash b ≡ true → (behind && (is_slash b || b == 46)) ≡ false → Begins behind []
begins_none true b slash first = absurd (false≢true (sym first ∙ ap (λ z. z || b == 46) slash))
begins_none false b slash first = tt

begins_with : (behind : Bool) (b : ℕ) (bs : List ℕ) → (behind && (is_slash b || b == 46)) ≡ false → Begins behind (b ∷ bs)
begins_with true b bs first = (or_parts (is_slash b) (b == 46) first).1
begins_with false b bs first = tt

plain_parts : (behind : Bool) (bs : List ℕ) → is_plain_behind behind bs ≡ true → Parts behind (slice_split is_slash bs)
plain_parts true [] e = absurd (false≢true e)
plain_parts false [] e = record { name = []; names = []; is = refl; good = tt; begins = tt; rest = refl }
plain_parts behind (b ∷ bs) e =
    let both = and_parts (may_follow behind b) (is_plain_behind (is_slash b) bs) e in
    let here = follows behind b both.0 in
    ⊎_elim
    (λ slash.
    let more = plain_parts true bs (ap (λ z. is_plain_behind z bs) (sym slash) ∙ both.1) in
    record {
      name = [];
      names = slice_split is_slash bs;
      is = cond-true (is_slash b) _ _ slash;
      good = tt;
      begins = begins_none behind b slash here.first;
      rest = first_fault-parts (slice_split is_slash bs) more;
    })
    (λ other.
    let more = plain_parts false bs (ap (λ z. is_plain_behind z bs) (sym other) ∙ both.1) in
    record {
      name = b ∷ more.name;
      names = more.names;
      is = cond-false (is_slash b) _ _ other ∙ ap (onto_first b) more.is;
      good = (here.good, more.good);
      begins = begins_with behind b more.name here.first;
      rest = more.rest;
    })
    (cases_Bool (is_slash b))

pub plain_has_no_fault : (bs : List ℕ) → is_plain_behind true bs ≡ true → first_fault (slice_split is_slash bs) ≡ None
plain_has_no_fault bs e = first_fault-parts (slice_split is_slash bs) (plain_parts true bs e)
