-- Elements in order, and access control lists.
use Rattle.std.proofs.Common.{◌≡◌, ℕ, zero, suc, ℤ, pos, negsuc, ◌^◌, ◌<◌, List, [], ◌∷◌, ◌++◌, length, Option, Some, None, refl, sym, ap, subst, ◌∙◌, append_assoc, arith}
use Rattle.std.specs.Prelude.{FitsSigned}
use Rattle.std.specs.Fmt.{decimal, signed_decimal}
use Rattle.std.specs.Int.{w32}
use Rattle.std.specs.List.{AllByRecursion, flat_map}
use Rattle.std.specs.Option.{option_and_then}
use Rattle.std.specs.Str.{IsUtf8}
use Rattle.zk_acl.specs.declared.acl.Acl.{Acl}
use Rattle.zk_format.specs.Spelling.{quoted, acl_entry_text, acl_text}
use Rattle.zk_format.specs.Listings.{IsListedAcl, AreListedAcls}
use Rattle.zk_listing.specs.Reading.{IsEnd, behind, both, spaced, int_at, quoted_at, count_of, count_at, many_at, entry_of, entry_at, acl_at, int_from}
use Rattle.zk_listing.proofs.Exact.{IsExact, bind_some, first_is, second_is, some_is, exact_field, exact_spaced, exact_both, exact_mapped}
use Rattle.zk_listing.proofs.DecimalLaws.{int_field, IsNarrow, narrow32}
use Rattle.zk_listing.proofs.QuotedLaws.{quoted_exact, behind_is}
use mir.Syntax.{Width}

pub int_exact : (w : Width) → IsNarrow w → IsExact signed_decimal (FitsSigned w) (int_at w)
unfolding int_at
int_exact w narrow =
    let f = exact_field signed_decimal (FitsSigned w) (int_from w) (int_field w narrow) in
    record { takes = λ bytes x rest h. f.takes bytes x rest h; again = λ x rest fits e. f.again x rest fits e }

-- ---- elements in order

-- an element starts with a byte that may end a field
abbrev pub BeginsWithEnd : {X : Type 0} → (X → List ℕ) → Type 0
BeginsWithEnd {X} spell = (x : X) (rest : List ℕ) → IsEnd (spell x ++ rest)

pub end_of_many : {X : Type 0} (spell : X → List ℕ) → BeginsWithEnd spell → (xs : List X) (rest : List ℕ) → IsEnd rest → IsEnd (flat_map spell xs ++ rest)
end_of_many spell ends [] rest e = e
end_of_many spell ends (x ∷ xs) rest e = subst IsEnd (sym (append_assoc (spell x) (flat_map spell xs) rest)) (ends x (flat_map spell xs ++ rest))

pub record AreTaken {X : Type 0} (spell : X → List ℕ) (Fits : X → Type 0) (bytes : List ℕ) (xs : List X) (rest : List ℕ) : Type 0 where
  pub fits : AllByRecursion Fits xs
  pub spelled : bytes ≡ flat_map spell xs ++ rest

-- one element, and then the others
pub taken_first : {X : Type 0} (spell : X → List ℕ) (Fits : X → Type 0) (bytes after : List ℕ) (x : X) (y : List X × List ℕ) (xs : List X) (rest : List ℕ) → Fits x → bytes ≡ spell x ++ after → AreTaken spell Fits after y.0 y.1 → x ∷ y.0 ≡ xs → y.1 ≡ rest → AreTaken spell Fits bytes xs rest
taken_first {X} spell Fits bytes after x y xs rest fits first others same left =
    let one : AreTaken spell Fits bytes (x ∷ y.0) y.1 = record { fits = (fits, others.fits); spelled = first ∙ ap (λ (r : List ℕ). spell x ++ r) others.spelled ∙ sym (append_assoc (spell x) (flat_map spell y.0) y.1) } in
    let P : List X → Type 0 = λ v. AreTaken spell Fits bytes v y.1 in
    let Q : List ℕ → Type 0 = λ r. AreTaken spell Fits bytes xs r in
    subst Q left (subst P same one)

pub none_taken : {X : Type 0} (spell : X → List ℕ) (Fits : X → Type 0) (bytes : List ℕ) (xs : List X) (rest : List ℕ) → ◌≡◌ {A = Option (List X × List ℕ)} (Some ([], bytes)) (Some (xs, rest)) → AreTaken spell Fits bytes xs rest
none_taken {X} spell Fits bytes xs rest h =
    let same : [] ≡ xs = first_is {A = List X} {B = List ℕ} ([], bytes) (xs, rest) h in
    let left : bytes ≡ rest = second_is {A = List X} {B = List ℕ} ([], bytes) (xs, rest) h in
    let one : AreTaken spell Fits bytes [] bytes = record { fits = tt; spelled = refl } in
    let P : List X → Type 0 = λ v. AreTaken spell Fits bytes v bytes in
    let Q : List ℕ → Type 0 = λ r. AreTaken spell Fits bytes xs r in
    subst Q left (subst P same one)

many_takes : {X : Type 0} (spell : X → List ℕ) (Fits : X → Type 0) (at : List ℕ → Option (X × List ℕ)) → IsExact spell Fits at → (n : ℕ) (bytes : List ℕ) (xs : List X) (rest : List ℕ) → many_at at n bytes ≡ Some (xs, rest) → (length xs ≡ n) × AreTaken spell Fits bytes xs rest
unfolding many_at
many_takes {X} spell Fits at f zero bytes xs rest h =
    let same : [] ≡ xs = first_is {A = List X} {B = List ℕ} ([], bytes) (xs, rest) h in
    (sym (ap length same), none_taken spell Fits bytes xs rest h)
many_takes {X} spell Fits at f (suc n) bytes xs rest h =
    let p = bind_some {B = List X × List ℕ} (at bytes) (λ x. behind (x.0 ∷ []) (many_at at n x.1)) (xs, rest) h in
    let y = behind_is (p.0.0 ∷ []) (many_at at n p.0.1) (xs, rest) p.2 in
    let one = f.takes bytes p.0.0 p.0.1 p.1 in
    let others = many_takes spell Fits at f n p.0.1 y.0.0 y.0.1 y.1 in
    (sym (ap length y.2) ∙ ap suc others.0, taken_first spell Fits bytes p.0.1 p.0.0 y.0 xs rest one.0 one.1 others.1 y.2 y.3)

many_again : {X : Type 0} (spell : X → List ℕ) (Fits : X → Type 0) (at : List ℕ → Option (X × List ℕ)) → IsExact spell Fits at → BeginsWithEnd spell → (xs : List X) (rest : List ℕ) → AllByRecursion Fits xs → IsEnd rest → many_at at (length xs) (flat_map spell xs ++ rest) ≡ Some (xs, rest)
unfolding many_at
many_again spell Fits at f ends [] rest fits e = refl
many_again {X} spell Fits at f ends (x ∷ xs) rest fits e =
    let others = flat_map spell xs ++ rest in
    rw (append_assoc (spell x) (flat_map spell xs) rest, f.again x others fits.0 (end_of_many spell ends xs rest e), many_again spell Fits at f ends xs rest fits.1 e) refl

-- ---- access control lists

count_of_is : (z : ℤ) (n : ℕ) → count_of z ≡ Some n → z ≡ pos n
count_of_is (pos m) n h = ap pos (some_is m n h)
count_of_is (negsuc m) n h = absurd (let bad : None ≡ Some n = h in cc)

pub count_exact : IsExact decimal (λ n. n < 2 ^ 31) count_at
unfolding count_at
count_exact =
    let f = int_exact w32 narrow32 in
    record {
      takes = λ bytes n rest h.
          let p = bind_some {B = ℕ × List ℕ} (int_at w32 bytes) (λ z. option_and_then (λ m. Some (m, z.1)) (count_of z.0)) (n, rest) h in
          let q = bind_some {B = ℕ × List ℕ} (count_of p.0.0) (λ m. Some (m, p.0.1)) (n, rest) p.2 in
          let same : q.0 ≡ n = first_is (q.0, p.0.1) (n, rest) q.2 in
          let left : p.0.1 ≡ rest = second_is (q.0, p.0.1) (n, rest) q.2 in
          let value : p.0.0 ≡ pos n = count_of_is p.0.0 q.0 q.1 ∙ ap pos same in
          let found = f.takes bytes p.0.0 p.0.1 p.1 in
          let fits : FitsSigned w32 (pos n) = subst (FitsSigned w32) value found.0 in
          (fits.sfits, found.1 ∙ ap (λ (z : ℤ). signed_decimal z ++ p.0.1) value ∙ ap (λ (r : List ℕ). decimal n ++ r) left);
      again = λ n rest fits e.
          let fit : FitsSigned w32 (pos n) = record { sfits = fits } in
          rw (f.again (pos n) rest fit e) refl;
    }

entry_fields : ℤ × (List ℕ × List ℕ) → List ℕ
entry_fields x = (32 ∷ signed_decimal x.0) ++ ((32 ∷ quoted x.1.0) ++ (32 ∷ quoted x.1.1))

pub entry_exact : IsExact acl_entry_text IsListedAcl entry_at
unfolding entry_at acl_entry_text
entry_exact =
    let text = exact_spaced quoted IsUtf8 quoted_at quoted_exact in
    let texts = exact_both (λ (x : List ℕ). 32 ∷ quoted x) IsUtf8 (spaced quoted_at) (λ (x : List ℕ). 32 ∷ quoted x) IsUtf8 (spaced quoted_at) text text (λ y rest. refl) in
    let perms = exact_spaced signed_decimal (FitsSigned w32) (int_at w32) (int_exact w32 narrow32) in
    let fields = exact_both (λ (z : ℤ). 32 ∷ signed_decimal z) (FitsSigned w32) (spaced (int_at w32)) (λ (p : List ℕ × List ℕ). (32 ∷ quoted p.0) ++ (32 ∷ quoted p.1)) (λ p. IsUtf8 p.0 × IsUtf8 p.1) (both (spaced quoted_at) (spaced quoted_at)) perms texts (λ y rest. refl) in
    let back : Acl → ℤ × (List ℕ × List ℕ) = λ acl. (acl.perms, (acl.id.scheme, acl.id.id)) in
    let f = exact_mapped {X = ℤ × (List ℕ × List ℕ)} {Y = Acl} (λ x. (32 ∷ signed_decimal x.0) ++ ((32 ∷ quoted x.1.0) ++ (32 ∷ quoted x.1.1))) (λ x. FitsSigned w32 x.0 × (IsUtf8 x.1.0 × IsUtf8 x.1.1)) (both (spaced (int_at w32)) (both (spaced quoted_at) (spaced quoted_at))) acl_entry_text IsListedAcl entry_of back fields (λ acl. refl) (λ x. append_assoc (32 ∷ signed_decimal x.0) (32 ∷ quoted x.1.0) (32 ∷ quoted x.1.1)) (λ x fits. record { perms = fits.0; scheme = fits.1.0; id = fits.1.1 }) (λ acl fits. (fits.perms, (fits.scheme, fits.id))) in
    record { takes = λ bytes x rest h. f.takes bytes x rest h; again = λ x rest fits e. f.again x rest fits e }

entries_end : BeginsWithEnd acl_entry_text
unfolding acl_entry_text
entries_end acl rest = refl

pub acl_exact : IsExact acl_text AreListedAcls acl_at
unfolding acl_at acl_text
acl_exact = record {
  takes = λ bytes acls rest h.
      let p = bind_some {B = List Acl × List ℕ} (count_at bytes) (λ n. many_at entry_at n.0 n.1) (acls, rest) h in
      let number = count_exact.takes bytes p.0.0 p.0.1 p.1 in
      let entries = many_takes acl_entry_text IsListedAcl entry_at entry_exact p.0.0 p.0.1 acls rest p.2 in
      let fits : AreListedAcls acls = record { few = omega (arith, number.0, entries.0); each = entries.1.fits } in
      (fits, number.1 ∙ ap (λ (n : ℕ). decimal n ++ p.0.1) (sym entries.0) ∙ ap (λ (r : List ℕ). decimal (length acls) ++ r) entries.1.spelled ∙ sym (append_assoc (decimal (length acls)) (flat_map acl_entry_text acls) rest));
  again = λ acls rest fits e.
      let others = flat_map acl_entry_text acls ++ rest in
      rw (append_assoc (decimal (length acls)) (flat_map acl_entry_text acls) rest, count_exact.again (length acls) others fits.few (end_of_many acl_entry_text entries_end acls rest e)) (many_again acl_entry_text IsListedAcl entry_at entry_exact entries_end acls rest fits.each e);
}
