-- Single fields, and fields that stand side by side.
use Rattle.std.proofs.Common.{◌≡◌, ℕ, zero, suc, ◌^◌, ◌<◌, Bool, true, false, cond, List, [], ◌∷◌, ◌++◌, length, Option, Some, None, refl, sym, ap, subst, ◌∙◌, inl, inr, append_assoc}
use Rattle.std.specs.Prelude.{FitsSigned}
use Rattle.std.specs.Fmt.{decimal, signed_decimal}
use Rattle.std.specs.Int.{w32, w64}
use Rattle.std.specs.List.{AllByRecursion, flat_map}
use Rattle.std.specs.Str.{IsUtf8}
use Rattle.zk_acl.specs.declared.acl.Id.{Id}
use Rattle.zk_listing.specs.Reading.{IsEnd, spaced, mapped, many_at, id_at, int_at, quoted_at, content_at, acl_at, behind}
use Rattle.zk_listing.proofs.AclLaws.{int_exact, acl_exact, AreTaken, taken_first, none_taken, end_of_many, BeginsWithEnd}
use Rattle.zk_listing.proofs.DecimalLaws.{narrow32, narrow64}
use Rattle.zk_listing.proofs.Exact.{IsExact, bind_some, first_is, second_is, exact_spaced}
use Rattle.zk_listing.proofs.LineLaws.{id_exact}
use Rattle.zk_listing.proofs.PartLaws.{content_exact}
use Rattle.zk_listing.proofs.QuotedLaws.{quoted_exact, behind_is}
use Rattle.zk_format.specs.Listings.{IsListedContent, AreListedAcls}
use Rattle.zk_format.specs.Spelling.{id_digits, quoted, content_text, acl_text}
use Rattle.zk_request_syntax.specs.Reading.{ended, begins_with_quote, id_field_at, int_field_at, long_field_at, text_field_at, acl_field_at, content_field_at, number_at, digest_of, digest_at, ids_at}
use Rattle.zk_request_syntax.specs.RequestLines.{SpellsText, SpellsInt, SpellsAcl, SpellsContent, id_text, IsDigestId, SpellsIds}
use Rattle.zk_request_syntax.proofs.Ended.{exact_ended}
use Rattle.zk_request_syntax.proofs.NumberLaws.{number_exact}
use Rattle.zk_request_syntax.proofs.Readings.{Reads, reads_exact, mapped_takes, mapped_again}

-- ---- fields with one text

pub id_field_exact : IsExact id_digits (FitsSigned w64) id_field_at
unfolding id_field_at
id_field_exact =
    let f = exact_ended id_digits (FitsSigned w64) id_at id_exact in
    record { takes = λ bytes x rest h. f.takes bytes x rest h; again = λ x rest fits e. f.again x rest fits e }

pub int_field_exact : IsExact signed_decimal (FitsSigned w32) int_field_at
unfolding int_field_at
int_field_exact =
    let f = exact_ended signed_decimal (FitsSigned w32) (int_at w32) (int_exact w32 narrow32) in
    record { takes = λ bytes x rest h. f.takes bytes x rest h; again = λ x rest fits e. f.again x rest fits e }

pub long_field_exact : IsExact signed_decimal (FitsSigned w64) long_field_at
unfolding long_field_at
long_field_exact =
    let f = exact_ended signed_decimal (FitsSigned w64) (int_at w64) (int_exact w64 narrow64) in
    record { takes = λ bytes x rest h. f.takes bytes x rest h; again = λ x rest fits e. f.again x rest fits e }

pub text_field_exact : IsExact quoted IsUtf8 text_field_at
unfolding text_field_at
text_field_exact =
    let f = exact_ended quoted IsUtf8 quoted_at quoted_exact in
    record { takes = λ bytes x rest h. f.takes bytes x rest h; again = λ x rest fits e. f.again x rest fits e }

pub acl_field_exact : IsExact acl_text AreListedAcls acl_field_at
unfolding acl_field_at
acl_field_exact =
    let f = exact_ended acl_text AreListedAcls acl_at acl_exact in
    record { takes = λ bytes x rest h. f.takes bytes x rest h; again = λ x rest fits e. f.again x rest fits e }

pub reads_text : Reads SpellsText text_field_at
reads_text = reads_exact quoted IsUtf8 text_field_at text_field_exact

pub reads_int : Reads SpellsInt int_field_at
reads_int = reads_exact signed_decimal (FitsSigned w32) int_field_at int_field_exact

pub reads_acl : Reads SpellsAcl acl_field_at
reads_acl = reads_exact acl_text AreListedAcls acl_field_at acl_field_exact

-- ---- contents

-- content of a listing begins with no quote
unquoted : (content : Option (List ℕ)) (rest : List ℕ) → begins_with_quote (content_text content ++ rest) ≡ false
unfolding content_text
unquoted None rest = refl
unquoted (Some bytes) rest = refl

quote_first : (text rest : List ℕ) → begins_with_quote (quoted text ++ rest) ≡ true
unfolding quoted
quote_first text rest = refl

content_takes : (bytes : List ℕ) (x : Option (List ℕ)) (rest : List ℕ) (q : Bool) → cond q (mapped Some text_field_at bytes) (ended content_at bytes) ≡ Some (x, rest) → (text : List ℕ) × SpellsContent x text × (bytes ≡ text ++ rest)
content_takes bytes x rest true h =
    let m = mapped_takes SpellsText text_field_at reads_text Some bytes x rest h in
    (m.text, subst (λ (v : Option (List ℕ)). SpellsContent v m.text) m.same (inr m.spells), m.split)
content_takes bytes x rest false h =
    let t = (exact_ended content_text IsListedContent content_at content_exact).takes bytes x rest h in
    (content_text x, inl (t.0, refl), t.1)

content_again : (x : Option (List ℕ)) (text rest : List ℕ) → SpellsContent x text → IsEnd rest → content_field_at (text ++ rest) ≡ Some (x, rest)
unfolding content_field_at
content_again x text rest (inl s) e =
    rw (s.1, unquoted x rest) ((exact_ended content_text IsListedContent content_at content_exact).again x rest s.0 e)
content_again None text rest (inr s) e = absurd s
content_again (Some bytes) text rest (inr s) e =
    rw (s.1, quote_first bytes rest) (mapped_again SpellsText text_field_at reads_text Some bytes (quoted bytes) rest (s.0, refl) e)

pub reads_content : Reads SpellsContent content_field_at
unfolding content_field_at
reads_content = record {
  takes = λ bytes x rest h. content_takes bytes x rest (begins_with_quote bytes) h;
  again = λ x text rest s e. content_again x text rest s e;
}

-- ---- identities

digest_exact : IsExact id_text IsDigestId digest_at
unfolding digest_at
digest_exact =
    let text = exact_spaced quoted IsUtf8 text_field_at text_field_exact in
    record {
      takes = λ bytes x rest h.
          let p = bind_some {B = Id × List ℕ} (spaced text_field_at bytes) (λ v. Some (digest_of v.0, v.1)) (x, rest) h in
          let left : p.0.1 ≡ rest = second_is (digest_of p.0.0, p.0.1) (x, rest) p.2 in
          let same : digest_of p.0.0 ≡ x = first_is (digest_of p.0.0, p.0.1) (x, rest) p.2 in
          let t = text.takes bytes p.0.0 p.0.1 p.1 in
          let one : IsDigestId (digest_of p.0.0) × (bytes ≡ id_text (digest_of p.0.0) ++ p.0.1) = (record { scheme = refl; text = t.0 }, t.1) in
          let made : IsDigestId x × (bytes ≡ id_text x ++ p.0.1) = subst (λ (v : Id). IsDigestId v × (bytes ≡ id_text v ++ p.0.1)) same one in
          (made.0, made.1 ∙ ap (λ (r : List ℕ). id_text x ++ r) left);
      again = λ x rest fits e.
          let whole : digest_of x.id ≡ x = ap (λ (s : List ℕ). record { scheme = s; id = x.id }) (sym fits.scheme) in
          rw (text.again x.id rest fits.text e) (ap (λ (v : Id). Some (v, rest)) whole);
    }

ids_begin : BeginsWithEnd id_text
ids_begin id rest = refl

pub many_takes : {X : Type 0} (spell : X → List ℕ) (Fits : X → Type 0) (at : List ℕ → Option (X × List ℕ)) → IsExact spell Fits at → (n : ℕ) (bytes : List ℕ) (xs : List X) (rest : List ℕ) → many_at at n bytes ≡ Some (xs, rest) → (length xs ≡ n) × AreTaken spell Fits bytes xs rest
unfolding many_at
many_takes {X} spell Fits at f zero bytes xs rest h =
    let same : [] ≡ xs = first_is {A = List X} {B = List ℕ} ([], bytes) (xs, rest) h in
    (sym (ap length same), none_taken spell Fits bytes xs rest h)
many_takes {X} spell Fits at f (suc n) bytes xs rest h =
    let p = bind_some {B = List X × List ℕ} (at bytes) (λ x. behind (x.0 ∷ []) (many_at at n x.1)) (xs, rest) h in
    let y = behind_is (p.0.0 ∷ []) (many_at at n p.0.1) (xs, rest) p.2 in
    let one = f.takes bytes p.0.0 p.0.1 p.1 in
    let others = many_takes spell Fits at f n p.0.1 y.0.0 y.0.1 y.1 in
    (sym (ap length y.2) ∙ ap suc others.0, taken_first spell Fits bytes p.0.1 p.0.0 y.0 xs rest one.0 one.1 others.1 y.2 y.3)

pub many_again : {X : Type 0} (spell : X → List ℕ) (Fits : X → Type 0) (at : List ℕ → Option (X × List ℕ)) → IsExact spell Fits at → BeginsWithEnd spell → (xs : List X) (rest : List ℕ) → AllByRecursion Fits xs → IsEnd rest → many_at at (length xs) (flat_map spell xs ++ rest) ≡ Some (xs, rest)
unfolding many_at
many_again spell Fits at f ends [] rest fits e = refl
many_again {X} spell Fits at f ends (x ∷ xs) rest fits e =
    let others = flat_map spell xs ++ rest in
    rw (append_assoc (spell x) (flat_map spell xs) rest, f.again x others fits.0 (end_of_many spell ends xs rest e), many_again spell Fits at f ends xs rest fits.1 e) refl

pub reads_ids : Reads SpellsIds ids_at
unfolding ids_at
reads_ids = record {
  takes = λ bytes ids rest h.
      let p = bind_some {B = List Id × List ℕ} (number_at bytes) (λ n. many_at digest_at n.0 n.1) (ids, rest) h in
      let number = number_exact.takes bytes p.0.0 p.0.1 p.1 in
      let many = many_takes id_text IsDigestId digest_at digest_exact p.0.0 p.0.1 ids rest p.2 in
      let text : List ℕ = decimal (length ids) ++ flat_map id_text ids in
      let fits : SpellsIds ids text = record { few = subst (λ (n : ℕ). n < 2 ^ 64) (sym many.0) number.0; each = many.1.fits; spelled = refl } in
      let whole : bytes ≡ text ++ rest = number.1 ∙ ap (λ (n : ℕ). decimal n ++ p.0.1) (sym many.0) ∙ ap (λ (r : List ℕ). decimal (length ids) ++ r) many.1.spelled ∙ sym (append_assoc (decimal (length ids)) (flat_map id_text ids) rest) in
      (text, fits, whole);
  again = λ ids text rest s e.
      let others = flat_map id_text ids ++ rest in
      rw (s.spelled, append_assoc (decimal (length ids)) (flat_map id_text ids) rest, number_exact.again (length ids) others s.few (end_of_many id_text ids_begin ids rest e)) (many_again id_text IsDigestId digest_at digest_exact ids_begin ids rest s.each e);
}
