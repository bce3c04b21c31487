-- Errors and the bodies that they kept: reading is the inverse of writing.
use Rattle.std.proofs.Common.{◌≡◌, ℕ, ◌≤◌, ℤ, pos, negsuc, Bool, true, false, eqb, List, [], ◌∷◌, ◌++◌, length, Option, Some, None, Result, Ok, refl, sym, ap, ◌∙◌, append_assoc, arith, length-append}
use Rattle.std.specs.Prelude.{FitsSigned}
use Rattle.std.specs.Int.{w32, w64}
use Rattle.std.specs.List.{flat_map}
use Rattle.std.proofs.lemmas.Bool.{ne_eqb}
use Rattle.std.proofs.lemmas.List.{append-nil}
use Rattle.zk_acl.specs.declared.acl.Acl.{Acl}
use Rattle.zk_path.specs.Paths.{IsPath, fault_of}
use Rattle.zk_path.proofs.FaultLaw.{fault_of-IsPath}
use Rattle.zk_table.specs.declared.sub.Sub.{Sub}
use Rattle.zk_table.specs.declared.sub.Sub.TheVariants as subs
use Rattle.zk_jute.specs.declared.fault.JuteFault.{JuteFault}
use Rattle.zk_records.specs.Records.{int, long, ustring, buffer, boolean, acl_entry, acl_vector, IsPathText, IsContent, AreAcls, IsCreateOld, IsSub}
use Rattle.zk_jute.specs.Reading.{◌>>=◌, number_at, boolean_at, made_of, create_part}
use Rattle.zk_jute.proofs.Numbers.{IsBytes, TakesFront, TakesFront-then, first_read, made_takes, at_ok, either}
use Rattle.zk_jute.proofs.Texts.{int_field, long_field, path_field, content_field, boolean_field}
use Rattle.zk_jute.proofs.Vectors.{acl_vector_field}
use Rattle.zk_newer_records.specs.declared.parts.NewerPart.{NewerPart}
use Rattle.zk_newer_records.specs.declared.parts.PartEncoding.TheVariants as parts
use Rattle.zk_newer_records.specs.NewerRecords.{written_part_kind, written_part_body, IsPartEncoding}
use Rattle.zk_newer_records.specs.Reading.{plain_create, part_with, kept_container_at, kept_plain_at, kept_ttl_at, kept_create_at, kept_content_at, kept_path_at, error_at}

-- a body of a type was read
pub record IsReadPart (bytes : List ℕ) (kind : ℤ) (x : NewerPart × List ℕ) : Type 0 where
  pub took : TakesFront bytes (written_part_body x.0.sub x.0.form) x.1
  pub typed : written_part_kind x.0.sub x.0.form ≡ kind
  pub fits : IsSub x.0.sub
  pub form : IsPartEncoding x.0.sub x.0.form

abbrev pub is_error_part : List ℕ → NewerPart × List ℕ → Type 0
is_error_part bytes x = IsReadPart bytes (negsuc 0) x

-- ---- what is read

abbrev front_of : List ℕ → Option (List ℕ) → List Acl → List ℕ
front_of path content acl = ustring path ++ buffer content ++ acl_vector acl

kept_container_takes : (bytes path : List ℕ) (content : Option (List ℕ)) (acl : List Acl) (rest : List ℕ) (x : NewerPart × List ℕ) → TakesFront bytes (front_of path content acl) rest → IsCreateOld path content acl → kept_container_at path content acl rest ≡ Ok x → is_error_part bytes x
unfolding kept_container_at
kept_container_takes bytes path content acl rest x took is e =
    let a = first_read _ _ _ int_field rest (λ count. Ok (part_with parts.KeptContainer (create_part (plain_create path content acl false count.0)), count.1)) x took.rest_fits e in
    let all = TakesFront-then bytes (front_of path content acl) rest (int a.got.0) a.got.1 took a.took in
    let made : NewerPart × List ℕ = (part_with parts.KeptContainer (create_part (plain_create path content acl false a.got.0)), a.got.1) in
    at_ok (is_error_part bytes) made x a.goes (record { took = all; typed = refl; fits = (is.0, is.1, is.2, a.fits); form = tt })

kept_plain_takes : (bytes path : List ℕ) (content : Option (List ℕ)) (acl : List Acl) (rest : List ℕ) (x : NewerPart × List ℕ) → TakesFront bytes (front_of path content acl) rest → IsCreateOld path content acl → kept_plain_at path content acl rest ≡ Ok x → is_error_part bytes x
unfolding kept_plain_at
kept_plain_takes bytes path content acl rest x took is e =
    let a = first_read _ _ _ boolean_field rest (λ ephemeral. number_at w32 ephemeral.1 >>= λ count. Ok (part_with parts.Kept (create_part (plain_create path content acl ephemeral.0 count.0)), count.1)) x took.rest_fits e in
    let b = first_read _ _ _ int_field a.got.1 (λ count. Ok (part_with parts.Kept (create_part (plain_create path content acl a.got.0 count.0)), count.1)) x a.took.rest_fits a.goes in
    let front = front_of path content acl in
    let both = TakesFront-then bytes front rest (boolean a.got.0) a.got.1 took a.took in
    let all = TakesFront-then bytes (front ++ boolean a.got.0) a.got.1 (int b.got.0) b.got.1 both b.took in
    let made : NewerPart × List ℕ = (part_with parts.Kept (create_part (plain_create path content acl a.got.0 b.got.0)), b.got.1) in
    at_ok (is_error_part bytes) made x b.goes (record { took = all; typed = refl; fits = (is.0, is.1, is.2, b.fits); form = tt })

kept_ttl_takes : (bytes path : List ℕ) (content : Option (List ℕ)) (acl : List Acl) (rest : List ℕ) (x : NewerPart × List ℕ) → TakesFront bytes (front_of path content acl) rest → IsCreateOld path content acl → kept_ttl_at path content acl rest ≡ Ok x → is_error_part bytes x
unfolding kept_ttl_at
kept_ttl_takes bytes path content acl rest x took is e =
    let a = first_read _ _ _ int_field rest (λ count. number_at w64 count.1 >>= λ ttl. Ok (part_with (parts.KeptTtl ttl.0) (create_part (plain_create path content acl false count.0)), ttl.1)) x took.rest_fits e in
    let b = first_read _ _ _ long_field a.got.1 (λ ttl. Ok (part_with (parts.KeptTtl ttl.0) (create_part (plain_create path content acl false a.got.0)), ttl.1)) x a.took.rest_fits a.goes in
    let front = front_of path content acl in
    let both = TakesFront-then bytes front rest (int a.got.0) a.got.1 took a.took in
    let all = TakesFront-then bytes (front ++ int a.got.0) a.got.1 (long b.got.0) b.got.1 both b.took in
    let made : NewerPart × List ℕ = (part_with (parts.KeptTtl b.got.0) (create_part (plain_create path content acl false a.got.0)), b.got.1) in
    at_ok (is_error_part bytes) made x b.goes (record { took = all; typed = refl; fits = (is.0, is.1, is.2, a.fits); form = (tt, b.fits) })

kept_create_takes : (bytes path : List ℕ) (content : Option (List ℕ)) (acl : List Acl) (rest : List ℕ) (x : NewerPart × List ℕ) → TakesFront bytes (front_of path content acl) rest → IsCreateOld path content acl → kept_create_at path content acl rest ≡ Ok x → is_error_part bytes x
unfolding kept_create_at
kept_create_takes bytes path content acl rest x took is e =
    let P : Type 0 = is_error_part bytes x in
    either _ _ _ x P (λ _ h. kept_container_takes bytes path content acl rest x took is h)
    (either _ _ _ x P (λ _ h. kept_plain_takes bytes path content acl rest x took is h)
    (λ h. kept_ttl_takes bytes path content acl rest x took is h)) e

kept_set_takes : (bytes path : List ℕ) (content : Option (List ℕ)) (rest : List ℕ) (x : NewerPart × List ℕ) → TakesFront bytes (ustring path ++ buffer content) rest → IsPathText path → IsContent content
    → (number_at w32 rest >>= λ version. Ok (part_with parts.Kept (subs.SetData path content version.0), version.1)) ≡ Ok x → is_error_part bytes x
kept_set_takes bytes path content rest x took is filled e =
    let a = first_read _ _ _ int_field rest (λ version. Ok (part_with parts.Kept (subs.SetData path content version.0), version.1)) x took.rest_fits e in
    let all = TakesFront-then bytes (ustring path ++ buffer content) rest (int a.got.0) a.got.1 took a.took in
    let made : NewerPart × List ℕ = (part_with parts.Kept (subs.SetData path content a.got.0), a.got.1) in
    at_ok (is_error_part bytes) made x a.goes (record { took = all; typed = refl; fits = (is, filled, a.fits); form = tt })

kept_content_takes : (bytes path : List ℕ) (content : Option (List ℕ)) (rest : List ℕ) (x : NewerPart × List ℕ) → TakesFront bytes (ustring path ++ buffer content) rest → IsPathText path → IsContent content → kept_content_at path content rest ≡ Ok x → is_error_part bytes x
unfolding kept_content_at
kept_content_takes bytes path content rest x took is filled e =
    let P : Type 0 = is_error_part bytes x in
    either _ _ _ x P (λ _ h. kept_set_takes bytes path content rest x took is filled h)
    (λ h.
    let a = first_read _ _ _ acl_vector_field rest (λ acl. kept_create_at path content acl.0 acl.1) x took.rest_fits h in
    let front = TakesFront-then bytes (ustring path ++ buffer content) rest (acl_vector a.got.0) a.got.1 took a.took in
    kept_create_takes bytes path content a.got.0 a.got.1 x front (is, filled, a.fits) a.goes) e

kept_check_takes : (bytes path rest : List ℕ) (x : NewerPart × List ℕ) → TakesFront bytes (ustring path) rest → IsPathText path
    → (number_at w32 rest >>= λ version. Ok (part_with parts.Kept (subs.Check path version.0), version.1)) ≡ Ok x → is_error_part bytes x
kept_check_takes bytes path rest x took is e =
    let a = first_read _ _ _ int_field rest (λ version. Ok (part_with parts.Kept (subs.Check path version.0), version.1)) x took.rest_fits e in
    let all = TakesFront-then bytes (ustring path) rest (int a.got.0) a.got.1 took a.took in
    let made : NewerPart × List ℕ = (part_with parts.Kept (subs.Check path a.got.0), a.got.1) in
    at_ok (is_error_part bytes) made x a.goes (record { took = all; typed = refl; fits = (is, a.fits); form = tt })

kept_path_takes : (bytes path rest : List ℕ) (x : NewerPart × List ℕ) → TakesFront bytes (ustring path) rest → IsPathText path → kept_path_at path rest ≡ Ok x → is_error_part bytes x
unfolding kept_path_at
kept_path_takes bytes path rest x took is e =
    let P : Type 0 = is_error_part bytes x in
    let deleted : NewerPart × List ℕ = (part_with parts.Kept (subs.Delete path), rest) in
    either _ _ _ x P (λ _ h. at_ok (is_error_part bytes) deleted x h (record { took = took; typed = refl; fits = is; form = tt }))
    (either _ _ _ x P (λ _ h. kept_check_takes bytes path rest x took is h)
    (λ h.
    let a = first_read _ _ _ content_field rest (λ content. kept_content_at path content.0 content.1) x took.rest_fits h in
    kept_content_takes bytes path a.got.0 a.got.1 x (TakesFront-then bytes (ustring path) rest (buffer a.got.0) a.got.1 took a.took) is a.fits a.goes)) e

pub error_takes : (bytes : List ℕ) (x : NewerPart × List ℕ) → IsBytes bytes → error_at bytes ≡ Ok x → is_error_part bytes x
unfolding error_at
error_takes bytes x fits e =
    let P : Type 0 = is_error_part bytes x in
    either _ _ _ x P (λ _ h. made_takes _ _ _ int_field (λ code. part_with parts.Own (subs.Error code)) bytes x (is_error_part bytes) fits h (λ code rest took is. record { took = took; typed = refl; fits = is; form = tt }))
    (λ h.
    let a = first_read _ _ _ path_field bytes (λ path. kept_path_at path.0 path.1) x fits h in
    kept_path_takes bytes a.got.0 a.got.1 x a.took a.fits a.goes) e

-- ---- reading what was written

pub int_alone : (z : ℤ) → FitsSigned w32 z → number_at w32 (int z) ≡ Ok (z, [])
int_alone z is = ap (number_at w32) (sym (append-nil (int z))) ∙ int_field.again z [] is

pub long_alone : (z : ℤ) → FitsSigned w64 z → number_at w64 (long z) ≡ Ok (z, [])
long_alone z is = ap (number_at w64) (sym (append-nil (long z))) ∙ long_field.again z [] is

no_path_is_empty : fault_of [] ≡ None → ⊥
no_path_is_empty e = cc

pub path_filled : (path : List ℕ) → IsPath path → 1 ≤ length path
path_filled [] is = absurd (no_path_is_empty (fault_of-IsPath [] is))
path_filled (b ∷ bs) is = omega arith

content_long : (content : Option (List ℕ)) → 4 ≤ length (buffer content)
content_long None = omega arith
content_long (Some content) = omega (arith, length-append (int (pos (length content))) content)

error_by_path : (path rest : List ℕ) (read : Result (NewerPart × List ℕ) JuteFault) → IsPathText path → kept_path_at path rest ≡ read → error_at (ustring path ++ rest) ≡ read
unfolding error_at
error_by_path path rest read is e =
    let some : 1 ≤ length path = path_filled path is.grammar in
    let long : eqb (length (ustring path ++ rest)) 4 ≡ false = ne_eqb _ _ (λ l. omega (arith, length-append (ustring path) rest, length-append (int (pos (length path))) path, l)) in
    rw (long, path_field.again path rest is) e

path_by_content : (path : List ℕ) (content : Option (List ℕ)) (rest : List ℕ) (read : Result (NewerPart × List ℕ) JuteFault) → IsContent content → 1 ≤ length rest → kept_content_at path content rest ≡ read → kept_path_at path (buffer content ++ rest) ≡ read
unfolding kept_path_at
path_by_content path content rest read is some e =
    let filled : eqb (length (buffer content ++ rest)) 0 ≡ false = ne_eqb _ _ (λ l. omega (arith, length-append (buffer content) rest, content_long content, l)) in
    let long : eqb (length (buffer content ++ rest)) 4 ≡ false = ne_eqb _ _ (λ l. omega (arith, length-append (buffer content) rest, content_long content, l)) in
    rw (filled, long, content_field.again content rest is) e

content_by_acl : (path : List ℕ) (content : Option (List ℕ)) (acl : List Acl) (rest : List ℕ) (read : Result (NewerPart × List ℕ) JuteFault) → AreAcls acl → 1 ≤ length rest → kept_create_at path content acl rest ≡ read → kept_content_at path content (acl_vector acl ++ rest) ≡ read
unfolding kept_content_at
content_by_acl path content acl rest read is some e =
    let long : eqb (length (acl_vector acl ++ rest)) 4 ≡ false = ne_eqb _ _ (λ l. omega (arith, length-append (acl_vector acl) rest, length-append (int (pos (length acl))) (flat_map acl_entry acl), l)) in
    rw (long, acl_vector_field.again acl rest is) e

container_again : (path : List ℕ) (content : Option (List ℕ)) (acl : List Acl) (count : ℤ) → FitsSigned w32 count → kept_create_at path content acl (int count) ≡ Ok (part_with parts.KeptContainer (subs.Create path content acl false count), [])
unfolding kept_create_at kept_container_at
container_again path content acl count is = ap (λ (read : Result (ℤ × List ℕ) JuteFault). read >>= λ count. Ok (part_with parts.KeptContainer (create_part (plain_create path content acl false count.0)), count.1)) (int_alone count is)

plain_again : (path : List ℕ) (content : Option (List ℕ)) (acl : List Acl) (ephemeral : Bool) (count : ℤ) → FitsSigned w32 count → kept_create_at path content acl (boolean ephemeral ++ int count) ≡ Ok (part_with parts.Kept (subs.Create path content acl ephemeral count), [])
unfolding kept_create_at kept_plain_at boolean_at
plain_again path content acl true count is = ap (λ (read : Result (ℤ × List ℕ) JuteFault). read >>= λ count. Ok (part_with parts.Kept (create_part (plain_create path content acl true count.0)), count.1)) (int_alone count is)
plain_again path content acl false count is = ap (λ (read : Result (ℤ × List ℕ) JuteFault). read >>= λ count. Ok (part_with parts.Kept (create_part (plain_create path content acl false count.0)), count.1)) (int_alone count is)

ttl_again : (path : List ℕ) (content : Option (List ℕ)) (acl : List Acl) (count ttl : ℤ) → FitsSigned w32 count → FitsSigned w64 ttl → kept_create_at path content acl (int count ++ long ttl) ≡ Ok (part_with (parts.KeptTtl ttl) (subs.Create path content acl false count), [])
unfolding kept_create_at kept_ttl_at
ttl_again path content acl count ttl is lives =
    ap (λ (read : Result (ℤ × List ℕ) JuteFault). read >>= λ count. number_at w64 count.1 >>= λ ttl. Ok (part_with (parts.KeptTtl ttl.0) (create_part (plain_create path content acl false count.0)), ttl.1)) (int_field.again count (long ttl) is)
    ∙ ap (λ (read : Result (ℤ × List ℕ) JuteFault). read >>= λ ttl. Ok (part_with (parts.KeptTtl ttl.0) (create_part (plain_create path content acl false count)), ttl.1)) (long_alone ttl lives)

regroup4 : (a b c d : List ℕ) → ((a ++ b) ++ c) ++ d ≡ a ++ (b ++ (c ++ d))
regroup4 a b c d = simp append_assoc

regroup5 : (a b c d e : List ℕ) → (((a ++ b) ++ c) ++ d) ++ e ≡ a ++ (b ++ (c ++ (d ++ e)))
regroup5 a b c d e = simp append_assoc

regroup3 : (a b c : List ℕ) → (a ++ b) ++ c ≡ a ++ (b ++ c)
regroup3 a b c = append_assoc a b c

made_again : (path : List ℕ) (content : Option (List ℕ)) (acl : List Acl) (rest : List ℕ) (read : Result (NewerPart × List ℕ) JuteFault) → IsCreateOld path content acl → 1 ≤ length rest → kept_create_at path content acl rest ≡ read → error_at (ustring path ++ (buffer content ++ (acl_vector acl ++ rest))) ≡ read
made_again path content acl rest read is some e =
    error_by_path path (buffer content ++ (acl_vector acl ++ rest)) read is.0
    (path_by_content path content (acl_vector acl ++ rest) read is.1 (omega (arith, length-append (acl_vector acl) rest))
    (content_by_acl path content acl rest read is.2 some e))

pub error_alone : (code : ℤ) → FitsSigned w32 code → error_at (int code) ≡ Ok (part_with parts.Own (subs.Error code), [])
unfolding error_at
error_alone code is = ap (λ (read : Result (ℤ × List ℕ) JuteFault). made_of (λ code. part_with parts.Own (subs.Error code)) read) (int_alone code is)

delete_again : (path : List ℕ) → kept_path_at path [] ≡ Ok (part_with parts.Kept (subs.Delete path), [])
unfolding kept_path_at
delete_again path = refl

check_again : (path : List ℕ) (version : ℤ) → FitsSigned w32 version → kept_path_at path (int version) ≡ Ok (part_with parts.Kept (subs.Check path version), [])
unfolding kept_path_at
check_again path version is = ap (λ (read : Result (ℤ × List ℕ) JuteFault). read >>= λ version. Ok (part_with parts.Kept (subs.Check path version.0), version.1)) (int_alone version is)

set_again : (path : List ℕ) (content : Option (List ℕ)) (version : ℤ) → FitsSigned w32 version → kept_content_at path content (int version) ≡ Ok (part_with parts.Kept (subs.SetData path content version), [])
unfolding kept_content_at
set_again path content version is = ap (λ (read : Result (ℤ × List ℕ) JuteFault). read >>= λ version. Ok (part_with parts.Kept (subs.SetData path content version.0), version.1)) (int_alone version is)

pub kept_again : (sub : Sub) → IsSub sub → IsPartEncoding sub parts.Kept → error_at (written_part_body sub parts.Kept) ≡ Ok (part_with parts.Kept sub, [])
kept_again (subs.Create path content acl ephemeral count) is form =
    ap error_at (regroup5 (ustring path) (buffer content) (acl_vector acl) (boolean ephemeral) (int count))
    ∙ made_again path content acl (boolean ephemeral ++ int count) _ (is.0, is.1, is.2) (omega (arith, length-append (boolean ephemeral) (int count))) (plain_again path content acl ephemeral count is.3)
kept_again (subs.Delete path) is form = ap error_at (sym (append-nil (ustring path))) ∙ error_by_path path [] _ is (delete_again path)
kept_again (subs.SetData path content version) is form =
    ap error_at (regroup3 (ustring path) (buffer content) (int version))
    ∙ error_by_path path (buffer content ++ int version) _ is.0 (path_by_content path content (int version) _ is.1 (omega arith) (set_again path content version is.2))
kept_again (subs.Check path version) is form = error_by_path path (int version) _ is.0 (check_again path version is.1)
kept_again (subs.Error code) is form = absurd form

pub kept_container_again : (sub : Sub) → IsSub sub → IsPartEncoding sub parts.KeptContainer → error_at (written_part_body sub parts.KeptContainer) ≡ Ok (part_with parts.KeptContainer sub, [])
kept_container_again (subs.Create path content acl true count) is form = absurd form
kept_container_again (subs.Create path content acl false count) is form =
    ap error_at (regroup4 (ustring path) (buffer content) (acl_vector acl) (int count))
    ∙ made_again path content acl (int count) _ (is.0, is.1, is.2) (omega arith) (container_again path content acl count is.3)
kept_container_again (subs.Delete path) is form = absurd form
kept_container_again (subs.SetData path content version) is form = absurd form
kept_container_again (subs.Check path version) is form = absurd form
kept_container_again (subs.Error code) is form = absurd form

pub kept_ttl_again : (sub : Sub) (ttl : ℤ) → IsSub sub → IsPartEncoding sub (parts.KeptTtl ttl) → error_at (written_part_body sub (parts.KeptTtl ttl)) ≡ Ok (part_with (parts.KeptTtl ttl) sub, [])
kept_ttl_again (subs.Create path content acl true count) ttl is form = absurd form.0
kept_ttl_again (subs.Create path content acl false count) ttl is form =
    ap error_at (regroup5 (ustring path) (buffer content) (acl_vector acl) (int count) (long ttl))
    ∙ made_again path content acl (int count ++ long ttl) _ (is.0, is.1, is.2) (omega (arith, length-append (int count) (long ttl))) (ttl_again path content acl count ttl is.3 form.1)
kept_ttl_again (subs.Delete path) ttl is form = absurd form.0
kept_ttl_again (subs.SetData path content version) ttl is form = absurd form.0
kept_ttl_again (subs.Check path version) ttl is form = absurd form.0
kept_ttl_again (subs.Error code) ttl is form = absurd form.0
