-- Operations and the parts of a multi.
use Rattle.std.proofs.Common.{◌≡◌, ℕ, zero, suc, ℤ, ◌≤◌, ◌<◌, Bool, true, false, cond, eqb, get_or, List, [], ◌∷◌, ◌++◌, length, Option, Some, None, refl, sym, ap, subst, ◌∙◌, append_assoc, length-append, arith}
use Rattle.std.specs.Prelude.{FitsSigned}
use Rattle.std.specs.Fmt.{signed_decimal}
use Rattle.std.specs.Int.{w32}
use Rattle.std.specs.List.{AllByRecursion, flat_map}
use Rattle.std.specs.Option.{option_and_then}
use Rattle.zk_acl.specs.declared.acl.Acl.{Acl}
use Rattle.zk_table.specs.declared.txn.Op.{Op}
use Rattle.zk_table.specs.declared.txn.Op.TheVariants as op
use Rattle.zk_table.specs.declared.sub.Sub.{Sub}
use Rattle.zk_table.specs.declared.sub.Sub.TheVariants as sub
use Rattle.zk_listing.specs.declared.ops.Created.{Created}
use Rattle.zk_listing.specs.declared.ops.Written.{Written}
use Rattle.zk_listing.specs.declared.ops.Word.{Word}
use Rattle.zk_listing.specs.declared.ops.Word.TheVariants as words
use Rattle.zk_listing.specs.declared.list_fault.ListCause.{ListCause}
use Rattle.zk_format.specs.Spelling.{quoted, content_text, acl_text}
use Rattle.zk_format.specs.Listings.{ephemeral_text, sub_text, part_text, op_text, IsListedPath, IsListedContent, AreListedAcls, IsListedSub, IsListedOp}
use Rattle.zk_listing.specs.Reading.{IsEnd, behind, both, spaced, mapped, of_field, int_at, path_at, content_at, content_from, acl_at, ephemeral_at, ephemeral_from, word_at, word_from, semicolon_from, created_of, create_at, create_old_op_at, written_of, set_data_at, set_acl_op_at, check_at, sub_created, sub_written, sub_by, sub_at, part_at, begins_with_space, parts_at, parts_in, op_created, op_written, op_by, op_at, Fails}
use Rattle.zk_listing.proofs.Exact.{IsExact, bind_some, first_is, second_is, exact_field, exact_spaced, exact_both, exact_mapped}
use Rattle.zk_listing.proofs.DecimalLaws.{narrow32}
use Rattle.zk_listing.proofs.HexLaws.{content_field}
use Rattle.zk_listing.proofs.QuotedLaws.{path_exact, behind_is}
use Rattle.zk_listing.proofs.InsideQuotes.{Fails-then}
use Rattle.zk_listing.proofs.WordLaws.{word_text, word_field, ephemeral_field, semicolon_text, semicolon_field, Always}
use Rattle.zk_listing.proofs.AclLaws.{int_exact, acl_exact, AreTaken, taken_first, none_taken, end_of_many, BeginsWithEnd}

-- ---- fields after a space

abbrev Spaced : {X : Type 0} → (X → List ℕ) → X → List ℕ
Spaced text x = 32 ∷ text x

spaced_path_exact : IsExact (λ (x : List ℕ). 32 ∷ quoted x) IsListedPath (spaced path_at)
spaced_path_exact = exact_spaced quoted IsListedPath path_at path_exact

pub content_exact : IsExact content_text IsListedContent content_at
unfolding content_at
content_exact =
    let f = exact_field content_text IsListedContent content_from content_field in
    record { takes = λ bytes x rest h. f.takes bytes x rest h; again = λ x rest fits e. f.again x rest fits e }

spaced_content_exact : IsExact (λ (x : Option (List ℕ)). 32 ∷ content_text x) IsListedContent (spaced content_at)
spaced_content_exact = exact_spaced content_text IsListedContent content_at content_exact

spaced_acl_exact : IsExact (λ (x : List Acl). 32 ∷ acl_text x) AreListedAcls (spaced acl_at)
spaced_acl_exact = exact_spaced acl_text AreListedAcls acl_at acl_exact

spaced_int_exact : IsExact (λ (x : ℤ). 32 ∷ signed_decimal x) (FitsSigned w32) (spaced (int_at w32))
spaced_int_exact = exact_spaced signed_decimal (FitsSigned w32) (int_at w32) (int_exact w32 narrow32)

spaced_ephemeral_exact : IsExact (λ (x : Bool). 32 ∷ ephemeral_text x) Always (spaced ephemeral_at)
unfolding ephemeral_at
spaced_ephemeral_exact =
    let f = exact_spaced ephemeral_text Always (of_field ephemeral_from) (exact_field ephemeral_text Always ephemeral_from ephemeral_field) in
    record { takes = λ bytes x rest h. f.takes bytes x rest h; again = λ x rest fits e. f.again x rest fits e }

pub word_exact : IsExact word_text Always word_at
unfolding word_at
word_exact =
    let f = exact_field word_text Always word_from word_field in
    record { takes = λ bytes x rest h. f.takes bytes x rest h; again = λ x rest fits e. f.again x rest fits e }

-- ---- the fields of operations

abbrev created_text : Created → List ℕ
created_text x = 32 ∷ quoted x.path ++ 32 ∷ content_text x.content ++ 32 ∷ acl_text x.acl ++ 32 ∷ ephemeral_text x.ephemeral ++ 32 ∷ signed_decimal x.count

abbrev IsCreated : Created → Type 0
IsCreated x = IsListedPath x.path × IsListedContent x.content × AreListedAcls x.acl × FitsSigned w32 x.count

abbrev CreatedFields : Type 0
CreatedFields = List ℕ × (Option (List ℕ) × (List Acl × (Bool × ℤ)))

regroup5 : (a b c d e : List ℕ) → (((a ++ b) ++ c) ++ d) ++ e ≡ a ++ (b ++ (c ++ (d ++ e)))
regroup5 a b c d e = simp append_assoc

create_exact : IsExact created_text IsCreated create_at
unfolding create_at
create_exact =
    let two = exact_both (λ (x : Bool). 32 ∷ ephemeral_text x) Always (spaced ephemeral_at) (λ (x : ℤ). 32 ∷ signed_decimal x) (FitsSigned w32) (spaced (int_at w32)) spaced_ephemeral_exact spaced_int_exact (λ y rest. refl) in
    let three = exact_both (λ (x : List Acl). 32 ∷ acl_text x) AreListedAcls (spaced acl_at) (λ (p : Bool × ℤ). (32 ∷ ephemeral_text p.0) ++ (32 ∷ signed_decimal p.1)) (λ p. Always p.0 × FitsSigned w32 p.1) (both (spaced ephemeral_at) (spaced (int_at w32))) spaced_acl_exact two (λ y rest. refl) in
    let four = exact_both (λ (x : Option (List ℕ)). 32 ∷ content_text x) IsListedContent (spaced content_at) (λ (p : List Acl × (Bool × ℤ)). (32 ∷ acl_text p.0) ++ ((32 ∷ ephemeral_text p.1.0) ++ (32 ∷ signed_decimal p.1.1))) (λ p. AreListedAcls p.0 × (Always p.1.0 × FitsSigned w32 p.1.1)) (both (spaced acl_at) (both (spaced ephemeral_at) (spaced (int_at w32)))) spaced_content_exact three (λ y rest. refl) in
    let five = exact_both (λ (x : List ℕ). 32 ∷ quoted x) IsListedPath (spaced path_at) (λ (p : Option (List ℕ) × (List Acl × (Bool × ℤ))). (32 ∷ content_text p.0) ++ ((32 ∷ acl_text p.1.0) ++ ((32 ∷ ephemeral_text p.1.1.0) ++ (32 ∷ signed_decimal p.1.1.1)))) (λ p. IsListedContent p.0 × (AreListedAcls p.1.0 × (Always p.1.1.0 × FitsSigned w32 p.1.1.1))) (both (spaced content_at) (both (spaced acl_at) (both (spaced ephemeral_at) (spaced (int_at w32))))) spaced_path_exact four (λ y rest. refl) in
    let back : Created → CreatedFields = λ x. (x.path, (x.content, (x.acl, (x.ephemeral, x.count)))) in
    let f = exact_mapped {X = CreatedFields} {Y = Created} (λ x. (32 ∷ quoted x.0) ++ ((32 ∷ content_text x.1.0) ++ ((32 ∷ acl_text x.1.1.0) ++ ((32 ∷ ephemeral_text x.1.1.1.0) ++ (32 ∷ signed_decimal x.1.1.1.1))))) (λ x. IsListedPath x.0 × (IsListedContent x.1.0 × (AreListedAcls x.1.1.0 × (Always x.1.1.1.0 × FitsSigned w32 x.1.1.1.1)))) (both (spaced path_at) (both (spaced content_at) (both (spaced acl_at) (both (spaced ephemeral_at) (spaced (int_at w32)))))) created_text IsCreated created_of back five (λ x. refl) (λ x. regroup5 (32 ∷ quoted x.0) (32 ∷ content_text x.1.0) (32 ∷ acl_text x.1.1.0) (32 ∷ ephemeral_text x.1.1.1.0) (32 ∷ signed_decimal x.1.1.1.1)) (λ x fits. (fits.0, fits.1.0, fits.1.1.0, fits.1.1.1.1)) (λ x fits. (fits.0, (fits.1, (fits.2, (tt, fits.3))))) in
    record { takes = λ bytes x rest h. f.takes bytes x rest h; again = λ x rest fits e. f.again x rest fits e }

abbrev written_text : Written → List ℕ
written_text x = 32 ∷ quoted x.path ++ 32 ∷ content_text x.content ++ 32 ∷ signed_decimal x.version

abbrev IsWritten : Written → Type 0
IsWritten x = IsListedPath x.path × IsListedContent x.content × FitsSigned w32 x.version

set_data_exact : IsExact written_text IsWritten set_data_at
unfolding set_data_at
set_data_exact =
    let two = exact_both (λ (x : Option (List ℕ)). 32 ∷ content_text x) IsListedContent (spaced content_at) (λ (x : ℤ). 32 ∷ signed_decimal x) (FitsSigned w32) (spaced (int_at w32)) spaced_content_exact spaced_int_exact (λ y rest. refl) in
    let three = exact_both (λ (x : List ℕ). 32 ∷ quoted x) IsListedPath (spaced path_at) (λ (p : Option (List ℕ) × ℤ). (32 ∷ content_text p.0) ++ (32 ∷ signed_decimal p.1)) (λ p. IsListedContent p.0 × FitsSigned w32 p.1) (both (spaced content_at) (spaced (int_at w32))) spaced_path_exact two (λ y rest. refl) in
    let back : Written → List ℕ × (Option (List ℕ) × ℤ) = λ x. (x.path, (x.content, x.version)) in
    let f = exact_mapped {X = List ℕ × (Option (List ℕ) × ℤ)} {Y = Written} (λ x. (32 ∷ quoted x.0) ++ ((32 ∷ content_text x.1.0) ++ (32 ∷ signed_decimal x.1.1))) (λ x. IsListedPath x.0 × (IsListedContent x.1.0 × FitsSigned w32 x.1.1)) (both (spaced path_at) (both (spaced content_at) (spaced (int_at w32)))) written_text IsWritten written_of back three (λ x. refl) (λ x. append_assoc (32 ∷ quoted x.0) (32 ∷ content_text x.1.0) (32 ∷ signed_decimal x.1.1)) (λ x fits. (fits.0, fits.1.0, fits.1.1)) (λ x fits. (fits.0, (fits.1, fits.2))) in
    record { takes = λ bytes x rest h. f.takes bytes x rest h; again = λ x rest fits e. f.again x rest fits e }

abbrev AclFields : Type 0
AclFields = List ℕ × (List Acl × ℤ)

set_acl_fields : IsExact {X = AclFields} (λ x. (32 ∷ quoted x.0) ++ ((32 ∷ acl_text x.1.0) ++ (32 ∷ signed_decimal x.1.1))) (λ x. IsListedPath x.0 × (AreListedAcls x.1.0 × FitsSigned w32 x.1.1)) (both (spaced path_at) (both (spaced acl_at) (spaced (int_at w32))))
set_acl_fields =
    let two = exact_both (λ (x : List Acl). 32 ∷ acl_text x) AreListedAcls (spaced acl_at) (λ (x : ℤ). 32 ∷ signed_decimal x) (FitsSigned w32) (spaced (int_at w32)) spaced_acl_exact spaced_int_exact (λ y rest. refl) in
    exact_both (λ (x : List ℕ). 32 ∷ quoted x) IsListedPath (spaced path_at) (λ (p : List Acl × ℤ). (32 ∷ acl_text p.0) ++ (32 ∷ signed_decimal p.1)) (λ p. AreListedAcls p.0 × FitsSigned w32 p.1) (both (spaced acl_at) (spaced (int_at w32))) spaced_path_exact two (λ y rest. refl)

abbrev OldFields : Type 0
OldFields = List ℕ × (Option (List ℕ) × (List Acl × Bool))

create_old_fields : IsExact {X = OldFields} (λ x. (32 ∷ quoted x.0) ++ ((32 ∷ content_text x.1.0) ++ ((32 ∷ acl_text x.1.1.0) ++ (32 ∷ ephemeral_text x.1.1.1)))) (λ x. IsListedPath x.0 × (IsListedContent x.1.0 × (AreListedAcls x.1.1.0 × Always x.1.1.1))) (both (spaced path_at) (both (spaced content_at) (both (spaced acl_at) (spaced ephemeral_at))))
create_old_fields =
    let two = exact_both (λ (x : List Acl). 32 ∷ acl_text x) AreListedAcls (spaced acl_at) (λ (x : Bool). 32 ∷ ephemeral_text x) Always (spaced ephemeral_at) spaced_acl_exact spaced_ephemeral_exact (λ y rest. refl) in
    let three = exact_both (λ (x : Option (List ℕ)). 32 ∷ content_text x) IsListedContent (spaced content_at) (λ (p : List Acl × Bool). (32 ∷ acl_text p.0) ++ (32 ∷ ephemeral_text p.1)) (λ p. AreListedAcls p.0 × Always p.1) (both (spaced acl_at) (spaced ephemeral_at)) spaced_content_exact two (λ y rest. refl) in
    exact_both (λ (x : List ℕ). 32 ∷ quoted x) IsListedPath (spaced path_at) (λ (p : Option (List ℕ) × (List Acl × Bool)). (32 ∷ content_text p.0) ++ ((32 ∷ acl_text p.1.0) ++ (32 ∷ ephemeral_text p.1.1))) (λ p. IsListedContent p.0 × (AreListedAcls p.1.0 × Always p.1.1)) (both (spaced content_at) (both (spaced acl_at) (spaced ephemeral_at))) spaced_path_exact three (λ y rest. refl)

old_texts : (a b c d rest : List ℕ) → (a ++ (b ++ (c ++ d))) ++ rest ≡ (((a ++ b) ++ c) ++ d) ++ rest
old_texts a b c d rest = simp append_assoc

check_fields : IsExact {X = List ℕ × ℤ} (λ x. (32 ∷ quoted x.0) ++ (32 ∷ signed_decimal x.1)) (λ x. IsListedPath x.0 × FitsSigned w32 x.1) (both (spaced path_at) (spaced (int_at w32)))
check_fields = exact_both (λ (x : List ℕ). 32 ∷ quoted x) IsListedPath (spaced path_at) (λ (x : ℤ). 32 ∷ signed_decimal x) (FitsSigned w32) (spaced (int_at w32)) spaced_path_exact spaced_int_exact (λ y rest. refl)

-- ---- after a word

-- a value read after a word, and the text of the word and the value
pub record IsMade {Y : Type 0} (text : Y → List ℕ) (Fits : Y → Type 0) (word : Word) (bytes : List ℕ) (y : Y) (rest : List ℕ) : Type 0 where
  pub fits : Fits y
  pub spelled : word_text word ++ bytes ≡ text y ++ rest

by_fields : {X Y : Type 0} (text : Y → List ℕ) (Fits : Y → Type 0) (word : Word) (s : X → List ℕ) (F : X → Type 0) (at : List ℕ → Option (X × List ℕ)) (to : X → Y) → IsExact s F at → ((x : X) (rest : List ℕ) → word_text word ++ (s x ++ rest) ≡ text (to x) ++ rest) → ((x : X) → F x → Fits (to x)) → (bytes : List ℕ) (y : Y) (rest : List ℕ) → mapped to at bytes ≡ Some (y, rest) → IsMade text Fits word bytes y rest
by_fields {X} {Y} text Fits word s F at to f texts fits bytes y rest h =
    let p = bind_some {B = Y × List ℕ} (at bytes) (λ v. Some (to v.0, v.1)) (y, rest) h in
    let value : to p.0.0 ≡ y = first_is (to p.0.0, p.0.1) (y, rest) p.2 in
    let left : p.0.1 ≡ rest = second_is (to p.0.0, p.0.1) (y, rest) p.2 in
    let found = f.takes bytes p.0.0 p.0.1 p.1 in
    let one : IsMade text Fits word bytes (to p.0.0) p.0.1 = record { fits = fits p.0.0 found.0; spelled = ap (λ (b : List ℕ). word_text word ++ b) found.1 ∙ texts p.0.0 p.0.1 } in
    let P : Y → Type 0 = λ v. IsMade text Fits word bytes v p.0.1 in
    let Q : List ℕ → Type 0 = λ r. IsMade text Fits word bytes y r in
    subst Q left (subst P value one)

no_such : {Y : Type 0} {A : Type 0} (y : Y) → None ≡ Some y → A
no_such y h = absurd (let bad : None ≡ Some y = h in cc)

set_acl_texts : (a b c rest : List ℕ) → (a ++ (b ++ c)) ++ rest ≡ ((a ++ b) ++ c) ++ rest
set_acl_texts a b c rest = simp append_assoc

sub_by_takes : (word : Word) (bytes : List ℕ) (y : Sub) (rest : List ℕ) → sub_by word bytes ≡ Some (y, rest) → IsMade sub_text IsListedSub word bytes y rest
unfolding sub_by check_at
sub_by_takes words.Create bytes y rest h = by_fields sub_text IsListedSub words.Create created_text IsCreated create_at sub_created create_exact (λ x r. refl) (λ x fits. fits) bytes y rest h
sub_by_takes words.Delete bytes y rest h = by_fields sub_text IsListedSub words.Delete (λ (x : List ℕ). 32 ∷ quoted x) IsListedPath (spaced path_at) sub.Delete spaced_path_exact (λ x r. refl) (λ x fits. fits) bytes y rest h
sub_by_takes words.SetData bytes y rest h = by_fields sub_text IsListedSub words.SetData written_text IsWritten set_data_at sub_written set_data_exact (λ x r. refl) (λ x fits. fits) bytes y rest h
sub_by_takes words.Check bytes y rest h = by_fields {X = List ℕ × ℤ} sub_text IsListedSub words.Check (λ x. (32 ∷ quoted x.0) ++ (32 ∷ signed_decimal x.1)) (λ x. IsListedPath x.0 × FitsSigned w32 x.1) (both (spaced path_at) (spaced (int_at w32))) (λ x. sub.Check x.0 x.1) check_fields (λ x r. refl) (λ x fits. fits) bytes y rest h
sub_by_takes words.Error bytes y rest h = by_fields sub_text IsListedSub words.Error (λ (x : ℤ). 32 ∷ signed_decimal x) (FitsSigned w32) (spaced (int_at w32)) sub.Error spaced_int_exact (λ x r. refl) (λ x fits. fits) bytes y rest h
sub_by_takes words.CreateOld bytes y rest h = no_such (y, rest) h
sub_by_takes words.SetAcl bytes y rest h = no_such (y, rest) h
sub_by_takes words.CreateSession bytes y rest h = no_such (y, rest) h
sub_by_takes words.CloseSession bytes y rest h = no_such (y, rest) h
sub_by_takes words.Multi bytes y rest h = no_such (y, rest) h

sub_by_again_fields : {X : Type 0} (s : X → List ℕ) (F : X → Type 0) (at : List ℕ → Option (X × List ℕ)) (to : X → Sub) → IsExact s F at → (x : X) (rest : List ℕ) → F x → IsEnd rest → mapped to at (s x ++ rest) ≡ Some (to x, rest)
sub_by_again_fields s F at to f x rest fits e = rw (f.again x rest fits e) refl

op_by_again_fields : {X : Type 0} (s : X → List ℕ) (F : X → Type 0) (at : List ℕ → Option (X × List ℕ)) (to : X → Op) → IsExact s F at → (x : X) (rest : List ℕ) → F x → IsEnd rest → mapped to at (s x ++ rest) ≡ Some (to x, rest)
op_by_again_fields s F at to f x rest fits e = rw (f.again x rest fits e) refl

-- a space, a word, and the bytes after it
sub_after_word : (word : Word) (behind_it bytes : List ℕ) (y : Sub) (rest : List ℕ) → IsEnd behind_it → sub_by word behind_it ≡ Some (y, rest) → bytes ≡ 32 ∷ (word_text word ++ behind_it) → sub_at bytes ≡ Some (y, rest)
unfolding sub_at
sub_after_word word behind_it bytes y rest e h spelled = rw (spelled, word_exact.again word behind_it tt e) h

sub_at_again : (y : Sub) (rest : List ℕ) → IsListedSub y → IsEnd rest → sub_at (32 ∷ (sub_text y ++ rest)) ≡ Some (y, rest)
unfolding sub_by check_at
sub_at_again (sub.Create path content acl ephemeral count) rest fits e =
    let x : Created = record { path = path; content = content; acl = acl; ephemeral = ephemeral; count = count } in
    sub_after_word words.Create (created_text x ++ rest) (32 ∷ (sub_text (sub_created x) ++ rest)) (sub_created x) rest refl (sub_by_again_fields created_text IsCreated create_at sub_created create_exact x rest fits e) refl
sub_at_again (sub.Delete path) rest fits e =
    sub_after_word words.Delete ((32 ∷ quoted path) ++ rest) (32 ∷ (sub_text (sub.Delete path) ++ rest)) (sub.Delete path) rest refl (sub_by_again_fields (λ (x : List ℕ). 32 ∷ quoted x) IsListedPath (spaced path_at) sub.Delete spaced_path_exact path rest fits e) refl
sub_at_again (sub.SetData path content version) rest fits e =
    let x : Written = record { path = path; content = content; version = version } in
    sub_after_word words.SetData (written_text x ++ rest) (32 ∷ (sub_text (sub_written x) ++ rest)) (sub_written x) rest refl (sub_by_again_fields written_text IsWritten set_data_at sub_written set_data_exact x rest fits e) refl
sub_at_again (sub.Check path version) rest fits e =
    let x : List ℕ × ℤ = (path, version) in
    sub_after_word words.Check (((32 ∷ quoted path) ++ (32 ∷ signed_decimal version)) ++ rest) (32 ∷ (sub_text (sub.Check path version) ++ rest)) (sub.Check path version) rest refl (sub_by_again_fields {X = List ℕ × ℤ} (λ v. (32 ∷ quoted v.0) ++ (32 ∷ signed_decimal v.1)) (λ v. IsListedPath v.0 × FitsSigned w32 v.1) (both (spaced path_at) (spaced (int_at w32))) (λ v. sub.Check v.0 v.1) check_fields x rest fits e) refl
sub_at_again (sub.Error code) rest fits e =
    sub_after_word words.Error ((32 ∷ signed_decimal code) ++ rest) (32 ∷ (sub_text (sub.Error code) ++ rest)) (sub.Error code) rest refl (sub_by_again_fields (λ (x : ℤ). 32 ∷ signed_decimal x) (FitsSigned w32) (spaced (int_at w32)) sub.Error spaced_int_exact code rest fits e) refl

sub_at_takes : (bytes : List ℕ) (y : Sub) (rest : List ℕ) → sub_at bytes ≡ Some (y, rest) → IsListedSub y × (bytes ≡ 32 ∷ (sub_text y ++ rest))
unfolding sub_at
sub_at_takes bytes y rest h =
    let spaced_word = exact_spaced word_text Always word_at word_exact in
    let p = bind_some {B = Sub × List ℕ} (spaced word_at bytes) (λ w. sub_by w.0 w.1) (y, rest) h in
    let word = spaced_word.takes bytes p.0.0 p.0.1 p.1 in
    let made = sub_by_takes p.0.0 p.0.1 y rest p.2 in
    (made.fits, word.1 ∙ ap (λ (b : List ℕ). 32 ∷ b) made.spelled)

-- ---- parts

-- the first byte, 0 for an empty text, shows whether a text starts with a space
pub begins_first : (text : List ℕ) → begins_with_space text ≡ eqb (get_or text 0 0) 32
begins_first [] = refl
begins_first (b ∷ bs) = refl

spaced_semicolon : IsExact (λ (x : Unit {0}). 32 ∷ semicolon_text x) Always (spaced (of_field semicolon_from))
spaced_semicolon = exact_spaced semicolon_text Always (of_field semicolon_from) (exact_field semicolon_text Always semicolon_from semicolon_field)

pub part_exact : IsExact part_text IsListedSub part_at
unfolding part_at
part_exact = record {
  takes = λ bytes y rest h.
      let p = bind_some {B = Sub × List ℕ} (spaced (of_field semicolon_from) bytes) (λ s. sub_at s.1) (y, rest) h in
      let semicolon = spaced_semicolon.takes bytes p.0.0 p.0.1 p.1 in
      let found = sub_at_takes p.0.1 y rest p.2 in
      (found.0, semicolon.1 ∙ ap (λ (b : List ℕ). 32 ∷ 59 ∷ b) found.1);
  again = λ y rest fits e.
      rw (spaced_semicolon.again tt (32 ∷ (sub_text y ++ rest)) tt refl) (sub_at_again y rest fits e);
}

part_shorter : (bytes : List ℕ) (y : Sub) (rest : List ℕ) → part_at bytes ≡ Some (y, rest) → length rest < length bytes
part_shorter bytes y rest h =
    let found = part_exact.takes bytes y rest h in
    omega (arith, ap length found.1, length-append (part_text y) rest)

same_part : (n m : ℕ) (bytes : List ℕ) (x : Option (Sub × List ℕ)) → part_at bytes ≡ x → ((rest : List ℕ) → length rest < length bytes → parts_at n rest ≡ parts_at m rest) → option_and_then (λ y. behind (y.0 ∷ []) (parts_at n y.1)) x ≡ option_and_then (λ y. behind (y.0 ∷ []) (parts_at m y.1)) x
same_part n m bytes None e same = refl
same_part n m bytes (Some y) e same = ap (behind (y.0 ∷ [])) (same y.1 (part_shorter bytes y.0 y.1 e))

-- more iterations than bytes change nothing
pub parts_more : (n m : ℕ) (bytes : List ℕ) → length bytes ≤ n → length bytes ≤ m → parts_at n bytes ≡ parts_at m bytes
unfolding parts_at
parts_more zero zero bytes h k = refl
parts_more zero (suc m) [] h k = refl
parts_more zero (suc m) (b ∷ bs) h k = absurd (omega arith)
parts_more (suc n) zero [] h k = refl
parts_more (suc n) zero (b ∷ bs) h k = absurd (omega arith)
parts_more (suc n) (suc m) bytes h k =
    let same = same_part n m bytes (part_at bytes) refl (λ rest shorter. parts_more n m rest (omega arith) (omega arith)) in
    ap (λ (v : Option (List Sub × List ℕ)). cond (begins_with_space bytes) v (Some ([], bytes))) same

parts_turn : (n : ℕ) (bytes : List ℕ) → length bytes ≤ suc n → begins_with_space bytes ≡ true → parts_in bytes ≡ option_and_then (λ y. behind (y.0 ∷ []) (parts_at n y.1)) (part_at bytes)
unfolding parts_at
parts_turn n bytes le space = parts_more (length bytes) (suc n) bytes (omega arith) le ∙ rw space refl

pub parts_end : (bytes : List ℕ) → begins_with_space bytes ≡ false → parts_in bytes ≡ Some ([], bytes)
unfolding parts_at
parts_end [] space = refl
parts_end (b ∷ bs) space = rw space refl

pub parts_fail : (cause : ListCause) (bytes : List ℕ) → begins_with_space bytes ≡ true → Fails cause (part_at bytes) → Fails cause (parts_in bytes)
parts_fail cause bytes space fails =
    Fails-then cause (part_at bytes) (parts_in bytes) (λ none. parts_turn (length bytes) bytes (omega arith) space ∙ ap (option_and_then (λ y. behind (y.0 ∷ []) (parts_at (length bytes) y.1))) none) fails

pub record IsPartStep (bytes rest : List ℕ) (y : Sub) : Type 0 where
  pub shorter : length rest < length bytes
  pub same : parts_in bytes ≡ behind (y ∷ []) (parts_in rest)

pub parts_step : (bytes rest : List ℕ) (y : Sub) → begins_with_space bytes ≡ true → part_at bytes ≡ Some (y, rest) → IsPartStep bytes rest y
parts_step bytes rest y space h =
    let shorter = part_shorter bytes y rest h in
    let turn = parts_turn (length bytes) bytes (omega arith) space in
    record {
      shorter = shorter;
      same = turn ∙ ap (option_and_then (λ v. behind (v.0 ∷ []) (parts_at (length bytes) v.1))) h ∙ ap (behind (y ∷ [])) (parts_more (length bytes) (length rest) rest (omega arith) (omega arith));
    }

parts_take : (n : ℕ) (bytes : List ℕ) (xs : List Sub) (rest : List ℕ) → parts_at n bytes ≡ Some (xs, rest) → AreTaken part_text IsListedSub bytes xs rest
unfolding parts_at
parts_take zero bytes xs rest h = none_taken part_text IsListedSub bytes xs rest h
parts_take (suc n) bytes xs rest h = by_space (begins_with_space bytes) h (λ after y left e. parts_take n after y left e)
  where
    by_space : (space : Bool) → cond space (option_and_then (λ y. behind (y.0 ∷ []) (parts_at n y.1)) (part_at bytes)) (Some ([], bytes)) ≡ Some (xs, rest) → ((after : List ℕ) (y : List Sub) (left : List ℕ) → parts_at n after ≡ Some (y, left) → AreTaken part_text IsListedSub after y left) → AreTaken part_text IsListedSub bytes xs rest
    by_space true h others =
        let p = bind_some {B = List Sub × List ℕ} (part_at bytes) (λ y. behind (y.0 ∷ []) (parts_at n y.1)) (xs, rest) h in
        let y = behind_is (p.0.0 ∷ []) (parts_at n p.0.1) (xs, rest) p.2 in
        let one = part_exact.takes bytes p.0.0 p.0.1 p.1 in
        taken_first part_text IsListedSub bytes p.0.1 p.0.0 y.0 xs rest one.0 one.1 (others p.0.1 y.0.0 y.0.1 y.1) y.2 y.3
    by_space false h others = none_taken part_text IsListedSub bytes xs rest h

part_ends : BeginsWithEnd part_text
part_ends y rest = refl

parts_again : (xs : List Sub) (rest : List ℕ) → AllByRecursion IsListedSub xs → IsEnd rest → begins_with_space rest ≡ false → parts_in (flat_map part_text xs ++ rest) ≡ Some (xs, rest)
parts_again [] rest fits e last = parts_end rest last
parts_again (y ∷ xs) rest fits e last =
    let others = flat_map part_text xs ++ rest in
    let whole : flat_map part_text (y ∷ xs) ++ rest ≡ part_text y ++ others = append_assoc (part_text y) (flat_map part_text xs) rest in
    let found = part_exact.again y others fits.0 (end_of_many part_text part_ends xs rest e) in
    let step = parts_step (part_text y ++ others) others y refl found in
    ap parts_in whole ∙ step.same ∙ ap (behind (y ∷ [])) (parts_again xs rest fits.1 e last)

-- ---- operations

parts_made : (bytes : List ℕ) (y : Op) (rest : List ℕ) → mapped op.Multi parts_in bytes ≡ Some (y, rest) → IsMade op_text IsListedOp words.Multi bytes y rest
parts_made bytes y rest h =
    let p = bind_some {B = Op × List ℕ} (parts_in bytes) (λ v. Some (op.Multi v.0, v.1)) (y, rest) h in
    let value : op.Multi p.0.0 ≡ y = first_is (op.Multi p.0.0, p.0.1) (y, rest) p.2 in
    let left : p.0.1 ≡ rest = second_is (op.Multi p.0.0, p.0.1) (y, rest) p.2 in
    let found = parts_take (length bytes) bytes p.0.0 p.0.1 p.1 in
    let one : IsMade op_text IsListedOp words.Multi bytes (op.Multi p.0.0) p.0.1 = record { fits = found.fits; spelled = ap (λ (b : List ℕ). word_text words.Multi ++ b) found.spelled } in
    let P : Op → Type 0 = λ v. IsMade op_text IsListedOp words.Multi bytes v p.0.1 in
    let Q : List ℕ → Type 0 = λ r. IsMade op_text IsListedOp words.Multi bytes y r in
    subst Q left (subst P value one)

closed_made : (bytes : List ℕ) (y : Op) (rest : List ℕ) → ◌≡◌ {A = Option (Op × List ℕ)} (Some (op.CloseSession, bytes)) (Some (y, rest)) → IsMade op_text IsListedOp words.CloseSession bytes y rest
closed_made bytes y rest h =
    let value : op.CloseSession ≡ y = first_is (op.CloseSession, bytes) (y, rest) h in
    let left : bytes ≡ rest = second_is (op.CloseSession, bytes) (y, rest) h in
    let one : IsMade op_text IsListedOp words.CloseSession bytes op.CloseSession bytes = record { fits = tt; spelled = refl } in
    let P : Op → Type 0 = λ v. IsMade op_text IsListedOp words.CloseSession bytes v bytes in
    let Q : List ℕ → Type 0 = λ r. IsMade op_text IsListedOp words.CloseSession bytes y r in
    subst Q left (subst P value one)

set_acl_text_of : AclFields → List ℕ
set_acl_text_of x = (32 ∷ quoted x.0) ++ ((32 ∷ acl_text x.1.0) ++ (32 ∷ signed_decimal x.1.1))

op_by_takes : (word : Word) (bytes : List ℕ) (y : Op) (rest : List ℕ) → op_by word bytes ≡ Some (y, rest) → IsMade op_text IsListedOp word bytes y rest
unfolding op_by set_acl_op_at create_old_op_at
op_by_takes words.Create bytes y rest h = by_fields op_text IsListedOp words.Create created_text IsCreated create_at op_created create_exact (λ x r. refl) (λ x fits. fits) bytes y rest h
op_by_takes words.Delete bytes y rest h = by_fields op_text IsListedOp words.Delete (λ (x : List ℕ). 32 ∷ quoted x) IsListedPath (spaced path_at) op.Delete spaced_path_exact (λ x r. refl) (λ x fits. fits) bytes y rest h
op_by_takes words.SetData bytes y rest h = by_fields op_text IsListedOp words.SetData written_text IsWritten set_data_at op_written set_data_exact (λ x r. refl) (λ x fits. fits) bytes y rest h
op_by_takes words.CreateOld bytes y rest h = by_fields {X = OldFields} op_text IsListedOp words.CreateOld (λ x. (32 ∷ quoted x.0) ++ ((32 ∷ content_text x.1.0) ++ ((32 ∷ acl_text x.1.1.0) ++ (32 ∷ ephemeral_text x.1.1.1)))) (λ x. IsListedPath x.0 × (IsListedContent x.1.0 × (AreListedAcls x.1.1.0 × Always x.1.1.1))) (both (spaced path_at) (both (spaced content_at) (both (spaced acl_at) (spaced ephemeral_at)))) (λ x. op.CreateOld x.0 x.1.0 x.1.1.0 x.1.1.1) create_old_fields (λ x r. ap (λ (b : List ℕ). word_text words.CreateOld ++ b) (old_texts (32 ∷ quoted x.0) (32 ∷ content_text x.1.0) (32 ∷ acl_text x.1.1.0) (32 ∷ ephemeral_text x.1.1.1) r)) (λ x fits. (fits.0, fits.1.0, fits.1.1.0)) bytes y rest h
op_by_takes words.SetAcl bytes y rest h = by_fields {X = AclFields} op_text IsListedOp words.SetAcl (λ x. (32 ∷ quoted x.0) ++ ((32 ∷ acl_text x.1.0) ++ (32 ∷ signed_decimal x.1.1))) (λ x. IsListedPath x.0 × (AreListedAcls x.1.0 × FitsSigned w32 x.1.1)) (both (spaced path_at) (both (spaced acl_at) (spaced (int_at w32)))) (λ x. op.SetAcl x.0 x.1.0 x.1.1) set_acl_fields (λ x r. ap (λ (b : List ℕ). word_text words.SetAcl ++ b) (set_acl_texts (32 ∷ quoted x.0) (32 ∷ acl_text x.1.0) (32 ∷ signed_decimal x.1.1) r)) (λ x fits. (fits.0, fits.1.0, fits.1.1)) bytes y rest h
op_by_takes words.CreateSession bytes y rest h = by_fields op_text IsListedOp words.CreateSession (λ (x : ℤ). 32 ∷ signed_decimal x) (FitsSigned w32) (spaced (int_at w32)) op.OpenSession spaced_int_exact (λ x r. refl) (λ x fits. fits) bytes y rest h
op_by_takes words.CloseSession bytes y rest h = closed_made bytes y rest h
op_by_takes words.Error bytes y rest h = by_fields op_text IsListedOp words.Error (λ (x : ℤ). 32 ∷ signed_decimal x) (FitsSigned w32) (spaced (int_at w32)) op.Error spaced_int_exact (λ x r. refl) (λ x fits. fits) bytes y rest h
op_by_takes words.Multi bytes y rest h = parts_made bytes y rest h
op_by_takes words.Check bytes y rest h = no_such (y, rest) h

pub op_at_takes : (bytes : List ℕ) (y : Op) (rest : List ℕ) → op_at bytes ≡ Some (y, rest) → IsListedOp y × (bytes ≡ op_text y ++ rest)
unfolding op_at
op_at_takes bytes y rest h =
    let p = bind_some {B = Op × List ℕ} (word_at bytes) (λ w. op_by w.0 w.1) (y, rest) h in
    let word = word_exact.takes bytes p.0.0 p.0.1 p.1 in
    let made = op_by_takes p.0.0 p.0.1 y rest p.2 in
    (made.fits, word.1 ∙ made.spelled)

op_after_word : (word : Word) (behind_it bytes : List ℕ) (y : Op) (rest : List ℕ) → IsEnd behind_it → op_by word behind_it ≡ Some (y, rest) → bytes ≡ word_text word ++ behind_it → op_at bytes ≡ Some (y, rest)
unfolding op_at
op_after_word word behind_it bytes y rest e h spelled = rw (spelled, word_exact.again word behind_it tt e) h

-- an operation is read back if its line ends there
pub op_at_again : (y : Op) (more : List ℕ) → IsListedOp y → op_at (op_text y ++ 10 ∷ more) ≡ Some (y, 10 ∷ more)
unfolding op_by set_acl_op_at create_old_op_at
op_at_again (op.Create path content acl ephemeral count) more fits =
    let x : Created = record { path = path; content = content; acl = acl; ephemeral = ephemeral; count = count } in
    op_after_word words.Create (created_text x ++ 10 ∷ more) (op_text (op_created x) ++ 10 ∷ more) (op_created x) (10 ∷ more) refl (op_by_again_fields created_text IsCreated create_at op_created create_exact x (10 ∷ more) fits refl) refl
op_at_again (op.Delete path) more fits =
    op_after_word words.Delete ((32 ∷ quoted path) ++ 10 ∷ more) (op_text (op.Delete path) ++ 10 ∷ more) (op.Delete path) (10 ∷ more) refl (op_by_again_fields (λ (x : List ℕ). 32 ∷ quoted x) IsListedPath (spaced path_at) op.Delete spaced_path_exact path (10 ∷ more) fits refl) refl
op_at_again (op.SetData path content version) more fits =
    let x : Written = record { path = path; content = content; version = version } in
    op_after_word words.SetData (written_text x ++ 10 ∷ more) (op_text (op_written x) ++ 10 ∷ more) (op_written x) (10 ∷ more) refl (op_by_again_fields written_text IsWritten set_data_at op_written set_data_exact x (10 ∷ more) fits refl) refl
op_at_again (op.CreateOld path content acl ephemeral) more fits =
    let x : OldFields = (path, (content, (acl, ephemeral))) in
    op_after_word words.CreateOld (((32 ∷ quoted path) ++ ((32 ∷ content_text content) ++ ((32 ∷ acl_text acl) ++ (32 ∷ ephemeral_text ephemeral)))) ++ 10 ∷ more) (op_text (op.CreateOld path content acl ephemeral) ++ 10 ∷ more) (op.CreateOld path content acl ephemeral) (10 ∷ more) refl (op_by_again_fields {X = OldFields} (λ v. (32 ∷ quoted v.0) ++ ((32 ∷ content_text v.1.0) ++ ((32 ∷ acl_text v.1.1.0) ++ (32 ∷ ephemeral_text v.1.1.1)))) (λ v. IsListedPath v.0 × (IsListedContent v.1.0 × (AreListedAcls v.1.1.0 × Always v.1.1.1))) (both (spaced path_at) (both (spaced content_at) (both (spaced acl_at) (spaced ephemeral_at)))) (λ v. op.CreateOld v.0 v.1.0 v.1.1.0 v.1.1.1) create_old_fields x (10 ∷ more) (fits.0, (fits.1, (fits.2, tt))) refl) (ap (λ (b : List ℕ). word_text words.CreateOld ++ b) (sym (old_texts (32 ∷ quoted path) (32 ∷ content_text content) (32 ∷ acl_text acl) (32 ∷ ephemeral_text ephemeral) (10 ∷ more))))
op_at_again (op.SetAcl path acl version) more fits =
    let x : AclFields = (path, (acl, version)) in
    op_after_word words.SetAcl (((32 ∷ quoted path) ++ ((32 ∷ acl_text acl) ++ (32 ∷ signed_decimal version))) ++ 10 ∷ more) (op_text (op.SetAcl path acl version) ++ 10 ∷ more) (op.SetAcl path acl version) (10 ∷ more) refl (op_by_again_fields {X = AclFields} (λ v. (32 ∷ quoted v.0) ++ ((32 ∷ acl_text v.1.0) ++ (32 ∷ signed_decimal v.1.1))) (λ v. IsListedPath v.0 × (AreListedAcls v.1.0 × FitsSigned w32 v.1.1)) (both (spaced path_at) (both (spaced acl_at) (spaced (int_at w32)))) (λ v. op.SetAcl v.0 v.1.0 v.1.1) set_acl_fields x (10 ∷ more) (fits.0, (fits.1, fits.2)) refl) (ap (λ (b : List ℕ). word_text words.SetAcl ++ b) (sym (set_acl_texts (32 ∷ quoted path) (32 ∷ acl_text acl) (32 ∷ signed_decimal version) (10 ∷ more))))
op_at_again (op.OpenSession timeout) more fits =
    op_after_word words.CreateSession ((32 ∷ signed_decimal timeout) ++ 10 ∷ more) (op_text (op.OpenSession timeout) ++ 10 ∷ more) (op.OpenSession timeout) (10 ∷ more) refl (op_by_again_fields (λ (x : ℤ). 32 ∷ signed_decimal x) (FitsSigned w32) (spaced (int_at w32)) op.OpenSession spaced_int_exact timeout (10 ∷ more) fits refl) refl
op_at_again op.CloseSession more fits =
    op_after_word words.CloseSession (10 ∷ more) (op_text op.CloseSession ++ 10 ∷ more) op.CloseSession (10 ∷ more) refl refl refl
op_at_again (op.Error code) more fits =
    op_after_word words.Error ((32 ∷ signed_decimal code) ++ 10 ∷ more) (op_text (op.Error code) ++ 10 ∷ more) (op.Error code) (10 ∷ more) refl (op_by_again_fields (λ (x : ℤ). 32 ∷ signed_decimal x) (FitsSigned w32) (spaced (int_at w32)) op.Error spaced_int_exact code (10 ∷ more) fits refl) refl
op_at_again (op.Multi parts) more fits =
    let found = parts_again parts (10 ∷ more) fits refl refl in
    op_after_word words.Multi (flat_map part_text parts ++ 10 ∷ more) (op_text (op.Multi parts) ++ 10 ∷ more) (op.Multi parts) (10 ∷ more) (end_of_many part_text part_ends parts (10 ∷ more) refl) (ap (option_and_then (λ v. Some (op.Multi v.0, v.1))) found) refl
