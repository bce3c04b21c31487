-- A request is read exactly if its text has this form.
use Rattle.std.proofs.Common.{◌≡◌, ℕ, ℤ, List, [], ◌∷◌, ◌++◌, Option, Some, refl, sym, ap, subst, ◌∙◌}
use Rattle.std.proofs.lemmas.List.{append-nil}
use Rattle.std.specs.Prelude.{codes}
use Rattle.std.specs.Fmt.{signed_decimal}
use Rattle.std.specs.List.{AllByRecursion}
use Rattle.zk_acl.specs.declared.acl.Acl.{Acl}
use Rattle.zk_listing.specs.Reading.{front_of, back_of, both, spaced, mapped}
use Rattle.zk_listing.proofs.Exact.{bind_some, first_is, second_is}
use Rattle.zk_requests.specs.declared.call.Part.{Part}
use Rattle.zk_requests.specs.declared.call.Request.{Request}
use Rattle.zk_requests.specs.declared.call.Request.TheVariants as requests
use Rattle.zk_format.specs.Spelling.{quoted, acl_text}
use Rattle.zk_request_syntax.specs.declared.fields.Created.{Created}
use Rattle.zk_request_syntax.specs.declared.fields.Written.{Written}
use Rattle.zk_request_syntax.specs.Reading.{int_field_at, text_field_at, acl_field_at, created_at, written_at, named_at, parts_in, request_created, request_written, request_deleted, set_acl_at, request_words, request_at}
use Rattle.zk_request_syntax.specs.RequestLines.{SpellsText, SpellsInt, SpellsAcl, SpellsCreate, SpellsSet, SpellsSetAcl, SpellsMulti, SpellsRequest}
use Rattle.zk_request_syntax.proofs.FieldLaws.{reads_text, reads_int, reads_acl}
use Rattle.zk_request_syntax.proofs.PartTexts.{regroup4, CreatedBehind, reads_created, create_begins, WrittenBehind, reads_written, set_begins, NamedFields, reads_named, named_begins, named_with, named_fields, parts_take, parts_again}
use Rattle.zk_request_syntax.proofs.Readings.{Reads, Next, NextThen, reads_last, reads_next, begins_with_end, mapped_again, TakesBehind, behind_mapped, by_word_takes, ReadsWhole}

-- ---- setacl

abbrev AclFields : Type 0
AclFields = List ℕ × (List Acl × ℤ)

abbrev AclText : AclFields → List ℕ → Type 0
AclText = NextThen SpellsText (NextThen SpellsAcl (Next SpellsInt))

reads_acl_fields : Reads AclText (both (spaced text_field_at) (both (spaced acl_field_at) (spaced int_field_at)))
reads_acl_fields =
    let version = reads_last SpellsInt int_field_at reads_int in
    let acl = reads_next SpellsAcl acl_field_at (Next SpellsInt) (spaced int_field_at) reads_acl version (λ y text rest s. begins_with_end text s.field rest s.spelled) in
    reads_next SpellsText text_field_at (NextThen SpellsAcl (Next SpellsInt)) (both (spaced acl_field_at) (spaced int_field_at)) reads_text acl (λ y text rest s. begins_with_end text (s.field ++ s.others) rest s.spelled)

set_acl_made : (x : AclFields) (text : List ℕ) → AclText x text → SpellsSetAcl x.0 x.1.0 x.1.1 (codes "setacl" ++ text)
set_acl_made x text t =
    let last : t.follows.others ≡ 32 ∷ signed_decimal x.1.1 = t.follows.follows.spelled ∙ ap (λ (f : List ℕ). 32 ∷ f) t.follows.follows.spells.1 in
    let middle : t.others ≡ 32 ∷ (acl_text x.1.0 ++ (32 ∷ signed_decimal x.1.1)) = t.follows.spelled ∙ ap (λ (f : List ℕ). 32 ∷ (f ++ t.follows.others)) t.follows.spells.1 ∙ ap (λ (o : List ℕ). 32 ∷ (acl_text x.1.0 ++ o)) last in
    let whole : text ≡ 32 ∷ (quoted x.0 ++ (32 ∷ (acl_text x.1.0 ++ (32 ∷ signed_decimal x.1.1)))) = t.spelled ∙ ap (λ (f : List ℕ). 32 ∷ (f ++ t.others)) t.spells.1 ∙ ap (λ (o : List ℕ). 32 ∷ (quoted x.0 ++ o)) middle in
    record {
      is_text = t.spells.0;
      are_acls = t.follows.spells.0;
      in_range = t.follows.follows.spells.0;
      spelled = ap (λ (b : List ℕ). codes "setacl" ++ b) whole ∙ regroup4 (codes "setacl ") (quoted x.0) (32 ∷ acl_text x.1.0) (32 ∷ signed_decimal x.1.1);
    }

abbrev acl_body : List ℕ → List Acl → ℤ → List ℕ
acl_body path acl version = 32 ∷ (quoted path ++ (32 ∷ (acl_text acl ++ (32 ∷ signed_decimal version))))

set_acl_begins : (path : List ℕ) (acl : List Acl) (version : ℤ) (text : List ℕ) → SpellsSetAcl path acl version text → text ≡ codes "setacl" ++ acl_body path acl version
set_acl_begins path acl version text s = s.spelled ∙ sym (regroup4 (codes "setacl ") (quoted path) (32 ∷ acl_text acl) (32 ∷ signed_decimal version))

set_acl_fields : (path : List ℕ) (acl : List Acl) (version : ℤ) (text : List ℕ) → SpellsSetAcl path acl version text → AclText (path, (acl, version)) (acl_body path acl version)
set_acl_fields path acl version text s = record {
  field = quoted path;
  others = 32 ∷ (acl_text acl ++ (32 ∷ signed_decimal version));
  spells = (s.is_text, refl);
  follows = record { field = acl_text acl; others = 32 ∷ signed_decimal version; spells = (s.are_acls, refl); follows = record { field = signed_decimal version; spells = (s.in_range, refl); spelled = refl }; spelled = refl };
  spelled = refl;
}

behind_set_acl : TakesBehind SpellsRequest (codes "setacl") set_acl_at
unfolding set_acl_at
behind_set_acl = λ bytes y rest h. behind_mapped AclText (both (spaced text_field_at) (both (spaced acl_field_at) (spaced int_field_at))) reads_acl_fields (λ x. requests.SetAcl x.0 x.1.0 x.1.1) (codes "setacl") SpellsRequest set_acl_made bytes y rest h

-- ---- multi, open and close

behind_multi : TakesBehind SpellsRequest (codes "multi") (mapped requests.Multi parts_in)
behind_multi = λ bytes y rest h.
    let p = bind_some {B = Request × List ℕ} (parts_in bytes) (λ v. Some (requests.Multi v.0, v.1)) (y, rest) h in
    let same : requests.Multi p.0.0 ≡ y = first_is (requests.Multi p.0.0, p.0.1) (y, rest) p.2 in
    let left : p.0.1 ≡ rest = second_is (requests.Multi p.0.0, p.0.1) (y, rest) p.2 in
    let found = parts_take _ bytes p.0.0 p.0.1 p.1 in
    let text : List ℕ = codes "multi" ++ bytes in
    let made : SpellsRequest (requests.Multi p.0.0) text = record { parts_text = bytes; are_parts = found.0; spelled = refl } in
    let end : rest ≡ [] = sym left ∙ found.1 in
    (text, subst (λ (v : Request). SpellsRequest v text) same made, sym (append-nil text) ∙ ap (λ (r : List ℕ). text ++ r) (sym end))

behind_open : TakesBehind SpellsRequest (codes "open") (mapped requests.OpenSession (spaced int_field_at))
behind_open = behind_mapped (Next SpellsInt) (spaced int_field_at) (reads_last SpellsInt int_field_at reads_int) requests.OpenSession (codes "open") SpellsRequest (λ x text s. (s.spells.0, ap (λ (b : List ℕ). codes "open" ++ b) (s.spelled ∙ ap (λ (f : List ℕ). 32 ∷ f) s.spells.1)))

behind_close : TakesBehind SpellsRequest (codes "close") (λ bytes. Some (requests.CloseSession, bytes))
behind_close = λ bytes y rest h.
    let same : requests.CloseSession ≡ y = first_is (requests.CloseSession, bytes) (y, rest) h in
    let left : bytes ≡ rest = second_is (requests.CloseSession, bytes) (y, rest) h in
    let made : SpellsRequest requests.CloseSession (codes "close") = refl in
    (codes "close", subst (λ (v : Request). SpellsRequest v (codes "close")) same made, ap (λ (b : List ℕ). codes "close" ++ b) left)

-- ---- requests

requests_made : AllByRecursion (λ e. TakesBehind SpellsRequest e.0 e.1) request_words
requests_made = (
  behind_mapped CreatedBehind created_at reads_created request_created (codes "create") SpellsRequest (λ x text s. s),
  (
    behind_mapped NamedFields named_at reads_named request_deleted (codes "delete") SpellsRequest (λ x text s. named_with (codes "delete") x text s),
    (
      behind_mapped WrittenBehind written_at reads_written request_written (codes "set") SpellsRequest (λ x text s. s),
      (behind_set_acl, (behind_multi, (behind_open, (behind_close, tt)))),
    ),
  ),
)

create_again : (path : List ℕ) (content : Option (List ℕ)) (acl : List Acl) (flags : ℤ) (text : List ℕ) → SpellsCreate path content acl flags text → request_at (text ++ []) ≡ Some (requests.Create path content acl flags, [])
unfolding request_at front_of back_of
create_again path content acl flags text s =
    let x : Created = record { path = path; content = content; acl = acl; flags = flags } in
    let split = create_begins path content acl flags text s in
    let behind_it : CreatedBehind x (32 ∷ split.0) = subst (λ (t : List ℕ). SpellsCreate path content acl flags t) split.1 s in
    ap (λ (t : List ℕ). request_at (t ++ [])) split.1 ∙ mapped_again CreatedBehind created_at reads_created request_created x (32 ∷ split.0) [] behind_it tt

set_again : (path : List ℕ) (content : Option (List ℕ)) (version : ℤ) (text : List ℕ) → SpellsSet path content version text → request_at (text ++ []) ≡ Some (requests.SetData path content version, [])
unfolding request_at front_of back_of
set_again path content version text s =
    let x : Written = record { path = path; content = content; version = version } in
    let body : List ℕ = 32 ∷ (quoted path ++ (32 ∷ (s.field ++ (32 ∷ signed_decimal version)))) in
    let split = set_begins path content version text s in
    let behind_it : WrittenBehind x body = subst (λ (t : List ℕ). SpellsSet path content version t) split s in
    ap (λ (t : List ℕ). request_at (t ++ [])) split ∙ mapped_again WrittenBehind written_at reads_written request_written x body [] behind_it tt

-- the word alone, or its parts: the first of them begins with a space
multi_again : (asked : List Part) (text : List ℕ) → SpellsMulti asked text → request_at (text ++ []) ≡ Some (requests.Multi asked, [])
unfolding request_at front_of back_of
multi_again [] text s =
    ap (λ (t : List ℕ). request_at (t ++ [])) (s.spelled ∙ ap (λ (b : List ℕ). codes "multi" ++ b) s.are_parts) ∙ ap (λ (v : Option (List Part × List ℕ)). mapped requests.Multi (λ b. v) []) (parts_again [] [] refl)
multi_again (part ∷ others) text s =
    let body : List ℕ = codes " ; " ++ s.are_parts.0 ++ s.are_parts.1 in
    let found = parts_again (part ∷ others) body (s.are_parts.0, s.are_parts.1, s.are_parts.2, s.are_parts.3, refl) in
    let whole : text ++ [] ≡ codes "multi" ++ body = append-nil text ∙ s.spelled ∙ ap (λ (b : List ℕ). codes "multi" ++ b) s.are_parts.4 in
    ap request_at whole ∙ ap (λ (v : Option (List Part × List ℕ)). mapped requests.Multi (λ b. v) []) found

request_again : (y : Request) (text : List ℕ) → SpellsRequest y text → request_at (text ++ []) ≡ Some (y, [])
unfolding request_at set_acl_at front_of back_of
request_again (requests.Create path content acl flags) text s = create_again path content acl flags text s
request_again (requests.Delete path version) text s =
    ap (λ (t : List ℕ). request_at (t ++ [])) (named_begins (codes "delete") path version text s) ∙ mapped_again NamedFields named_at reads_named request_deleted (record { path = path; version = version }) (32 ∷ (quoted path ++ (32 ∷ signed_decimal version))) [] (named_fields (codes "delete") path version text s) tt
request_again (requests.SetData path content version) text s = set_again path content version text s
request_again (requests.SetAcl path acl version) text s =
    ap (λ (t : List ℕ). request_at (t ++ [])) (set_acl_begins path acl version text s) ∙ mapped_again AclText (both (spaced text_field_at) (both (spaced acl_field_at) (spaced int_field_at))) reads_acl_fields (λ x. requests.SetAcl x.0 x.1.0 x.1.1) (path, (acl, version)) (acl_body path acl version) [] (set_acl_fields path acl version text s) tt
request_again (requests.Multi asked) text s = multi_again asked text s
request_again (requests.OpenSession timeout) text s =
    ap (λ (t : List ℕ). request_at (t ++ [])) s.1 ∙ mapped_again (Next SpellsInt) (spaced int_field_at) (reads_last SpellsInt int_field_at reads_int) requests.OpenSession timeout (32 ∷ signed_decimal timeout) [] (record { field = signed_decimal timeout; spells = (s.0, refl); spelled = refl }) tt
request_again requests.CloseSession text s = ap (λ (t : List ℕ). request_at (t ++ [])) s

pub whole_request : ReadsWhole SpellsRequest request_at
unfolding request_at
whole_request = record {
  takes = λ bytes x rest h. by_word_takes SpellsRequest request_words requests_made bytes x rest h;
  again = λ x text s. ap request_at (sym (append-nil text)) ∙ request_again x text s;
}
