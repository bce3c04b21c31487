-- Calls: reading is the inverse of writing.
use Rattle.std.proofs.Common.{◌≡◌, ℕ, ℤ, pos, negsuc, true, List, ◌++◌, Option, Ok, refl, sym, ap, subst, lit<}
use Rattle.std.specs.Prelude.{FitsSigned}
use Rattle.std.specs.Int.{w32, w64}
use Rattle.std.specs.Ordering.{int_eq}
use Rattle.std.proofs.lemmas.Bool.Decides.{Decides-int_eq}
use Rattle.zk_acl.specs.declared.acl.Acl.{Acl}
use Rattle.zk_acl.specs.declared.acl.Id.{Id}
use Rattle.zk_jute.specs.Reading.{number_at, made_of}
use Rattle.zk_jute.proofs.Numbers.{IsBytes, IsField, done, at_ok, made_takes, either}
use Rattle.zk_jute.proofs.Texts.{int_field, long_field}
use Rattle.zk_records.specs.Records.{int, long}
use Rattle.zk_requests.specs.declared.call.Call.{Call}
use Rattle.zk_requests.specs.declared.call.Part.{Part}
use Rattle.zk_requests.specs.declared.call.Part.TheVariants as parts
use Rattle.zk_requests.specs.declared.call.Request.{Request}
use Rattle.zk_requests.specs.declared.call.Request.TheVariants as requests
use Rattle.zab_frames.specs.declared.calls.CreateFields.{CreateFields}
use Rattle.zab_frames.specs.declared.calls.SetAclFields.{SetAclFields}
use Rattle.zab_frames.specs.declared.calls.SetDataFields.{SetDataFields}
use Rattle.zab_frames.specs.declared.calls.VersionFields.{VersionFields}
use Rattle.zab_frames.specs.Messages.{long_word, identity, create, with_version, set_data, set_acl, part_kind_of, part_body_of, part_of, counted_list, request_kind_of, request_body_of, request_of, call_of}
use Rattle.zab_frames.specs.Ranges.{IsLongWord, IsIdentity, IsCreate, IsWithVersion, IsSetData, IsSetAcl, IsPart, AreCounted, IsRequest, IsCall}
use Rattle.zab_frames.specs.Reading.{◌&◌, natural_at, text_at, optional_at, list_at, identity_at, acl_at, create_from, create_at, version_from, version_at, set_data_from, set_data_at, set_acl_from, set_acl_at, create_part, delete_part, set_data_part, check_part, part_by, part_at, create_request, delete_request, set_data_request, set_acl_request, request_by, request_at, call_from, call_at}
use Rattle.zab_frames.proofs.FieldLaws.{pair_field, made_field, TagRead, tagged_field, long_word_field, text_field, optional_field, list_field, identity_field, acl_field}

-- ---- fields of requests

create_fields : CreateFields → ((List ℕ × Option (List ℕ)) × List Acl) × ℤ
create_fields f = (((f.path, f.content), f.acl), f.flags)

create_field : IsField create_at (λ f. create f.path f.content f.acl f.flags) (λ f. IsCreate f.path f.content f.acl f.flags)
unfolding create_at create_fields
create_field = made_field (text_at & optional_at & list_at acl_at & number_at w32) _ _ create_from create_fields (pair_field (pair_field (pair_field text_field optional_field) (list_field acl_field)) int_field) (λ f. refl) (λ fields. refl)

version_fields : VersionFields → List ℕ × ℤ
version_fields f = (f.path, f.version)

version_field : IsField version_at (λ f. with_version f.path f.version) (λ f. IsWithVersion f.path f.version)
unfolding version_at version_fields
version_field = made_field (text_at & number_at w32) _ _ version_from version_fields (pair_field text_field int_field) (λ f. refl) (λ fields. refl)

set_data_fields : SetDataFields → (List ℕ × Option (List ℕ)) × ℤ
set_data_fields f = ((f.path, f.content), f.version)

set_data_field : IsField set_data_at (λ f. set_data f.path f.content f.version) (λ f. IsSetData f.path f.content f.version)
unfolding set_data_at set_data_fields
set_data_field = made_field (text_at & optional_at & number_at w32) _ _ set_data_from set_data_fields (pair_field (pair_field text_field optional_field) int_field) (λ f. refl) (λ fields. refl)

set_acl_fields : SetAclFields → (List ℕ × List Acl) × ℤ
set_acl_fields f = ((f.path, f.acl), f.version)

set_acl_field : IsField set_acl_at (λ f. set_acl f.path f.acl f.version) (λ f. IsSetAcl f.path f.acl f.version)
unfolding set_acl_at set_acl_fields
set_acl_field = made_field (text_at & list_at acl_at & number_at w32) _ _ set_acl_from set_acl_fields (pair_field (pair_field text_field (list_field acl_field)) int_field) (λ f. refl) (λ fields. refl)

-- ---- parts

abbrev PartRead : List ℕ → ℤ → Part × List ℕ → Type 0
PartRead bytes kind x = TagRead part_kind_of part_body_of IsPart bytes kind x

part_at_kind : (kind known : ℤ) (bytes : List ℕ) (x : Part × List ℕ) → int_eq kind known ≡ true → PartRead bytes known x → PartRead bytes kind x
part_at_kind kind known bytes x same is = subst (λ (k : ℤ). PartRead bytes k x) (sym ((Decides-int_eq kind known).0 same)) is

part_takes : (kind : ℤ) (bytes : List ℕ) (x : Part × List ℕ) → IsBytes bytes → part_by kind bytes ≡ Ok x → PartRead bytes kind x
unfolding part_by
part_takes kind bytes x fits e =
    let P : Type 0 = PartRead bytes kind x in
    either _ _ _ x P (λ same h. part_at_kind kind (pos 1) bytes x same (made_takes _ _ _ create_field create_part bytes x (PartRead bytes (pos 1)) fits h (λ f rest took is. record { took = took; typed = refl; fits = is })))
    (either _ _ _ x P (λ same h. part_at_kind kind (pos 2) bytes x same (made_takes _ _ _ version_field delete_part bytes x (PartRead bytes (pos 2)) fits h (λ f rest took is. record { took = took; typed = refl; fits = is })))
    (either _ _ _ x P (λ same h. part_at_kind kind (pos 5) bytes x same (made_takes _ _ _ set_data_field set_data_part bytes x (PartRead bytes (pos 5)) fits h (λ f rest took is. record { took = took; typed = refl; fits = is })))
    (either _ _ _ x P (λ same h. part_at_kind kind (pos 13) bytes x same (made_takes _ _ _ version_field check_part bytes x (PartRead bytes (pos 13)) fits h (λ f rest took is. record { took = took; typed = refl; fits = is })))
    (λ h. absurd (cc))))) e

part_again : (part : Part) (rest : List ℕ) → IsPart part → part_by (part_kind_of part) (part_body_of part ++ rest) ≡ Ok (part, rest)
unfolding part_by
part_again (parts.Create path content acl flags) rest is = ap (made_of create_part) (create_field.again (record { path = path; content = content; acl = acl; flags = flags }) rest is)
part_again (parts.Delete path version) rest is = ap (made_of delete_part) (version_field.again (record { path = path; version = version }) rest is)
part_again (parts.SetData path content version) rest is = ap (made_of set_data_part) (set_data_field.again (record { path = path; content = content; version = version }) rest is)
part_again (parts.Check path version) rest is = ap (made_of check_part) (version_field.again (record { path = path; version = version }) rest is)

part_small : (part : Part) → FitsSigned w32 (part_kind_of part)
part_small (parts.Create path content acl flags) = record { sfits = lit< tt }
part_small (parts.Delete path version) = record { sfits = lit< tt }
part_small (parts.SetData path content version) = record { sfits = lit< tt }
part_small (parts.Check path version) = record { sfits = lit< tt }

part_field : IsField part_at part_of IsPart
unfolding part_at part_of
part_field = tagged_field part_by part_kind_of part_body_of IsPart part_takes part_again part_small

-- ---- requests

abbrev RequestRead : List ℕ → ℤ → Request × List ℕ → Type 0
RequestRead bytes kind x = TagRead request_kind_of request_body_of IsRequest bytes kind x

request_at_kind : (kind known : ℤ) (bytes : List ℕ) (x : Request × List ℕ) → int_eq kind known ≡ true → RequestRead bytes known x → RequestRead bytes kind x
request_at_kind kind known bytes x same is = subst (λ (k : ℤ). RequestRead bytes k x) (sym ((Decides-int_eq kind known).0 same)) is

closes : (bytes : List ℕ) (x : Request × List ℕ) → IsBytes bytes → done (requests.CloseSession, bytes) ≡ done x → RequestRead bytes (negsuc 10) x
closes bytes x fits e =
    let made : Request × List ℕ = (requests.CloseSession, bytes) in
    at_ok (RequestRead bytes (negsuc 10)) made x e (record { took = record { parts = refl; rest_fits = fits }; typed = refl; fits = tt })

request_takes : (kind : ℤ) (bytes : List ℕ) (x : Request × List ℕ) → IsBytes bytes → request_by kind bytes ≡ Ok x → RequestRead bytes kind x
unfolding request_by
request_takes kind bytes x fits e =
    let P : Type 0 = RequestRead bytes kind x in
    either _ _ _ x P (λ same h. request_at_kind kind (pos 1) bytes x same (made_takes _ _ _ create_field create_request bytes x (RequestRead bytes (pos 1)) fits h (λ f rest took is. record { took = took; typed = refl; fits = is })))
    (either _ _ _ x P (λ same h. request_at_kind kind (pos 2) bytes x same (made_takes _ _ _ version_field delete_request bytes x (RequestRead bytes (pos 2)) fits h (λ f rest took is. record { took = took; typed = refl; fits = is })))
    (either _ _ _ x P (λ same h. request_at_kind kind (pos 5) bytes x same (made_takes _ _ _ set_data_field set_data_request bytes x (RequestRead bytes (pos 5)) fits h (λ f rest took is. record { took = took; typed = refl; fits = is })))
    (either _ _ _ x P (λ same h. request_at_kind kind (pos 7) bytes x same (made_takes _ _ _ set_acl_field set_acl_request bytes x (RequestRead bytes (pos 7)) fits h (λ f rest took is. record { took = took; typed = refl; fits = is })))
    (either _ _ _ x P (λ same h. request_at_kind kind (pos 14) bytes x same (made_takes _ _ _ (list_field part_field) requests.Multi bytes x (RequestRead bytes (pos 14)) fits h (λ f rest took is. record { took = took; typed = refl; fits = is })))
    (either _ _ _ x P (λ same h. request_at_kind kind (negsuc 9) bytes x same (made_takes _ _ _ int_field requests.OpenSession bytes x (RequestRead bytes (negsuc 9)) fits h (λ f rest took is. record { took = took; typed = refl; fits = is })))
    (either _ _ _ x P (λ same h. request_at_kind kind (negsuc 10) bytes x same (closes bytes x fits h))
    (λ h. absurd (cc)))))))) e

request_again : (request : Request) (rest : List ℕ) → IsRequest request → request_by (request_kind_of request) (request_body_of request ++ rest) ≡ Ok (request, rest)
unfolding request_by
request_again (requests.Create path content acl flags) rest is = ap (made_of create_request) (create_field.again (record { path = path; content = content; acl = acl; flags = flags }) rest is)
request_again (requests.Delete path version) rest is = ap (made_of delete_request) (version_field.again (record { path = path; version = version }) rest is)
request_again (requests.SetData path content version) rest is = ap (made_of set_data_request) (set_data_field.again (record { path = path; content = content; version = version }) rest is)
request_again (requests.SetAcl path acl version) rest is = ap (made_of set_acl_request) (set_acl_field.again (record { path = path; acl = acl; version = version }) rest is)
request_again (requests.Multi them) rest is = ap (made_of requests.Multi) ((list_field part_field).again them rest is)
request_again (requests.OpenSession timeout) rest is = ap (made_of requests.OpenSession) (int_field.again timeout rest is)
request_again requests.CloseSession rest is = refl

request_small : (request : Request) → FitsSigned w32 (request_kind_of request)
request_small (requests.Create path content acl flags) = record { sfits = lit< tt }
request_small (requests.Delete path version) = record { sfits = lit< tt }
request_small (requests.SetData path content version) = record { sfits = lit< tt }
request_small (requests.SetAcl path acl version) = record { sfits = lit< tt }
request_small (requests.Multi them) = record { sfits = lit< tt }
request_small (requests.OpenSession timeout) = record { sfits = lit< tt }
request_small requests.CloseSession = record { sfits = lit< tt }

request_field : IsField request_at request_of IsRequest
unfolding request_at
request_field = tagged_field request_by request_kind_of request_body_of IsRequest request_takes request_again request_small

-- ---- calls

abbrev Fields : Type 0
Fields = ((((ℕ × ℤ) × ℤ) × List Id) × ℤ) × Request

call_fields : Call → Fields
call_fields call = (((((call.tag, call.session), call.cxid), call.auths), call.now), call.request)

made_call_field : IsField (λ bytes. made_of call_from ((natural_at w64 & number_at w64 & number_at w32 & list_at identity_at & number_at w64 & request_at) bytes))
    (λ (c : Call). long_word c.tag ++ long c.session ++ int c.cxid ++ counted_list identity c.auths ++ long c.now ++ request_of c.request)
    (λ (c : Call). ((((IsLongWord c.tag × FitsSigned w64 c.session) × FitsSigned w32 c.cxid) × AreCounted IsIdentity c.auths) × FitsSigned w64 c.now) × IsRequest c.request)
unfolding call_fields
made_call_field = made_field (natural_at w64 & number_at w64 & number_at w32 & list_at identity_at & number_at w64 & request_at) _ _ call_from call_fields
    (pair_field (pair_field (pair_field (pair_field (pair_field long_word_field long_field) int_field) (list_field identity_field)) long_field) request_field) (λ call. refl) (λ fields. refl)

pub call_field : IsField call_at call_of IsCall
unfolding call_at call_of call_fields
call_field = record {
  takes = λ bytes x fits e.
      let t = made_call_field.takes bytes x fits e in
      (t.0, record { tag = t.1.0.0.0.0.0; session = t.1.0.0.0.0.1; cxid = t.1.0.0.0.1; auths = t.1.0.0.1; now = t.1.0.1; request = t.1.1 });
  again = λ call rest is. made_call_field.again call rest (((((is.tag, is.session), is.cxid), is.auths), is.now), is.request);
}
