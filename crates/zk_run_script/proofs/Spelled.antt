-- Lines of lists are read as these lists.
use Rattle.std.proofs.Common.{◌≡◌, ◌<◌, ◌^◌, ◌&&◌, ℕ, Bool, ℤ, inl, true, false, List, [], ◌∷◌, ◌++◌, length, Option, refl}
use Rattle.std.specs.Prelude.{FitsSigned, codes}
use Rattle.std.specs.Int.{w32, w64}
use Rattle.std.specs.Fmt.{decimal}
use Rattle.std.specs.List.{AllByRecursion, flat_map, list_all}
use Rattle.std.specs.Str.{IsUtf8}
use Rattle.zk_acl.specs.declared.acl.Acl.{Acl}
use Rattle.zk_acl.specs.declared.acl.Id.{Id}
use Rattle.zk_format.specs.Listings.{AreListedAcls, IsListedContent}
use Rattle.zk_format.specs.Spelling.{content_text}
use Rattle.zk_request_syntax.specs.RequestLines.{IsDigestId, SpellsCreate, SpellsIds, SpellsMulti, SpellsPart, SpellsParts, SpellsRequest, flags_of}
use Rattle.zk_run_script.specs.Commands.{SpellsSubmit}
use Rattle.zk_requests.specs.declared.call.Call.{Call}
use Rattle.zk_requests.specs.declared.call.Part.{Part}
use Rattle.zk_run_script.specs.Lines.{are_digests, are_flags, create_text, has_part_line, has_request_line, ids_text, is_counted, is_digest, is_ephemeral, is_sequential, part_text, request_text, separated_text, submit_text}

pub first_of : (a b : Bool) → a && b ≡ true → a ≡ true
first_of true b both = refl
first_of false b both = both

pub second_of : (a b : Bool) → a && b ≡ true → b ≡ true
second_of true b both = both
second_of false true both = refl
second_of false false both = both

-- what follows from a test that all pass
all_when : {X : Type 0} (test : X → Bool) (P : X → Type 0) (xs : List X) → AllByRecursion (λ x. test x ≡ true → P x) xs → list_all test xs ≡ true → AllByRecursion P xs
all_when test P [] each all = tt
all_when test P (x ∷ xs) each all =
    (each.0 (first_of (test x) (list_all test xs) all), all_when test P xs each.1 (second_of (test x) (list_all test xs) all))

pub digests : (ids : List Id) → length ids < 2 ^ 64 → AllByRecursion (λ id. is_digest id ≡ true → IsDigestId id) ids → list_all is_digest ids ≡ true → SpellsIds ids (ids_text ids)
digests ids few each all = record { few = few; each = all_when is_digest IsDigestId ids each all; spelled = refl }

parts_of : (asked : List Part) → AllByRecursion (λ part. SpellsPart part (part_text part)) asked → SpellsParts asked (flat_map separated_text asked)
parts_of [] each = refl
parts_of (part ∷ asked) each = (part_text part, flat_map separated_text asked, each.0, parts_of asked each.1, refl)

pub multi : (asked : List Part) → AllByRecursion (λ part. has_part_line part ≡ true → SpellsPart part (part_text part)) asked → list_all has_part_line asked ≡ true
    → SpellsMulti asked (codes "multi" ++ flat_map separated_text asked)
multi asked each all = record {
  parts_text = flat_map separated_text asked;
  are_parts = parts_of asked (all_when has_part_line (λ part. SpellsPart part (part_text part)) asked each all);
  spelled = refl;
}

pub create : (path : List ℕ) (content : Option (List ℕ)) (acl : List Acl) (flags : ℤ) → flags ≡ flags_of (is_sequential flags) (is_ephemeral flags) → IsUtf8 path → IsListedContent content → AreListedAcls acl
    → SpellsCreate path content acl flags (create_text path content acl flags)
create path content acl flags flagged text listed acls = record {
  sequential = is_sequential flags;
  ephemeral = is_ephemeral flags;
  flagged = flagged;
  is_text = text;
  field = content_text content;
  is_content = inl (listed, refl);
  are_acls = acls;
  spelled = refl;
}

pub submit : (server : ℕ) (call : Call) → server < 2 ^ 64 → call.tag < 2 ^ 64 → FitsSigned w64 call.session → FitsSigned w32 call.cxid → FitsSigned w64 call.now
    → (are_digests call.auths ≡ true → SpellsIds call.auths (ids_text call.auths)) → (has_request_line call.request ≡ true → SpellsRequest call.request (request_text call.request))
    → are_digests call.auths && has_request_line call.request ≡ true → SpellsSubmit server call (submit_text server call)
submit server call server_is tag session cxid now ids asked has = record {
  server_is = server_is;
  tag = tag;
  session = session;
  cxid = cxid;
  now = now;
  ids = ids_text call.auths;
  auths = ids (first_of (are_digests call.auths) (has_request_line call.request) has);
  asked = request_text call.request;
  request = asked (second_of (are_digests call.auths) (has_request_line call.request) has);
  spelled = refl;
}

pub created : (path : List ℕ) (content : Option (List ℕ)) (acl : List Acl) (flags : ℤ) → (are_flags flags ≡ true → flags ≡ flags_of (is_sequential flags) (is_ephemeral flags)) → IsUtf8 path → IsListedContent content
    → (is_counted acl ≡ true → AreListedAcls acl) → are_flags flags && is_counted acl ≡ true → SpellsCreate path content acl flags (create_text path content acl flags)
created path content acl flags flagged text listed acls has =
    create path content acl flags (flagged (first_of (are_flags flags) (is_counted acl) has)) text listed (acls (second_of (are_flags flags) (is_counted acl) has))
