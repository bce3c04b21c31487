-- How the fields of a line are read, from the left. A reading returns a value and what comes after
-- its text, or none if the input begins with no text of such a value.
use Rattle.std.specs.Prelude.{◌≡◌, ◌<◌, ◌==◌, ◌&&◌, ◌||◌, ◌^◌, nat_lt, nat_le, ℕ, ℤ, List, [], ◌∷◌, Bool, true, false, if◌then◌else◌, length, codes, Option, Some, None, is_none, Result, Ok, Err}
use Rattle.std.specs.Fmt.{decimal}
use Rattle.std.specs.Int.{w32, w64}
use Rattle.std.specs.Str.{bytes_eq}
use Rattle.std.specs.Str.Parse.{digits_value}
use Rattle.zk_acl.specs.declared.acl.Acl.{Acl}
use Rattle.zk_acl.specs.declared.acl.Id.{Id}
use Rattle.zk_listing.specs.declared.list_fault.ListCause.{ListCause}
use Rattle.zk_listing.specs.declared.list_fault.ListCause.TheVariants as causes
use Rattle.zk_listing.specs.Reading.{◌>>=◌, is_end, front_of, back_of, of_field, past, spaced, both, mapped, behind, many_at, id_at, int_at, quoted_at, content_at, acl_at, Fails}
use Rattle.zk_path.specs.Paths.{fault_of}
use Rattle.zk_requests.specs.declared.call.Part.{Part}
use Rattle.zk_requests.specs.declared.call.Part.TheVariants as asked
use Rattle.zk_requests.specs.declared.call.Request.{Request}
use Rattle.zk_requests.specs.declared.call.Request.TheVariants as requests
use Rattle.zk_request_syntax.specs.declared.fields.Created.{Created}
use Rattle.zk_request_syntax.specs.declared.fields.Named.{Named}
use Rattle.zk_request_syntax.specs.declared.fields.Written.{Written}
use Rattle.zk_request_syntax.specs.declared.lookups.Aspect.{Aspect}
use Rattle.zk_request_syntax.specs.declared.lookups.Aspect.TheVariants as aspects
use Rattle.zk_request_syntax.specs.declared.lookups.Lookup.{Lookup}
use Rattle.zk_request_syntax.specs.declared.lookups.Lookup.TheVariants as lookups
use Rattle.zk_request_syntax.specs.RequestLines.{flags_of}
use Rattle.zk_table.specs.declared.read.ReadCall.{ReadCall}
use Rattle.zk_table.specs.declared.read.ReadCall.TheVariants as calls

-- ---- fields, up to their end

abbrev pub at_end : List ℕ → Bool
at_end [] = true
at_end (b ∷ bs) = is_end b

abbrev pub if_ended : {X : Type 0} → X × List ℕ → Option (X × List ℕ)
if_ended x = if at_end x.1 then Some x else None

abbrev pub ended : {X : Type 0} → (List ℕ → Option (X × List ℕ)) → List ℕ → Option (X × List ℕ)
ended at bytes = at bytes >>= if_ended

-- what a reader found, if the field ends after it
abbrev pub ended_result : {X : Type 0} → Bool → Result X ListCause → Result X ListCause
ended_result true read = read
ended_result false (Ok x) = Err causes.Fields
ended_result false (Err cause) = Err cause

unfoldable pub id_field_at : List ℕ → Option (ℤ × List ℕ)
id_field_at bytes = ended id_at bytes

unfoldable pub int_field_at : List ℕ → Option (ℤ × List ℕ)
int_field_at bytes = ended (int_at w32) bytes

unfoldable pub long_field_at : List ℕ → Option (ℤ × List ℕ)
long_field_at bytes = ended (int_at w64) bytes

unfoldable pub text_field_at : List ℕ → Option (List ℕ × List ℕ)
text_field_at bytes = ended quoted_at bytes

unfoldable pub acl_field_at : List ℕ → Option (List Acl × List ℕ)
acl_field_at bytes = ended acl_at bytes

-- a decimal of 64 bits without a sign
unfoldable pub number_from : List ℕ → Option ℕ
number_from field = let n = digits_value 10 field in if nat_lt n (2 ^ 64) && bytes_eq (decimal n) field then Some n else None

-- whether a decimal has no sign and no leading zero
abbrev pub is_digit_above_zero : ℕ → Bool
is_digit_above_zero b = nat_le 49 b && nat_le b 57

abbrev pub begins_plainly : List ℕ → Bool
begins_plainly [] = false
begins_plainly (b ∷ []) = b == 48 || is_digit_above_zero b
begins_plainly (b ∷ c ∷ rest) = is_digit_above_zero b

unfoldable pub number_at : List ℕ → Option (ℕ × List ℕ)
number_at bytes = of_field number_from bytes

abbrev pub begins_with_quote : List ℕ → Bool
begins_with_quote [] = false
begins_with_quote (b ∷ bs) = b == 34

unfoldable pub content_field_at : List ℕ → Option (Option (List ℕ) × List ℕ)
content_field_at bytes = if begins_with_quote bytes then mapped Some text_field_at bytes else ended content_at bytes

-- ---- identities

abbrev pub digest_of : List ℕ → Id
digest_of text = record { scheme = codes "digest"; id = text }

unfoldable pub digest_at : List ℕ → Option (Id × List ℕ)
digest_at bytes = mapped digest_of (spaced text_field_at) bytes

unfoldable pub ids_at : List ℕ → Option (List Id × List ℕ)
ids_at bytes = number_at bytes >>= λ n. many_at digest_at n.0 n.1

-- ---- words

-- what a word means
abbrev pub looked_up : {X : Type 0} → List ℕ → List (List ℕ × X) → Option X
looked_up word [] = None
looked_up word (e ∷ es) = if bytes_eq word e.0 then Some e.1 else looked_up word es

-- a word that determines how the rest is read
abbrev pub by_word : {X : Type 0} → List (List ℕ × (List ℕ → Option (X × List ℕ))) → List ℕ → Option (X × List ℕ)
by_word words bytes = looked_up (front_of bytes) words >>= λ read. read (back_of bytes)

-- whether the text begins with a space and a word, and what comes after them
abbrev pub flag_behind : List ℕ → List ℕ → Option (List ℕ) → Bool × List ℕ
flag_behind word bytes None = (false, bytes)
flag_behind word bytes (Some rest) = if bytes_eq (front_of rest) word then (true, back_of rest) else (false, bytes)

unfoldable pub flag_at : List ℕ → List ℕ → Bool × List ℕ
flag_at word bytes = flag_behind word bytes (past 32 bytes)

-- ---- the fields of requests, each after a space

abbrev pub CreatedFields : Type 0
CreatedFields = List ℕ × (Option (List ℕ) × List Acl)

abbrev pub created_of : Bool → Bool → CreatedFields → Created
created_of sequential ephemeral x = record { path = x.0; content = x.1.0; acl = x.1.1; flags = flags_of sequential ephemeral }

unfoldable pub created_fields_at : List ℕ → Option (CreatedFields × List ℕ)
created_fields_at bytes = both (spaced text_field_at) (both (spaced content_field_at) (spaced acl_field_at)) bytes

unfoldable pub created_at : List ℕ → Option (Created × List ℕ)
created_at bytes =
    let s = flag_at (codes "-s") bytes in let e = flag_at (codes "-e") s.1 in mapped (created_of s.0 e.0) created_fields_at e.1

abbrev pub written_of : List ℕ × (Option (List ℕ) × ℤ) → Written
written_of x = record { path = x.0; content = x.1.0; version = x.1.1 }

unfoldable pub written_at : List ℕ → Option (Written × List ℕ)
written_at bytes = mapped written_of (both (spaced text_field_at) (both (spaced content_field_at) (spaced int_field_at))) bytes

abbrev pub named_of : List ℕ × ℤ → Named
named_of x = record { path = x.0; version = x.1 }

unfoldable pub named_at : List ℕ → Option (Named × List ℕ)
named_at bytes = mapped named_of (both (spaced text_field_at) (spaced int_field_at)) bytes

-- ---- parts

abbrev pub part_created : Created → Part
part_created x = asked.Create x.path x.content x.acl x.flags

abbrev pub part_written : Written → Part
part_written x = asked.SetData x.path x.content x.version

abbrev pub part_deleted : Named → Part
part_deleted x = asked.Delete x.path x.version

abbrev pub part_checked : Named → Part
part_checked x = asked.Check x.path x.version

abbrev pub part_words : List (List ℕ × (List ℕ → Option (Part × List ℕ)))
part_words =
    (codes "create", mapped part_created created_at) ∷ (codes "delete", mapped part_deleted named_at) ∷ (codes "set", mapped part_written written_at) ∷ (codes "check", mapped part_checked named_at) ∷ []

unfoldable pub part_at : List ℕ → Option (Part × List ℕ)
part_at bytes = by_word part_words bytes

-- a part after its separator
unfoldable pub next_part_at : List ℕ → Option (Part × List ℕ)
next_part_at bytes = let s = flag_at (codes ";") bytes in if s.0 then spaced part_at s.1 else None

-- Parts, up to the end of the text. The number is at least that of the bytes, and lets the
-- recursion end.
unfoldable pub parts_at : ℕ → List ℕ → Option (List Part × List ℕ)
parts_at n [] = Some ([], [])
parts_at ℕ.zero (b ∷ bs) = None
parts_at (ℕ.suc n) (b ∷ bs) = next_part_at (b ∷ bs) >>= λ x. behind (x.0 ∷ []) (parts_at n x.1)

abbrev pub parts_in : List ℕ → Option (List Part × List ℕ)
parts_in bytes = parts_at (length bytes) bytes

-- what one part, or the end of the text, implies for all that follow
abbrev pub ContinuesParts : Result (Option Part) ListCause → List ℕ → List ℕ → Type 0
ContinuesParts (Ok None) rest bytes = parts_in bytes ≡ Some ([], rest)
ContinuesParts (Ok (Some x)) rest bytes = (length rest < length bytes) × (parts_in bytes ≡ behind (x ∷ []) (parts_in rest))
ContinuesParts (Err cause) rest bytes = Fails cause (parts_in bytes)

-- ---- requests

abbrev pub request_created : Created → Request
request_created x = requests.Create x.path x.content x.acl x.flags

abbrev pub request_written : Written → Request
request_written x = requests.SetData x.path x.content x.version

abbrev pub request_deleted : Named → Request
request_deleted x = requests.Delete x.path x.version

unfoldable pub set_acl_at : List ℕ → Option (Request × List ℕ)
set_acl_at bytes = mapped (λ x. requests.SetAcl x.0 x.1.0 x.1.1) (both (spaced text_field_at) (both (spaced acl_field_at) (spaced int_field_at))) bytes

abbrev pub request_words : List (List ℕ × (List ℕ → Option (Request × List ℕ)))
request_words =
    (codes "create", mapped request_created created_at) ∷ (codes "delete", mapped request_deleted named_at) ∷ (codes "set", mapped request_written written_at) ∷ (codes "setacl", set_acl_at) ∷ (codes "multi", mapped requests.Multi parts_in) ∷ (codes "open", mapped requests.OpenSession (spaced int_field_at)) ∷ (codes "close", λ bytes. Some (requests.CloseSession, bytes)) ∷ []

unfoldable pub request_at : List ℕ → Option (Request × List ℕ)
request_at bytes = by_word request_words bytes

-- ---- reads

abbrev pub call_of : Aspect → List ℕ → ReadCall
call_of aspects.Content path = calls.GetData path
call_of aspects.Existence path = calls.Exists path
call_of aspects.Children path = calls.GetChildren path
call_of aspects.Acl path = calls.GetAcl path

abbrev pub lookup_of : Aspect → Bool → List ℕ → Lookup
lookup_of aspect watch path = if is_none (fault_of path) then lookups.Asks (call_of aspect path) watch else lookups.BadPath

abbrev pub watched_at : Aspect → List ℕ → Option (Lookup × List ℕ)
watched_at aspect bytes = let w = flag_at (codes "-w") bytes in mapped (lookup_of aspect w.0) (spaced text_field_at) w.1

abbrev pub lookup_words : List (List ℕ × (List ℕ → Option (Lookup × List ℕ)))
lookup_words =
    (codes "get", watched_at aspects.Content) ∷ (codes "stat", watched_at aspects.Existence) ∷ (codes "ls", watched_at aspects.Children) ∷ (codes "getacl", mapped (lookup_of aspects.Acl false) (spaced text_field_at)) ∷ []

unfoldable pub lookup_at : List ℕ → Option (Lookup × List ℕ)
lookup_at bytes = by_word lookup_words bytes

-- ---- whole texts

abbrev pub if_nothing_left : {X : Type 0} → X × List ℕ → Option X
if_nothing_left x = if length x.1 == 0 then Some x.0 else None

abbrev pub whole : {X : Type 0} → Option (X × List ℕ) → Option X
whole read = read >>= if_nothing_left
