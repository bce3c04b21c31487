-- A listing is UTF-8.
use Rattle.std.proofs.Common.{◌≡◌, ℕ, zero, suc, ◌<◌, ℤ, List, [], ◌∷◌, ◌++◌, Bool, true, false, eqb, ◌&&◌, inl, inr, length, Option, Some, None, refl, ap, ◌∙◌, arith}
use Rattle.std.proofs.lemmas.Bool.{cases_lt}
use Rattle.std.proofs.lemmas.Bool.Decides.{nat_tests}
use Rattle.std.proofs.lemmas.Fmt.{IsAscii-decimal, IsAscii-signed}
use Rattle.std.proofs.lemmas.Str.{IsUtf8-append, IsUtf8-from_ascii, IsUtf8-encode, IsUtf8-nil, scalars-chars}
use Rattle.std.proofs.lemmas.Str.Ascii.{IsAscii-nil, IsAscii-cons}
use Rattle.std.specs.Char.{is_ascii_control}
use lib.Utf8.{scalar, scalars, encode}
use Rattle.std.specs.Prelude.{FitsSigned, codes}
use Rattle.std.specs.Fmt.{decimal, signed_decimal, digits}
use Rattle.std.specs.Int.{w32, w64, to_be_bytes, cast_unsigned}
use Rattle.std.specs.List.{flat_map, AllByRecursion}
use Rattle.std.specs.Str.{IsUtf8, chars}
use Rattle.zk_acl.specs.declared.acl.Acl.{Acl}
use Rattle.zk_format.proofs.HexBytes.{both_true, low, ascii, digits_utf8}
use Rattle.zk_format.specs.Listings.{create_text, create_old_text, delete_text, set_data_text, set_acl_text, check_text, error_text, ephemeral_text, sub_text, part_text, op_text, header_text, line_of, listing_of, IsListed, IsListedAcl, AreListedAcls, IsListedPath, IsListedSub, IsListedOp}
use Rattle.zk_format.specs.Spelling.{escaped, quoted, content_text, acl_entry_text, acl_text, sixteen_digits, id_digits}
use Rattle.zk_table.specs.declared.sub.Sub.{Sub}
use Rattle.zk_table.specs.declared.sub.Sub.TheVariants as subs
use Rattle.zk_table.specs.declared.txn.Op.{Op}
use Rattle.zk_table.specs.declared.txn.Op.TheVariants as ops
use Rattle.zk_table.specs.declared.txn.Txn.{Txn}

-- ---- parts

join : {xs ys : List ℕ} → IsUtf8 xs → IsUtf8 ys → IsUtf8 (xs ++ ys)
join {xs} {ys} p q = IsUtf8-append xs ys p q

after : (b : ℕ) {text : List ℕ} → b < 128 → IsUtf8 text → IsUtf8 (b ∷ text)
after b {text} low p = IsUtf8-append (b ∷ []) text (IsUtf8-from_ascii (b ∷ []) (IsAscii-cons b [] low IsAscii-nil)) p

space : {text : List ℕ} → IsUtf8 text → IsUtf8 (32 ∷ text)
space p = after 32 (omega arith) p

each : {A : Type 0} (text : A → List ℕ) (Fits : A → Type 0) (xs : List A) → ((x : A) → Fits x → IsUtf8 (text x)) → AllByRecursion Fits xs → IsUtf8 (flat_map text xs)
each text Fits [] f p = IsUtf8-nil
each text Fits (x ∷ xs) f p = join (f x p.0) (each text Fits xs f p.1)

-- ---- ASCII

word : (bs : List ℕ) → low bs ≡ true → IsUtf8 bs
word bs e = IsUtf8-from_ascii bs (ascii bs e)

abbrev all_below : (ℕ → Bool) → ℕ → Bool
all_below p zero = true
all_below p (suc n) = p n && all_below p n

one_below : (p : ℕ → Bool) (n c : ℕ) → all_below p n ≡ true → c < n → p c ≡ true
one_below p zero c e less = absurd (omega (arith, less))
one_below p (suc n) c e less =
    let q = both_true (p n) (all_below p n) e in
    elim (cases_lt c n) [
      | inl lower ↦ one_below p n c q.1 lower
      | inr last ↦ let same : c ≡ n = omega arith in ap p same ∙ q.0
    ]

-- ---- numbers

long : (z : ℤ) → FitsSigned w64 z → IsUtf8 (signed_decimal z)
long z fits = IsUtf8-from_ascii (signed_decimal z) (IsAscii-signed z fits.sfits)

int : (z : ℤ) → FitsSigned w32 z → IsUtf8 (signed_decimal z)
int z fits = IsUtf8-from_ascii (signed_decimal z) (IsAscii-signed z (omega (arith, fits.sfits)))

id : (z : ℤ) → IsUtf8 (id_digits z)
unfolding sixteen_digits
id z = digits_utf8 (to_be_bytes w64 (cast_unsigned w64 z))

-- ---- texts

ascii_escaped : (c : ℕ) → c < 128 → low (escaped c) ≡ true
unfolding escaped encode digits
ascii_escaped c less = one_below (λ c. low (escaped c)) 128 c refl less

utf8_escaped : (c : ℕ) → scalar c ≡ true → IsUtf8 (escaped c)
unfolding escaped
utf8_escaped c is =
    elim (cases_lt c 128) [
      | inl small ↦ word (escaped c) (ascii_escaped c small)
      | inr high ↦
          let one : eqb c 34 ≡ false = grind (arith, nat_tests) in
          let two : eqb c 92 ≡ false = grind (arith, nat_tests) in
          let plain : is_ascii_control c ≡ false = grind (arith, nat_tests) in
          rw (one, two, plain) (IsUtf8-encode c is)
    ]

all_escaped : (cs : List ℕ) → scalars cs ≡ true → IsUtf8 (flat_map escaped cs)
all_escaped [] e = IsUtf8-nil
all_escaped (c ∷ cs) e = let p = both_true (scalar c) (scalars cs) e in join (utf8_escaped c p.0) (all_escaped cs p.1)

-- ---- fields

between_quotes : (text : List ℕ) → IsUtf8 text → IsUtf8 (quoted text)
unfolding quoted
between_quotes text p = join (after 34 (omega arith) (all_escaped (chars text) (scalars-chars text p))) (after 34 (omega arith) IsUtf8-nil)

content : (bytes : Option (List ℕ)) → IsUtf8 (content_text bytes)
unfolding content_text
content None = after 45 (omega arith) IsUtf8-nil
content (Some bytes) = after 120 (omega arith) (digits_utf8 bytes)

acl_entry : (acl : Acl) → IsListedAcl acl → IsUtf8 (acl_entry_text acl)
unfolding acl_entry_text
acl_entry acl p = join (join (space (int acl.perms p.perms)) (space (between_quotes acl.id.scheme p.scheme))) (space (between_quotes acl.id.id p.id))

acl_list : (acls : List Acl) → AreListedAcls acls → IsUtf8 (acl_text acls)
unfolding acl_text
acl_list acls p =
    join (IsUtf8-from_ascii (decimal (length acls)) (IsAscii-decimal (length acls) (omega (arith, p.few)))) (each acl_entry_text IsListedAcl acls acl_entry p.each)

kind : (ephemeral : Bool) → IsUtf8 (ephemeral_text ephemeral)
kind true = word (codes "e") refl
kind false = word (codes "p") refl

-- ---- operations

create : (path : List ℕ) (bytes : Option (List ℕ)) (acls : List Acl) (ephemeral : Bool) (count : ℤ) → IsListedPath path → AreListedAcls acls → FitsSigned w32 count
    → IsUtf8 (create_text path bytes acls ephemeral count)
create path bytes acls ephemeral count p q r =
    join (join (join (join (join (word (codes "create ") refl) (between_quotes path p.utf8)) (space (content bytes))) (space (acl_list acls q))) (space (kind ephemeral))) (space (int count r))

create_old : (path : List ℕ) (bytes : Option (List ℕ)) (acls : List Acl) (ephemeral : Bool) → IsListedPath path → AreListedAcls acls → IsUtf8 (create_old_text path bytes acls ephemeral)
create_old path bytes acls ephemeral p q =
    join (join (join (join (word (codes "create0 ") refl) (between_quotes path p.utf8)) (space (content bytes))) (space (acl_list acls q))) (space (kind ephemeral))

delete : (path : List ℕ) → IsListedPath path → IsUtf8 (delete_text path)
delete path p = join (word (codes "delete ") refl) (between_quotes path p.utf8)

set_data : (path : List ℕ) (bytes : Option (List ℕ)) (version : ℤ) → IsListedPath path → FitsSigned w32 version → IsUtf8 (set_data_text path bytes version)
set_data path bytes version p r = join (join (join (word (codes "setData ") refl) (between_quotes path p.utf8)) (space (content bytes))) (space (int version r))

set_acl : (path : List ℕ) (acls : List Acl) (version : ℤ) → IsListedPath path → AreListedAcls acls → FitsSigned w32 version → IsUtf8 (set_acl_text path acls version)
set_acl path acls version p q r = join (join (join (word (codes "setACL ") refl) (between_quotes path p.utf8)) (space (acl_list acls q))) (space (int version r))

check : (path : List ℕ) (version : ℤ) → IsListedPath path → FitsSigned w32 version → IsUtf8 (check_text path version)
check path version p r = join (join (word (codes "check ") refl) (between_quotes path p.utf8)) (space (int version r))

error : (code : ℤ) → FitsSigned w32 code → IsUtf8 (error_text code)
error code r = join (word (codes "error ") refl) (int code r)

part : (sub : Sub) → IsListedSub sub → IsUtf8 (sub_text sub)
part (subs.Create path bytes acls ephemeral count) p = create path bytes acls ephemeral count p.0 p.2 p.3
part (subs.Delete path) p = delete path p
part (subs.SetData path bytes version) p = set_data path bytes version p.0 p.2
part (subs.Check path version) p = check path version p.0 p.1
part (subs.Error code) p = error code p

behind : (sub : Sub) → IsListedSub sub → IsUtf8 (part_text sub)
behind sub p = join (word (codes " ; ") refl) (part sub p)

operation : (op : Op) → IsListedOp op → IsUtf8 (op_text op)
operation (ops.Create path bytes acls ephemeral count) p = create path bytes acls ephemeral count p.0 p.2 p.3
operation (ops.CreateOld path bytes acls ephemeral) p = create_old path bytes acls ephemeral p.0 p.2
operation (ops.Delete path) p = delete path p
operation (ops.SetData path bytes version) p = set_data path bytes version p.0 p.2
operation (ops.SetAcl path acls version) p = set_acl path acls version p.0 p.1 p.2
operation (ops.OpenSession timeout) p = join (word (codes "createSession ") refl) (int timeout p)
operation ops.CloseSession p = word (codes "closeSession") refl
operation (ops.Error code) p = error code p
operation (ops.Multi parts) p = join (word (codes "multi") refl) (each part_text IsListedSub parts behind p)

-- ---- lines

header : (txn : Txn) → IsListed txn → IsUtf8 (header_text txn)
header txn p = join (join (join (id txn.zxid) (space (id txn.session))) (space (int txn.cxid p.cxid))) (space (long txn.time p.time))

line : (txn : Txn) → IsListed txn → IsUtf8 (line_of txn)
line txn p = join (join (header txn p) (space (operation txn.op p.op))) (after 10 (omega arith) IsUtf8-nil)

pub listing_utf8 : (txns : List Txn) → AllByRecursion IsListed txns → IsUtf8 (listing_of txns)
listing_utf8 txns p = each line_of IsListed txns line p
