-- Parts of a multi: reading is the inverse of writing.
use Rattle.std.proofs.Common.{◌≡◌, ℕ, ℤ, pos, negsuc, true, List, [], ◌++◌, length, Ok, refl, sym, ap, subst, ◌∙◌, append_assoc, lit<}
use Rattle.std.specs.Prelude.{FitsSigned}
use Rattle.std.specs.Int.{w32}
use Rattle.std.specs.Ordering.{int_eq}
use Rattle.std.proofs.lemmas.Bool.Decides.{Decides-int_eq}
use Rattle.std.proofs.lemmas.List.{append-nil}
use Rattle.zk_table.specs.declared.sub.Sub.{Sub}
use Rattle.zk_table.specs.declared.sub.Sub.TheVariants as subs
use Rattle.zk_jute.specs.declared.multis.PartKind.{PartKind}
use Rattle.zk_jute.specs.declared.multis.PartKind.TheVariants as parts
use Rattle.zk_records.specs.Records.{int, ustring, vector, part_kind_of, part_body_of, part_of, IsShort, AreElements, IsSub, IsPart}
use Rattle.zk_jute.specs.Reading.{◌>>=◌, number_at, counted_at, whole, known_part, part_kind_at, check_at, create_part, set_data_part, part_body_at, part_at, vector_at}
use Rattle.zk_jute.proofs.Numbers.{IsBytes, IsBytes-between, TakesFront, TakesFront-then, IsField, first_read, took_all, bind_ok, done, at_ok, made_takes, whole_ok, either}
use Rattle.zk_jute.proofs.Texts.{int_field, counted_field, path_field, count}
use Rattle.zk_jute.proofs.Vectors.{vector_field}
use Rattle.zk_jute.proofs.Creates.{create_field, set_data_field}

-- ---- types of parts

abbrev pub number_of : PartKind → ℤ
number_of parts.Create = pos 1
number_of parts.Delete = pos 2
number_of parts.SetData = pos 5
number_of parts.Check = pos 13
number_of parts.Error = negsuc 0

abbrev pub part_kind : PartKind → List ℕ
part_kind kind = int (number_of kind)

abbrev pub IsKind : PartKind → Type 0
IsKind kind = Unit {0}

number_fits : (kind : PartKind) → FitsSigned w32 (number_of kind)
number_fits parts.Create = record { sfits = lit< tt }
number_fits parts.Delete = record { sfits = lit< tt }
number_fits parts.SetData = record { sfits = lit< tt }
number_fits parts.Check = record { sfits = lit< tt }
number_fits parts.Error = record { sfits = lit< tt }

-- the number read is that of the type
same_number : (number known : ℤ) (kind : PartKind) (rest : List ℕ) (x : PartKind × List ℕ) → int_eq number known ≡ true → known ≡ number_of kind → done (kind, rest) ≡ done x → (number ≡ number_of x.0) × (rest ≡ x.1)
same_number number known kind rest x same is e =
    at_ok (λ (y : PartKind × List ℕ). (number ≡ number_of y.0) × (rest ≡ y.1)) (kind, rest) x e ((Decides-int_eq number known).0 same ∙ is, refl)

known_part_is : (number : ℤ) (rest : List ℕ) (x : PartKind × List ℕ) → known_part number rest ≡ Ok x → (number ≡ number_of x.0) × (rest ≡ x.1)
known_part_is number rest x e =
    let P : Type 0 = (number ≡ number_of x.0) × (rest ≡ x.1) in
    either _ _ _ x P (λ same h. same_number number (pos 1) parts.Create rest x same refl h)
    (either _ _ _ x P (λ same h. same_number number (pos 2) parts.Delete rest x same refl h)
    (either _ _ _ x P (λ same h. same_number number (pos 5) parts.SetData rest x same refl h)
    (either _ _ _ x P (λ same h. same_number number (pos 13) parts.Check rest x same refl h)
    (either _ _ _ x P (λ same h. same_number number (negsuc 0) parts.Error rest x same refl h)
    (λ h. absurd (cc)))))) e

part_kind_takes : (bytes : List ℕ) (x : PartKind × List ℕ) → IsBytes bytes → part_kind_at bytes ≡ Ok x → TakesFront bytes (part_kind x.0) x.1 × IsKind x.0
unfolding part_kind_at
part_kind_takes bytes x fits e =
    let a = first_read _ _ _ int_field bytes (λ kind. known_part kind.0 kind.1) x fits e in
    let same = known_part_is a.got.0 a.got.1 x a.goes in
    let kept : TakesFront bytes (int a.got.0) x.1 = subst (λ (rest : List ℕ). TakesFront bytes (int a.got.0) rest) same.1 a.took in
    (subst (λ (z : ℤ). TakesFront bytes (int z) x.1) same.0 kept, tt)

known_again : (kind : PartKind) (rest : List ℕ) → known_part (number_of kind) rest ≡ Ok (kind, rest)
known_again parts.Create rest = refl
known_again parts.Delete rest = refl
known_again parts.SetData rest = refl
known_again parts.Check rest = refl
known_again parts.Error rest = refl

part_kind_again : (kind : PartKind) (rest : List ℕ) → IsKind kind → part_kind_at (part_kind kind ++ rest) ≡ Ok (kind, rest)
unfolding part_kind_at
part_kind_again kind rest is = rw (int_field.again (number_of kind) rest (number_fits kind)) (known_again kind rest)

pub part_kind_field : IsField part_kind_at part_kind IsKind
part_kind_field = record { takes = part_kind_takes; again = part_kind_again }

-- ---- bodies of parts

-- a body of a type was read
pub record IsPartBody (bytes : List ℕ) (kind : PartKind) (x : Sub × List ℕ) : Type 0 where
  pub took : TakesFront bytes (part_body_of x.0) x.1
  pub typed : part_kind_of x.0 ≡ number_of kind
  pub fits : IsSub x.0

check_takes : (bytes : List ℕ) (x : Sub × List ℕ) → IsBytes bytes → check_at bytes ≡ Ok x → IsPartBody bytes parts.Check x
unfolding check_at
check_takes bytes x fits e =
    let a = first_read _ _ _ path_field bytes (λ path. number_at w32 path.1 >>= λ version. Ok (subs.Check path.0 version.0, version.1)) x fits e in
    let b = first_read _ _ _ int_field a.got.1 (λ version. Ok (subs.Check a.got.0 version.0, version.1)) x a.took.rest_fits a.goes in
    let both = TakesFront-then bytes (ustring a.got.0) a.got.1 (int b.got.0) b.got.1 a.took b.took in
    let made : Sub × List ℕ = (subs.Check a.got.0 b.got.0, b.got.1) in
    at_ok (λ (y : Sub × List ℕ). IsPartBody bytes parts.Check y) made x b.goes (record { took = both; typed = refl; fits = (a.fits, b.fits) })

part_body_takes : (kind : PartKind) (bytes : List ℕ) (x : Sub × List ℕ) → IsBytes bytes → part_body_at kind bytes ≡ Ok x → IsPartBody bytes kind x
unfolding part_body_at
part_body_takes parts.Create bytes x fits e =
    made_takes _ _ _ create_field create_part bytes x (λ (y : Sub × List ℕ). IsPartBody bytes parts.Create y) fits e (λ body rest took is. record { took = took; typed = refl; fits = is })
part_body_takes parts.Delete bytes x fits e =
    made_takes _ _ _ path_field subs.Delete bytes x (λ (y : Sub × List ℕ). IsPartBody bytes parts.Delete y) fits e (λ path rest took is. record { took = took; typed = refl; fits = is })
part_body_takes parts.SetData bytes x fits e =
    made_takes _ _ _ set_data_field set_data_part bytes x (λ (y : Sub × List ℕ). IsPartBody bytes parts.SetData y) fits e (λ body rest took is. record { took = took; typed = refl; fits = is })
part_body_takes parts.Check bytes x fits e = check_takes bytes x fits e
part_body_takes parts.Error bytes x fits e =
    made_takes _ _ _ int_field subs.Error bytes x (λ (y : Sub × List ℕ). IsPartBody bytes parts.Error y) fits e (λ code rest took is. record { took = took; typed = refl; fits = is })

-- the type of a part
abbrev pub kind_of_part : Sub → PartKind
kind_of_part (subs.Create path content acl ephemeral count) = parts.Create
kind_of_part (subs.Delete path) = parts.Delete
kind_of_part (subs.SetData path content version) = parts.SetData
kind_of_part (subs.Check path version) = parts.Check
kind_of_part (subs.Error code) = parts.Error

numbered : (sub : Sub) → part_kind_of sub ≡ number_of (kind_of_part sub)
numbered (subs.Create path content acl ephemeral count) = refl
numbered (subs.Delete path) = refl
numbered (subs.SetData path content version) = refl
numbered (subs.Check path version) = refl
numbered (subs.Error code) = refl

part_body_again : (sub : Sub) (rest : List ℕ) → IsSub sub → part_body_at (kind_of_part sub) (part_body_of sub ++ rest) ≡ Ok (sub, rest)
unfolding part_body_at check_at
part_body_again (subs.Create path content acl ephemeral count) rest is = rw (create_field.again (record { front = record { path = path; content = content; acl = acl; ephemeral = ephemeral }; count = count }) rest is) refl
part_body_again (subs.Delete path) rest is = rw (path_field.again path rest is) refl
part_body_again (subs.SetData path content version) rest is = rw (set_data_field.again (record { path = path; content = content; version = version }) rest is) refl
part_body_again (subs.Check path version) rest is =
    ap check_at (append_assoc (ustring path) (int version) rest) ∙ rw (path_field.again path (int version ++ rest) is.0, int_field.again version rest is.1) refl
part_body_again (subs.Error code) rest is = rw (int_field.again code rest is) refl

-- ---- parts

part_spelled : (bytes rest body : List ℕ) (kind : PartKind) (sub : Sub) → TakesFront bytes (part_kind kind ++ ustring body) rest → part_kind_of sub ≡ number_of kind → body ≡ part_body_of sub → IsSub sub → IsShort body → TakesFront bytes (part_of sub) rest × IsPart sub
part_spelled bytes rest body kind sub took typed is fits short =
    let numbered_so : TakesFront bytes (int (part_kind_of sub) ++ ustring body) rest = subst (λ (z : ℤ). TakesFront bytes (int z ++ ustring body) rest) (sym typed) took in
    (subst (λ (bs : List ℕ). TakesFront bytes (int (part_kind_of sub) ++ ustring bs) rest) is numbered_so, record { fits = fits; short = subst IsShort is short })

part_takes : (bytes : List ℕ) (x : Sub × List ℕ) → IsBytes bytes → part_at bytes ≡ Ok x → TakesFront bytes (part_of x.0) x.1 × IsPart x.0
unfolding part_at
part_takes bytes x fits e =
    let a = first_read _ _ _ part_kind_field bytes (λ kind. counted_at kind.1 >>= λ body. whole (part_body_at kind.0 body.0) >>= λ sub. Ok (sub, body.1)) x fits e in
    let b = first_read _ _ _ counted_field a.got.1 (λ body. whole (part_body_at a.got.0 body.0) >>= λ sub. Ok (sub, body.1)) x a.took.rest_fits a.goes in
    let body = b.got.0 in
    let c = bind_ok {A = Sub} {B = Sub × List ℕ} (whole (part_body_at a.got.0 body)) (λ sub. Ok (sub, b.got.1)) x b.goes in
    let inside = IsBytes-between a.got.1 (count (length body)) body b.got.1 b.took.parts a.took.rest_fits in
    let read = part_body_takes a.got.0 body (c.0, []) inside (whole_ok (part_body_at a.got.0 body) c.0 c.1) in
    let is : body ≡ part_body_of c.0 = took_all body (part_body_of c.0) read.took in
    let both = TakesFront-then bytes (part_kind a.got.0) a.got.1 (ustring body) b.got.1 a.took b.took in
    let spelled = part_spelled bytes b.got.1 body a.got.0 c.0 both read.typed is read.fits b.fits in
    let made : Sub × List ℕ = (c.0, b.got.1) in
    at_ok (λ (y : Sub × List ℕ). TakesFront bytes (part_of y.0) y.1 × IsPart y.0) made x c.2 spelled

part_again : (sub : Sub) (rest : List ℕ) → IsPart sub → part_at (part_of sub ++ rest) ≡ Ok (sub, rest)
unfolding part_at
part_again sub rest is =
    let body = part_body_of sub in
    let regrouped : part_of sub ++ rest ≡ part_kind (kind_of_part sub) ++ (ustring body ++ rest) = append_assoc (int (part_kind_of sub)) (ustring body) rest ∙ ap (λ (z : ℤ). int z ++ (ustring body ++ rest)) (numbered sub) in
    let inside : part_body_at (kind_of_part sub) body ≡ Ok (sub, []) = ap (part_body_at (kind_of_part sub)) (sym (append-nil body)) ∙ part_body_again sub [] is.fits in
    ap part_at regrouped ∙ rw (part_kind_field.again (kind_of_part sub) (ustring body ++ rest) tt, counted_field.again body rest is.short, inside) refl

pub part_field : IsField part_at part_of IsPart
part_field = record { takes = part_takes; again = part_again }

pub parts_field : IsField (vector_at part_at) (vector part_of) (AreElements IsPart)
parts_field = vector_field part_at part_of IsPart part_field
