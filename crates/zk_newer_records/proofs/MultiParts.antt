-- Parts of a multi and their encodings: reading is the inverse of writing.
use Rattle.std.proofs.Common.{◌≡◌, ℕ, ℤ, pos, negsuc, Bool, true, false, List, [], ◌++◌, length, Option, Result, Ok, refl, sym, ap, subst, ◌∙◌, append_assoc, lit<}
use Rattle.std.specs.Prelude.{FitsSigned}
use Rattle.std.specs.Int.{w32, w64}
use Rattle.std.specs.Ordering.{int_eq}
use Rattle.std.proofs.lemmas.Bool.Decides.{Decides-int_eq}
use Rattle.std.proofs.lemmas.List.{append-nil}
use Rattle.zk_acl.specs.declared.acl.Acl.{Acl}
use Rattle.zk_table.specs.declared.sub.Sub.{Sub}
use Rattle.zk_table.specs.declared.sub.Sub.TheVariants as subs
use Rattle.zk_jute.specs.declared.bodies.CreateTxn.{CreateTxn}
use Rattle.zk_jute.specs.declared.fault.JuteFault.{JuteFault}
use Rattle.zk_records.specs.Records.{int, long, ustring, vector, IsShort, IsPathText, IsCreateOld, IsSub, AreElements}
use Rattle.zk_jute.specs.Reading.{◌>>=◌, number_at, counted_at, vector_at, check_at, made_of, whole, create_part, set_data_part}
use Rattle.zk_jute.proofs.Numbers.{IsBytes, IsBytes-between, TakesFront, TakesFront-then, IsField, first_read, took_all, bind_ok, at_ok, made_takes, whole_ok, either}
use Rattle.zk_jute.proofs.Texts.{int_field, long_field, counted_field, path_field, count}
use Rattle.zk_jute.proofs.Vectors.{vector_field}
use Rattle.zk_jute.proofs.Creates.{create_field, set_data_field}
use Rattle.zk_newer_records.specs.declared.parts.NewerPart.{NewerPart}
use Rattle.zk_newer_records.specs.declared.parts.PartEncoding.{PartEncoding}
use Rattle.zk_newer_records.specs.declared.parts.PartEncoding.TheVariants as parts
use Rattle.zk_newer_records.specs.NewerRecords.{written_part_kind, written_part_body, IsPartEncoding, IsNewerPart, newer_part}
use Rattle.zk_newer_records.specs.Reading.{plain_create, part_with, ttl_part_at, error_at, newer_body_at, newer_part_at}
use Rattle.zk_newer_records.proofs.Containers.{container_txn, IsContainerTxn, container_field}
use Rattle.zk_newer_records.proofs.KeptBodies.{IsReadPart, long_alone, error_takes, error_alone, kept_again, kept_container_again, kept_ttl_again}

-- ---- checks, which also occur alone

pub check_takes : (bytes : List ℕ) (x : Sub × List ℕ) (P : Sub × List ℕ → Type 0) → IsBytes bytes → check_at bytes ≡ Ok x
    → ((path : List ℕ) (version : ℤ) (rest : List ℕ) → TakesFront bytes (ustring path ++ int version) rest → IsPathText path → FitsSigned w32 version → P (subs.Check path version, rest)) → P x
unfolding check_at
check_takes bytes x P fits e holds =
    let a = first_read _ _ _ path_field bytes (λ path. number_at w32 path.1 >>= λ version. Ok (subs.Check path.0 version.0, version.1)) x fits e in
    let b = first_read _ _ _ int_field a.got.1 (λ version. Ok (subs.Check a.got.0 version.0, version.1)) x a.took.rest_fits a.goes in
    let both = TakesFront-then bytes (ustring a.got.0) a.got.1 (int b.got.0) b.got.1 a.took b.took in
    let made : Sub × List ℕ = (subs.Check a.got.0 b.got.0, b.got.1) in
    at_ok P made x b.goes (holds a.got.0 b.got.0 b.got.1 both a.fits b.fits)

pub check_again : (path : List ℕ) (version : ℤ) (rest : List ℕ) → IsPathText path → FitsSigned w32 version → check_at ((ustring path ++ int version) ++ rest) ≡ Ok (subs.Check path version, rest)
unfolding check_at
check_again path version rest is fits =
    ap check_at (append_assoc (ustring path) (int version) rest) ∙ rw (path_field.again path (int version ++ rest) is, int_field.again version rest fits) refl

check_alone : (path : List ℕ) (version : ℤ) → IsPathText path → FitsSigned w32 version → check_at (ustring path ++ int version) ≡ Ok (subs.Check path version, [])
check_alone path version is fits = ap check_at (sym (append-nil (ustring path ++ int version))) ∙ check_again path version [] is fits

-- ---- what is read

abbrev pub is_part : List ℕ → ℤ → NewerPart × List ℕ → Type 0
is_part bytes kind x = IsReadPart bytes kind x

at_kind : (kind known : ℤ) (bytes : List ℕ) (x : NewerPart × List ℕ) → int_eq kind known ≡ true → IsReadPart bytes known x → IsReadPart bytes kind x
at_kind kind known bytes x same is = subst (λ (k : ℤ). IsReadPart bytes k x) (sym ((Decides-int_eq kind known).0 same)) is

-- a container's create, whose node no session owns
made_loose : (bytes : List ℕ) (body : CreateTxn) (rest : List ℕ) → TakesFront bytes (container_txn body) rest → IsContainerTxn body → IsReadPart bytes (pos 19) (part_with parts.Container (create_part body), rest)
made_loose bytes body rest took is =
    subst (λ (flag : Bool). IsReadPart bytes (pos 19) (part_with parts.Container (subs.Create body.front.path body.front.content body.front.acl flag body.count), rest)) (sym is.persistent)
    (record { took = took; typed = refl; fits = (is.front.0, is.front.1, is.front.2, is.count); form = tt })

ttl_takes : (bytes : List ℕ) (x : NewerPart × List ℕ) → IsBytes bytes → ttl_part_at parts.Ttl bytes ≡ Ok x → IsReadPart bytes (pos 21) x
unfolding ttl_part_at
ttl_takes bytes x fits e =
    let a = first_read _ _ _ container_field bytes (λ body. number_at w64 body.1 >>= λ ttl. Ok (part_with (parts.Ttl ttl.0) (create_part body.0), ttl.1)) x fits e in
    let b = first_read _ _ _ long_field a.got.1 (λ ttl. Ok (part_with (parts.Ttl ttl.0) (create_part a.got.0), ttl.1)) x a.took.rest_fits a.goes in
    let body = a.got.0 in
    let all = TakesFront-then bytes (container_txn body) a.got.1 (long b.got.0) b.got.1 a.took b.took in
    let made : NewerPart × List ℕ = (part_with (parts.Ttl b.got.0) (create_part body), b.got.1) in
    at_ok (is_part bytes (pos 21)) made x b.goes
    (subst (λ (flag : Bool). IsReadPart bytes (pos 21) (part_with (parts.Ttl b.got.0) (subs.Create body.front.path body.front.content body.front.acl flag body.count), b.got.1)) (sym a.fits.persistent)
    (record { took = all; typed = refl; fits = (a.fits.front.0, a.fits.front.1, a.fits.front.2, a.fits.count); form = (tt, b.fits) }))

own_check_takes : (bytes : List ℕ) (x : NewerPart × List ℕ) → IsBytes bytes → made_of (part_with parts.Own) (check_at bytes) ≡ Ok x → IsReadPart bytes (pos 13) x
own_check_takes bytes x fits e =
    let a = bind_ok {A = Sub × List ℕ} {B = NewerPart × List ℕ} (check_at bytes) (λ y. Ok (part_with parts.Own y.0, y.1)) x e in
    let made : NewerPart × List ℕ = (part_with parts.Own a.0.0, a.0.1) in
    at_ok (is_part bytes (pos 13)) made x a.2
    (check_takes bytes a.0 (λ (y : Sub × List ℕ). IsReadPart bytes (pos 13) (part_with parts.Own y.0, y.1)) fits a.1 (λ path version rest took is number. record { took = took; typed = refl; fits = (is, number); form = tt }))

pub part_body_takes : (kind : ℤ) (bytes : List ℕ) (x : NewerPart × List ℕ) → IsBytes bytes → newer_body_at kind bytes ≡ Ok x → IsReadPart bytes kind x
unfolding newer_body_at
part_body_takes kind bytes x fits e =
    let P : Type 0 = IsReadPart bytes kind x in
    either _ _ _ x P (λ same h. at_kind kind (pos 1) bytes x same (made_takes _ _ _ create_field (λ body. part_with parts.Own (create_part body)) bytes x (is_part bytes (pos 1)) fits h (λ body rest took is. record { took = took; typed = refl; fits = is; form = tt })))
    (either _ _ _ x P (λ same h. at_kind kind (pos 2) bytes x same (made_takes _ _ _ path_field (λ path. part_with parts.Own (subs.Delete path)) bytes x (is_part bytes (pos 2)) fits h (λ path rest took is. record { took = took; typed = refl; fits = is; form = tt })))
    (either _ _ _ x P (λ same h. at_kind kind (pos 5) bytes x same (made_takes _ _ _ set_data_field (λ body. part_with parts.Own (set_data_part body)) bytes x (is_part bytes (pos 5)) fits h (λ body rest took is. record { took = took; typed = refl; fits = is; form = tt })))
    (either _ _ _ x P (λ same h. at_kind kind (pos 13) bytes x same (own_check_takes bytes x fits h))
    (either _ _ _ x P (λ same h. at_kind kind (pos 19) bytes x same (made_takes _ _ _ container_field (λ body. part_with parts.Container (create_part body)) bytes x (is_part bytes (pos 19)) fits h (λ body rest took is. made_loose bytes body rest took is)))
    (either _ _ _ x P (λ same h. at_kind kind (pos 20) bytes x same (made_takes _ _ _ path_field (λ path. part_with parts.DeletedContainer (subs.Delete path)) bytes x (is_part bytes (pos 20)) fits h (λ path rest took is. record { took = took; typed = refl; fits = is; form = tt })))
    (either _ _ _ x P (λ same h. at_kind kind (pos 21) bytes x same (ttl_takes bytes x fits h))
    (either _ _ _ x P (λ same h. at_kind kind (negsuc 0) bytes x same (error_takes bytes x fits h))
    (λ h. absurd (cc))))))))) e

-- a part as it was written
part_spelled : (bytes rest body : List ℕ) (kind : ℤ) (part : NewerPart) → TakesFront bytes (int kind ++ ustring body) rest → IsReadPart body kind (part, []) → IsShort body → TakesFront bytes (newer_part part) rest × IsNewerPart part
part_spelled bytes rest body kind part took read short =
    let is : body ≡ written_part_body part.sub part.form = took_all body (written_part_body part.sub part.form) read.took in
    let typed : TakesFront bytes (int (written_part_kind part.sub part.form) ++ ustring body) rest = subst (λ (z : ℤ). TakesFront bytes (int z ++ ustring body) rest) (sym read.typed) took in
    (subst (λ (bs : List ℕ). TakesFront bytes (int (written_part_kind part.sub part.form) ++ ustring bs) rest) is typed, record { fits = read.fits; form = read.form; short = subst IsShort is short })

part_takes : (bytes : List ℕ) (x : NewerPart × List ℕ) → IsBytes bytes → newer_part_at bytes ≡ Ok x → TakesFront bytes (newer_part x.0) x.1 × IsNewerPart x.0
unfolding newer_part_at
part_takes bytes x fits e =
    let a = first_read _ _ _ int_field bytes (λ kind. counted_at kind.1 >>= λ body. whole (newer_body_at kind.0 body.0) >>= λ part. Ok (part, body.1)) x fits e in
    let b = first_read _ _ _ counted_field a.got.1 (λ body. whole (newer_body_at a.got.0 body.0) >>= λ part. Ok (part, body.1)) x a.took.rest_fits a.goes in
    let body = b.got.0 in
    let c = bind_ok {A = NewerPart} {B = NewerPart × List ℕ} (whole (newer_body_at a.got.0 body)) (λ part. Ok (part, b.got.1)) x b.goes in
    let inside = IsBytes-between a.got.1 (count (length body)) body b.got.1 b.took.parts a.took.rest_fits in
    let read = part_body_takes a.got.0 body (c.0, []) inside (whole_ok (newer_body_at a.got.0 body) c.0 c.1) in
    let both = TakesFront-then bytes (int a.got.0) a.got.1 (ustring body) b.got.1 a.took b.took in
    let made : NewerPart × List ℕ = (c.0, b.got.1) in
    at_ok (λ (y : NewerPart × List ℕ). TakesFront bytes (newer_part y.0) y.1 × IsNewerPart y.0) made x c.2 (part_spelled bytes b.got.1 body a.got.0 c.0 both read b.fits)

-- ---- reading what was written

pub alone : {A : Type 0} (read : List ℕ → Result (A × List ℕ) JuteFault) (spell : A → List ℕ) (Fits : A → Type 0) → IsField read spell Fits → (x : A) → Fits x → read (spell x) ≡ Ok (x, [])
alone read spell Fits field x is = ap read (sym (append-nil (spell x))) ∙ field.again x [] is

abbrev loose_txn : List ℕ → Option (List ℕ) → List Acl → ℤ → CreateTxn
loose_txn path content acl count = plain_create path content acl false count

pub loose_fits : (path : List ℕ) (content : Option (List ℕ)) (acl : List Acl) (count : ℤ) → IsPathText path → IsCreateOld path content acl → FitsSigned w32 count → IsContainerTxn (plain_create path content acl false count)
loose_fits path content acl count is front fits = record { front = front; count = fits; persistent = refl }

own_again : (sub : Sub) → IsSub sub → newer_body_at (written_part_kind sub parts.Own) (written_part_body sub parts.Own) ≡ Ok (part_with parts.Own sub, [])
unfolding newer_body_at
own_again (subs.Create path content acl ephemeral count) is = rw (alone _ _ _ create_field (plain_create path content acl ephemeral count) is) refl
own_again (subs.Delete path) is = rw (alone _ _ _ path_field path is) refl
own_again (subs.SetData path content version) is = rw (alone _ _ _ set_data_field (record { path = path; content = content; version = version }) is) refl
own_again (subs.Check path version) is = rw (check_alone path version is.0 is.1) refl
own_again (subs.Error code) is = error_alone code is

container_again : (sub : Sub) → IsSub sub → IsPartEncoding sub parts.Container → newer_body_at (pos 19) (written_part_body sub parts.Container) ≡ Ok (part_with parts.Container sub, [])
unfolding newer_body_at
container_again (subs.Create path content acl true count) is form = absurd form
container_again (subs.Create path content acl false count) is form = rw (alone _ _ _ container_field (loose_txn path content acl count) (loose_fits path content acl count is.0 (is.0, is.1, is.2) is.3)) refl
container_again (subs.Delete path) is form = absurd form
container_again (subs.SetData path content version) is form = absurd form
container_again (subs.Check path version) is form = absurd form
container_again (subs.Error code) is form = absurd form

ttl_again : (sub : Sub) (ttl : ℤ) → IsSub sub → IsPartEncoding sub (parts.Ttl ttl) → newer_body_at (pos 21) (written_part_body sub (parts.Ttl ttl)) ≡ Ok (part_with (parts.Ttl ttl) sub, [])
unfolding newer_body_at ttl_part_at
ttl_again (subs.Create path content acl true count) ttl is form = absurd form.0
ttl_again (subs.Create path content acl false count) ttl is form = rw (container_field.again (loose_txn path content acl count) (long ttl) (loose_fits path content acl count is.0 (is.0, is.1, is.2) is.3)) (ap (λ (read : Result (ℤ × List ℕ) JuteFault). read >>= λ ttl. Ok (part_with (parts.Ttl ttl.0) (subs.Create path content acl false count), ttl.1)) (long_alone ttl form.1))
ttl_again (subs.Delete path) ttl is form = absurd form.0
ttl_again (subs.SetData path content version) ttl is form = absurd form.0
ttl_again (subs.Check path version) ttl is form = absurd form.0
ttl_again (subs.Error code) ttl is form = absurd form.0

deleted_again : (sub : Sub) → IsSub sub → IsPartEncoding sub parts.DeletedContainer → newer_body_at (pos 20) (written_part_body sub parts.DeletedContainer) ≡ Ok (part_with parts.DeletedContainer sub, [])
unfolding newer_body_at
deleted_again (subs.Create path content acl ephemeral count) is form = absurd form
deleted_again (subs.Delete path) is form = rw (alone _ _ _ path_field path is) refl
deleted_again (subs.SetData path content version) is form = absurd form
deleted_again (subs.Check path version) is form = absurd form
deleted_again (subs.Error code) is form = absurd form

error_body_again : (bytes : List ℕ) (read : Result (NewerPart × List ℕ) JuteFault) → error_at bytes ≡ read → newer_body_at (negsuc 0) bytes ≡ read
unfolding newer_body_at
error_body_again bytes read e = e

pub part_body_again : (sub : Sub) (form : PartEncoding) → IsSub sub → IsPartEncoding sub form → newer_body_at (written_part_kind sub form) (written_part_body sub form) ≡ Ok (part_with form sub, [])
part_body_again sub parts.Own is form = own_again sub is
part_body_again sub parts.Container is form = container_again sub is form
part_body_again sub (parts.Ttl ttl) is form = ttl_again sub ttl is form
part_body_again sub parts.DeletedContainer is form = deleted_again sub is form
part_body_again sub parts.Kept is form = error_body_again _ _ (kept_again sub is form)
part_body_again sub parts.KeptContainer is form = error_body_again _ _ (kept_container_again sub is form)
part_body_again sub (parts.KeptTtl ttl) is form = error_body_again _ _ (kept_ttl_again sub ttl is form)

own_kind_fits : (sub : Sub) → FitsSigned w32 (written_part_kind sub parts.Own)
own_kind_fits (subs.Create path content acl ephemeral count) = record { sfits = lit< tt }
own_kind_fits (subs.Delete path) = record { sfits = lit< tt }
own_kind_fits (subs.SetData path content version) = record { sfits = lit< tt }
own_kind_fits (subs.Check path version) = record { sfits = lit< tt }
own_kind_fits (subs.Error code) = record { sfits = lit< tt }

part_kind_fits : (sub : Sub) (form : PartEncoding) → FitsSigned w32 (written_part_kind sub form)
part_kind_fits sub parts.Own = own_kind_fits sub
part_kind_fits sub parts.Container = record { sfits = lit< tt }
part_kind_fits sub (parts.Ttl ttl) = record { sfits = lit< tt }
part_kind_fits sub parts.DeletedContainer = record { sfits = lit< tt }
part_kind_fits sub parts.Kept = record { sfits = lit< tt }
part_kind_fits sub parts.KeptContainer = record { sfits = lit< tt }
part_kind_fits sub (parts.KeptTtl ttl) = record { sfits = lit< tt }

part_again : (part : NewerPart) (rest : List ℕ) → IsNewerPart part → newer_part_at (newer_part part ++ rest) ≡ Ok (part, rest)
unfolding newer_part_at
part_again part rest is =
    let kind = written_part_kind part.sub part.form in
    let body = written_part_body part.sub part.form in
    ap newer_part_at (append_assoc (int kind) (ustring body) rest)
    ∙ rw (int_field.again kind (ustring body ++ rest) (part_kind_fits part.sub part.form), counted_field.again body rest is.short, part_body_again part.sub part.form is.fits is.form) refl

pub newer_part_field : IsField newer_part_at newer_part IsNewerPart
newer_part_field = record { takes = part_takes; again = part_again }

pub newer_parts_field : IsField (vector_at newer_part_at) (vector newer_part) (AreElements IsNewerPart)
newer_parts_field = vector_field newer_part_at newer_part IsNewerPart newer_part_field
