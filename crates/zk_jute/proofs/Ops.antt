-- Bodies by their types: reading is the inverse of writing.
use Rattle.std.proofs.Common.{◌≡◌, ℕ, ℤ, [], ◌∷◌, length, arith, length-append, Bool, Option, pos, negsuc, true, List, ◌++◌, Ok, refl, sym, ap, subst, ◌∙◌, append_assoc, lit<}
use Rattle.std.specs.Prelude.{FitsSigned}
use Rattle.std.specs.Int.{w32}
use Rattle.std.specs.Ordering.{int_eq}
use Rattle.std.proofs.lemmas.Bool.Decides.{Decides-int_eq}
use Rattle.zk_acl.specs.declared.acl.Acl.{Acl}
use Rattle.zk_jute.specs.declared.bodies.CreateTxnV0.{CreateTxnV0}
use Rattle.zk_table.specs.declared.txn.Op.{Op}
use Rattle.zk_table.specs.declared.txn.Op.TheVariants as ops
use Rattle.zk_records.specs.Records.{int, ustring, acl_vector, kind_of, body_of, create_old_body, IsCreateOld, IsOp, EndsByItself}
use Rattle.zk_jute.specs.Reading.{◌>>=◌, number_at, acl_at, vector_at, set_acl_at, made_of, create_op, old_create_op, with_count, ended_or_counted, created_at, set_data_op, op_at}
use Rattle.std.proofs.lemmas.List.{append-nil}
use Rattle.zk_jute.proofs.Numbers.{IsBytes, TakesFront, TakesFront-then, first_read, at_ok, made_takes, either}
use Rattle.zk_jute.proofs.Texts.{int_field, path_field}
use Rattle.zk_jute.proofs.Vectors.{acl_vector_field}
use Rattle.zk_jute.proofs.Creates.{front_txn, IsFront, front_field, set_data_field}
use Rattle.zk_jute.proofs.Parts.{parts_field}

-- a body of a type was read
pub record IsBody (bytes : List ℕ) (kind : ℤ) (x : Op × List ℕ) : Type 0 where
  pub took : TakesFront bytes (body_of x.0) x.1
  pub typed : kind_of x.0 ≡ kind
  pub fits : IsOp x.0

set_acl_takes : (bytes : List ℕ) (x : Op × List ℕ) → IsBytes bytes → set_acl_at bytes ≡ Ok x → IsBody bytes (pos 7) x
unfolding set_acl_at
set_acl_takes bytes x fits e =
    let a = first_read _ _ _ path_field bytes (λ path. vector_at acl_at path.1 >>= λ acl. number_at w32 acl.1 >>= λ version. Ok (ops.SetAcl path.0 acl.0 version.0, version.1)) x fits e in
    let b = first_read _ _ _ acl_vector_field a.got.1 (λ acl. number_at w32 acl.1 >>= λ version. Ok (ops.SetAcl a.got.0 acl.0 version.0, version.1)) x a.took.rest_fits a.goes in
    let c = first_read _ _ _ int_field b.got.1 (λ version. Ok (ops.SetAcl a.got.0 b.got.0 version.0, version.1)) x b.took.rest_fits b.goes in
    let path = ustring a.got.0 in
    let acl = acl_vector b.got.0 in
    let ab = TakesFront-then bytes path a.got.1 acl b.got.1 a.took b.took in
    let all = TakesFront-then bytes (path ++ acl) b.got.1 (int c.got.0) c.got.1 ab c.took in
    let made : Op × List ℕ = (ops.SetAcl a.got.0 b.got.0 c.got.0, c.got.1) in
    at_ok (λ (y : Op × List ℕ). IsBody bytes (pos 7) y) made x c.goes (record { took = all; typed = refl {a = pos 7}; fits = (a.fits, b.fits, c.fits) })

-- a create that occurs alone: with its count, or without
ended_takes : (bytes : List ℕ) (front : CreateTxnV0) (left : List ℕ) (x : Op × List ℕ) → TakesFront bytes (front_txn front) left → IsFront front → ended_or_counted front left ≡ Ok x → IsBody bytes (pos 1) x
unfolding ended_or_counted
ended_takes bytes front [] x took is e = at_ok (λ (y : Op × List ℕ). IsBody bytes (pos 1) y) (old_create_op front, []) x e (record { took = took; typed = refl; fits = is })
ended_takes bytes front (b ∷ rest) x took is e =
    made_takes _ _ _ int_field (λ count. create_op (with_count front count)) (b ∷ rest) x (λ (y : Op × List ℕ). IsBody bytes (pos 1) y) took.rest_fits e
    (λ count more second fits. record { took = TakesFront-then bytes (front_txn front) (b ∷ rest) (int count) more took second; typed = refl; fits = (is.0, is.1, is.2, fits) })

created_takes : (bytes : List ℕ) (x : Op × List ℕ) → IsBytes bytes → created_at bytes ≡ Ok x → IsBody bytes (pos 1) x
unfolding created_at
created_takes bytes x fits e =
    let a = first_read _ _ _ front_field bytes (λ front. ended_or_counted front.0 front.1) x fits e in
    ended_takes bytes a.got.0 a.got.1 x a.took a.fits a.goes

-- ---- the body of a type

at_kind : (kind known : ℤ) (bytes : List ℕ) (x : Op × List ℕ) → int_eq kind known ≡ true → IsBody bytes known x → IsBody bytes kind x
at_kind kind known bytes x same is = subst (λ (k : ℤ). IsBody bytes k x) (sym ((Decides-int_eq kind known).0 same)) is

abbrev is_body : List ℕ → ℤ → Op × List ℕ → Type 0
is_body bytes kind x = IsBody bytes kind x

pub op_takes : (kind : ℤ) (bytes : List ℕ) (x : Op × List ℕ) → IsBytes bytes → op_at kind bytes ≡ Ok x → IsBody bytes kind x
unfolding op_at
op_takes kind bytes x fits e =
    let P : Type 0 = IsBody bytes kind x in
    either _ _ _ x P (λ same h. at_kind kind (pos 1) bytes x same (created_takes bytes x fits h))
    (either _ _ _ x P (λ same h. at_kind kind (pos 2) bytes x same (made_takes _ _ _ path_field ops.Delete bytes x (is_body bytes (pos 2)) fits h (λ path rest took is. record { took = took; typed = refl; fits = is })))
    (either _ _ _ x P (λ same h. at_kind kind (pos 5) bytes x same (made_takes _ _ _ set_data_field set_data_op bytes x (is_body bytes (pos 5)) fits h (λ body rest took is. record { took = took; typed = refl; fits = is })))
    (either _ _ _ x P (λ same h. at_kind kind (pos 7) bytes x same (set_acl_takes bytes x fits h))
    (either _ _ _ x P (λ same h. at_kind kind (pos 14) bytes x same (made_takes _ _ _ parts_field ops.Multi bytes x (is_body bytes (pos 14)) fits h (λ parts rest took is. record { took = took; typed = refl; fits = is })))
    (either _ _ _ x P (λ same h. at_kind kind (negsuc 0) bytes x same (made_takes _ _ _ int_field ops.Error bytes x (is_body bytes (negsuc 0)) fits h (λ code rest took is. record { took = took; typed = refl; fits = is })))
    (either _ _ _ x P (λ same h. at_kind kind (negsuc 9) bytes x same (made_takes _ _ _ int_field ops.OpenSession bytes x (is_body bytes (negsuc 9)) fits h (λ timeout rest took is. record { took = took; typed = refl; fits = is })))
    (either _ _ _ x P (λ same h. at_kind kind (negsuc 10) bytes x same (at_ok (is_body bytes (negsuc 10)) (ops.CloseSession, bytes) x h (record { took = record { parts = refl; rest_fits = fits }; typed = refl; fits = tt })))
    (λ h. absurd (cc))))))))) e

-- ---- reading what was written

regroup3 : (a b c r : List ℕ) → ((a ++ b) ++ c) ++ r ≡ a ++ (b ++ (c ++ r))
regroup3 a b c r = simp append_assoc

-- a create followed by the four bytes of a number is one with a count
filled_again : (front : CreateTxnV0) (count : ℤ) (rest bytes : List ℕ) → bytes ≡ int count ++ rest → FitsSigned w32 count → ended_or_counted front bytes ≡ Ok (create_op (with_count front count), rest)
unfolding ended_or_counted
filled_again front count rest [] is fits = absurd (omega (arith, length-append (int count) rest, ap length is))
filled_again front count rest (b ∷ bs) is fits =
    ap (λ (l : List ℕ). made_of (λ n. create_op (with_count front n)) (number_at w32 l)) is ∙ rw (int_field.again count rest fits) refl

counted_again : (front : CreateTxnV0) (count : ℤ) (rest : List ℕ) → IsFront front → FitsSigned w32 count → created_at ((front_txn front ++ int count) ++ rest) ≡ Ok (create_op (with_count front count), rest)
unfolding created_at
counted_again front count rest is fits =
    ap created_at (append_assoc (front_txn front) (int count) rest)
    ∙ rw (front_field.again front (int count ++ rest) is) (filled_again front count rest (int count ++ rest) refl fits)

-- a 3.3 create is read if nothing follows
pub old_again : (path : List ℕ) (content : Option (List ℕ)) (acl : List Acl) (ephemeral : Bool) → IsCreateOld path content acl → op_at (pos 1) (create_old_body path content acl ephemeral) ≡ Ok (ops.CreateOld path content acl ephemeral, [])
unfolding op_at created_at ended_or_counted
old_again path content acl ephemeral is =
    let front : CreateTxnV0 = record { path = path; content = content; acl = acl; ephemeral = ephemeral } in
    ap created_at (sym (append-nil (front_txn front))) ∙ rw (front_field.again front [] is) refl

pub op_again : (op : Op) (rest : List ℕ) → IsOp op → EndsByItself op → op_at (kind_of op) (body_of op ++ rest) ≡ Ok (op, rest)
unfolding op_at set_acl_at
op_again (ops.Create path content acl ephemeral count) rest is closed =
    counted_again (record { path = path; content = content; acl = acl; ephemeral = ephemeral }) count rest (is.0, is.1, is.2) is.3
op_again (ops.CreateOld path content acl ephemeral) rest is closed = absurd closed
op_again (ops.Delete path) rest is closed = rw (path_field.again path rest is) refl
op_again (ops.SetData path content version) rest is closed = rw (set_data_field.again (record { path = path; content = content; version = version }) rest is) refl
op_again (ops.SetAcl path acl version) rest is closed =
    ap set_acl_at (regroup3 (ustring path) (acl_vector acl) (int version) rest)
    ∙ rw (path_field.again path (acl_vector acl ++ (int version ++ rest)) is.0, acl_vector_field.again acl (int version ++ rest) is.1, int_field.again version rest is.2) refl
op_again (ops.OpenSession timeout) rest is closed = rw (int_field.again timeout rest is) refl
op_again ops.CloseSession rest is closed = refl
op_again (ops.Error code) rest is closed = rw (int_field.again code rest is) refl
op_again (ops.Multi parts) rest is closed = rw (parts_field.again parts rest is) refl

pub kind_fits : (op : Op) → FitsSigned w32 (kind_of op)
kind_fits (ops.Create path content acl ephemeral count) = record { sfits = lit< tt }
kind_fits (ops.CreateOld path content acl ephemeral) = record { sfits = lit< tt }
kind_fits (ops.Delete path) = record { sfits = lit< tt }
kind_fits (ops.SetData path content version) = record { sfits = lit< tt }
kind_fits (ops.SetAcl path acl version) = record { sfits = lit< tt }
kind_fits (ops.OpenSession timeout) = record { sfits = lit< tt }
kind_fits ops.CloseSession = record { sfits = lit< tt }
kind_fits (ops.Error code) = record { sfits = lit< tt }
kind_fits (ops.Multi parts) = record { sfits = lit< tt }
