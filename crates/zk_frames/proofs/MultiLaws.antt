-- Multis: reading is the inverse of writing.
use Rattle.std.proofs.Common.{◌≡◌, ℕ, zero, suc, ℤ, pos, negsuc, ◌<◌, ◌≤◌, ◌-◌, ◌+◌, Bool, true, false, List, [], ◌∷◌, ◌++◌, length, Option, Some, None, Result, Ok, Err, refl, sym, ap, subst, ◌∙◌, append_assoc, length-append, arith, lit<}
use Rattle.std.specs.Prelude.{FitsSigned}
use Rattle.std.specs.Int.{w32}
use Rattle.std.specs.List.{flat_map, AllByRecursion}
use Rattle.std.specs.Ordering.{int_eq}
use Rattle.std.proofs.lemmas.Bool.Decides.{Decides-int_eq}
use Rattle.std.proofs.lemmas.List.{append-nil}
use Rattle.std.proofs.lemmas.List.Concat.{flat_map-cons}
use Rattle.zk_jute.specs.declared.fault.JuteFault.{JuteFault}
use Rattle.zk_jute.specs.declared.fault.JuteFault.TheVariants as faults
use Rattle.zk_frames.specs.declared.multi.MultiPart.{MultiPart}
use Rattle.zk_frames.specs.declared.multi.MultiPart.TheVariants as parts
use Rattle.zk_frames.specs.declared.multi.MultiHeader.{MultiHeader}
use Rattle.zk_records.specs.Records.{int, boolean}
use Rattle.zk_jute.specs.Reading.{◌>>=◌, Fails, number_at, boolean_at}
use Rattle.zk_jute.proofs.Numbers.{IsBytes, TakesFront, TakesFront-then, IsField, first_read, bind_ok, at_ok, made_takes, either}
use Rattle.zk_jute.proofs.Texts.{int_field, boolean_field}
use Rattle.zk_jute.proofs.Turns.{with_front}
use Rattle.zk_frames.specs.Requests.{multi_header, part_kind_of, part_body_of, part_header_of, end_header, part_of, multi_of, IsPart}
use Rattle.zk_frames.specs.Reading.{multi_header_at, part_at, part_or_end, item_by, item_at, after_item, parts_at}
use Rattle.zk_frames.proofs.Bodies.{create_field, delete_field, set_data_field}

-- ---- headers

pub record IsMultiHeader (h : MultiHeader) : Type 0 where
  pub kind : FitsSigned w32 h.kind
  pub err : FitsSigned w32 h.err

header_takes : (bytes : List ℕ) (x : MultiHeader × List ℕ) → IsBytes bytes → multi_header_at bytes ≡ Ok x → TakesFront bytes (multi_header x.0) x.1 × IsMultiHeader x.0
unfolding multi_header_at
header_takes bytes x fits e =
    let a = first_read _ _ _ int_field bytes (λ kind. boolean_at kind.1 >>= λ done. number_at w32 done.1 >>= λ err. Ok (record { kind = kind.0; done = done.0; err = err.0 }, err.1)) x fits e in
    let b = first_read _ _ _ boolean_field a.got.1 (λ done. number_at w32 done.1 >>= λ err. Ok (record { kind = a.got.0; done = done.0; err = err.0 }, err.1)) x a.took.rest_fits a.goes in
    let c = first_read _ _ _ int_field b.got.1 (λ err. Ok (record { kind = a.got.0; done = b.got.0; err = err.0 }, err.1)) x b.took.rest_fits b.goes in
    let ab = TakesFront-then bytes (int a.got.0) a.got.1 (boolean b.got.0) b.got.1 a.took b.took in
    let all = TakesFront-then bytes (int a.got.0 ++ boolean b.got.0) b.got.1 (int c.got.0) c.got.1 ab c.took in
    let made : MultiHeader × List ℕ = (record { kind = a.got.0; done = b.got.0; err = c.got.0 }, c.got.1) in
    at_ok (λ (y : MultiHeader × List ℕ). TakesFront bytes (multi_header y.0) y.1 × IsMultiHeader y.0) made x c.goes (all, record { kind = a.fits; err = c.fits })

regroup3 : (a b c r : List ℕ) → ((a ++ b) ++ c) ++ r ≡ a ++ (b ++ (c ++ r))
regroup3 a b c r = simp append_assoc

header_again : (h : MultiHeader) (rest : List ℕ) → IsMultiHeader h → multi_header_at (multi_header h ++ rest) ≡ Ok (h, rest)
unfolding multi_header_at
header_again h rest is =
    ap multi_header_at (regroup3 (int h.kind) (boolean h.done) (int h.err) rest)
    ∙ rw (int_field.again h.kind (boolean h.done ++ (int h.err ++ rest)) is.kind, boolean_field.again h.done (int h.err ++ rest) tt, int_field.again h.err rest is.err) refl

header_field : IsField multi_header_at multi_header IsMultiHeader
header_field = record { takes = header_takes; again = header_again }

-- ---- bodies of parts

pub record IsPartBody (bytes : List ℕ) (kind : ℤ) (x : MultiPart × List ℕ) : Type 0 where
  pub took : TakesFront bytes (part_body_of x.0) x.1
  pub typed : part_kind_of x.0 ≡ kind
  pub fits : IsPart x.0

at_kind : (kind known : ℤ) (bytes : List ℕ) (x : MultiPart × List ℕ) → int_eq kind known ≡ true → IsPartBody bytes known x → IsPartBody bytes kind x
at_kind kind known bytes x same is = subst (λ (k : ℤ). IsPartBody bytes k x) (sym ((Decides-int_eq kind known).0 same)) is

abbrev is_body : List ℕ → ℤ → MultiPart × List ℕ → Type 0
is_body bytes kind x = IsPartBody bytes kind x

part_takes : (kind : ℤ) (bytes : List ℕ) (x : MultiPart × List ℕ) → IsBytes bytes → part_at kind bytes ≡ Ok x → IsPartBody bytes kind x
unfolding part_at
part_takes kind bytes x fits e =
    let P : Type 0 = IsPartBody bytes kind x in
    either _ _ _ x P (λ same h. at_kind kind (pos 1) bytes x same (made_takes _ _ _ create_field parts.Create bytes x (is_body bytes (pos 1)) fits h (λ body rest took is. record { took = took; typed = refl; fits = is })))
    (either _ _ _ x P (λ same h. at_kind kind (pos 2) bytes x same (made_takes _ _ _ delete_field parts.Delete bytes x (is_body bytes (pos 2)) fits h (λ body rest took is. record { took = took; typed = refl; fits = is })))
    (either _ _ _ x P (λ same h. at_kind kind (pos 5) bytes x same (made_takes _ _ _ set_data_field parts.SetData bytes x (is_body bytes (pos 5)) fits h (λ body rest took is. record { took = took; typed = refl; fits = is })))
    (either _ _ _ x P (λ same h. at_kind kind (pos 13) bytes x same (made_takes _ _ _ delete_field parts.Check bytes x (is_body bytes (pos 13)) fits h (λ body rest took is. record { took = took; typed = refl; fits = is })))
    (either _ _ _ x P (λ same h. at_kind kind (pos 15) bytes x same (made_takes _ _ _ create_field parts.Create2 bytes x (is_body bytes (pos 15)) fits h (λ body rest took is. record { took = took; typed = refl; fits = is })))
    (λ h. absurd (cc)))))) e

part_again : (part : MultiPart) (rest : List ℕ) → IsPart part → part_at (part_kind_of part) (part_body_of part ++ rest) ≡ Ok (part, rest)
unfolding part_at
part_again (parts.Create r) rest is = rw (create_field.again r rest is) refl
part_again (parts.Delete r) rest is = rw (delete_field.again r rest is) refl
part_again (parts.SetData r) rest is = rw (set_data_field.again r rest is) refl
part_again (parts.Check r) rest is = rw (delete_field.again r rest is) refl
part_again (parts.Create2 r) rest is = rw (create_field.again r rest is) refl

kind_fits : (part : MultiPart) → FitsSigned w32 (part_kind_of part)
kind_fits (parts.Create r) = record { sfits = lit< tt }
kind_fits (parts.Delete r) = record { sfits = lit< tt }
kind_fits (parts.SetData r) = record { sfits = lit< tt }
kind_fits (parts.Check r) = record { sfits = lit< tt }
kind_fits (parts.Create2 r) = record { sfits = lit< tt }

-- ---- a part, or the end

abbrev item_of : Option MultiPart → List ℕ
item_of None = multi_header end_header
item_of (Some part) = part_of part

abbrev IsItem : Option MultiPart → Type 0
IsItem None = Unit {0}
IsItem (Some part) = IsPart part

-- the header of an item
abbrev header_of : Option MultiPart → MultiHeader
header_of None = end_header
header_of (Some part) = part_header_of part

-- after its header
abbrev body_of : Option MultiPart → List ℕ
body_of None = []
body_of (Some part) = part_body_of part

record IsItemBody (bytes : List ℕ) (h : MultiHeader) (x : Option MultiPart × List ℕ) : Type 0 where
  took : TakesFront bytes (body_of x.0) x.1
  headed : header_of x.0 ≡ h
  fits : IsItem x.0

body_takes : (kind : ℤ) (done : Bool) (bytes : List ℕ) (x : Option MultiPart × List ℕ) → IsBytes bytes → part_or_end kind done bytes ≡ Ok x → IsItemBody bytes (record { kind = kind; done = done; err = negsuc 0 }) x
body_takes kind true bytes x fits e =
    let P : Type 0 = IsItemBody bytes (record { kind = kind; done = true; err = negsuc 0 }) x in
    either _ _ _ x P (λ same h. at_ok (λ (y : Option MultiPart × List ℕ). IsItemBody bytes (record { kind = kind; done = true; err = negsuc 0 }) y) (None, bytes) x h
    (record { took = record { parts = refl; rest_fits = fits }; headed = ap (λ (k : ℤ). record { kind = k; done = true; err = negsuc 0 }) (sym ((Decides-int_eq kind (negsuc 0)).0 same)); fits = tt }))
    (λ h. absurd (cc)) e
body_takes kind false bytes x fits e =
    let b = bind_ok {A = MultiPart × List ℕ} {B = Option MultiPart × List ℕ} (part_at kind bytes) (λ y. Ok (Some y.0, y.1)) x e in
    let is = part_takes kind bytes b.0 fits b.1 in
    at_ok (λ (y : Option MultiPart × List ℕ). IsItemBody bytes (record { kind = kind; done = false; err = negsuc 0 }) y) (Some b.0.0, b.0.1) x b.2
    (record { took = is.took; headed = ap (λ (k : ℤ). record { kind = k; done = false; err = negsuc 0 }) is.typed; fits = is.fits })

by_takes : (h : MultiHeader) (bytes : List ℕ) (x : Option MultiPart × List ℕ) → IsBytes bytes → item_by h bytes ≡ Ok x → IsItemBody bytes h x
by_takes h bytes x fits e =
    either _ _ _ x (IsItemBody bytes h x) (λ same k. subst (λ (z : ℤ). IsItemBody bytes (record { kind = h.kind; done = h.done; err = z }) x) (sym ((Decides-int_eq h.err (negsuc 0)).0 same)) (body_takes h.kind h.done bytes x fits k))
    (λ k. absurd (cc)) e

spelled : (item : Option MultiPart) → multi_header (header_of item) ++ body_of item ≡ item_of item
spelled None = append-nil (multi_header end_header)
spelled (Some part) = refl

item_takes : (bytes : List ℕ) (x : Option MultiPart × List ℕ) → IsBytes bytes → item_at bytes ≡ Ok x → TakesFront bytes (item_of x.0) x.1 × IsItem x.0
unfolding item_at
item_takes bytes x fits e =
    let a = first_read _ _ _ header_field bytes (λ header. item_by header.0 header.1) x fits e in
    let b = by_takes a.got.0 a.got.1 x a.took.rest_fits a.goes in
    let both = TakesFront-then bytes (multi_header a.got.0) a.got.1 (body_of x.0) x.1 a.took b.took in
    let headed : TakesFront bytes (multi_header (header_of x.0) ++ body_of x.0) x.1 = subst (λ (h : MultiHeader). TakesFront bytes (multi_header h ++ body_of x.0) x.1) (sym b.headed) both in
    (subst (λ (bs : List ℕ). TakesFront bytes bs x.1) (spelled x.0) headed, b.fits)

header_fits : (item : Option MultiPart) → IsMultiHeader (header_of item)
header_fits None = record { kind = record { sfits = lit< tt }; err = record { sfits = lit< tt } }
header_fits (Some part) = record { kind = kind_fits part; err = record { sfits = lit< tt } }

by_again : (item : Option MultiPart) (rest : List ℕ) → IsItem item → item_by (header_of item) (body_of item ++ rest) ≡ Ok (item, rest)
by_again None rest is = refl
by_again (Some part) rest is = rw (part_again part rest is) refl

item_again : (item : Option MultiPart) (rest : List ℕ) → IsItem item → item_at (item_of item ++ rest) ≡ Ok (item, rest)
unfolding item_at
item_again item rest is =
    ap item_at (ap (λ (bs : List ℕ). bs ++ rest) (sym (spelled item)) ∙ append_assoc (multi_header (header_of item)) (body_of item) rest)
    ∙ rw (header_field.again (header_of item) (body_of item ++ rest) (header_fits item)) (by_again item rest is)

item_field : IsField item_at item_of IsItem
item_field = record { takes = item_takes; again = item_again }

-- ---- parts up to the end

abbrev Take : ℕ → Type 0
Take n = (bytes : List ℕ) (x : List MultiPart × List ℕ) → IsBytes bytes → parts_at n bytes ≡ Ok x → TakesFront bytes (multi_of x.0) x.1 × AllByRecursion IsPart x.0

one_more : (part : MultiPart) (ps : List MultiPart) → part_of part ++ multi_of ps ≡ multi_of (part ∷ ps)
one_more part ps = sym (ap (λ (bs : List ℕ). bs ++ multi_header end_header) (flat_map-cons part_of part ps) ∙ append_assoc (part_of part) (flat_map part_of ps) (multi_header end_header))

after_take : (n : ℕ) → Take n → (bytes : List ℕ) (item : Option MultiPart) (rest : List ℕ) (x : List MultiPart × List ℕ) → TakesFront bytes (item_of item) rest → IsItem item → after_item (parts_at n) item rest ≡ Ok x → TakesFront bytes (multi_of x.0) x.1 × AllByRecursion IsPart x.0
after_take n others bytes None rest x took is e =
    at_ok (λ (y : List MultiPart × List ℕ). TakesFront bytes (multi_of y.0) y.1 × AllByRecursion IsPart y.0) ([], rest) x e (took, tt)
after_take n others bytes (Some part) rest x took is e =
    let b = bind_ok {A = List MultiPart × List ℕ} {B = List MultiPart × List ℕ} (parts_at n rest) (λ more. Ok (part ∷ more.0, more.1)) x e in
    let more = others rest b.0 took.rest_fits b.1 in
    let both = TakesFront-then bytes (part_of part) rest (multi_of b.0.0) b.0.1 took more.0 in
    let made : List MultiPart × List ℕ = (part ∷ b.0.0, b.0.1) in
    at_ok (λ (y : List MultiPart × List ℕ). TakesFront bytes (multi_of y.0) y.1 × AllByRecursion IsPart y.0) made x b.2 (subst (λ (bs : List ℕ). TakesFront bytes bs b.0.1) (one_more part b.0.0) both, (is, more.1))

parts_take : (n : ℕ) → Take n
unfolding parts_at
parts_take zero bytes x fits e = absurd cc
parts_take (suc n) bytes x fits e =
    let a = first_read _ _ _ item_field bytes (λ item. after_item (parts_at n) item.0 item.1) x fits e in
    after_take n (parts_take n) bytes a.got.0 a.got.1 x a.took a.fits a.goes

parts_again : (ps : List MultiPart) (n : ℕ) (rest : List ℕ) → AllByRecursion IsPart ps → length ps < n → parts_at n (multi_of ps ++ rest) ≡ Ok (ps, rest)
unfolding parts_at
parts_again [] zero rest is few = absurd (omega (arith, few))
parts_again (part ∷ ps) zero rest is few = absurd (omega (arith, few))
parts_again [] (suc n) rest is few = rw (item_again None rest tt) refl
parts_again (part ∷ ps) (suc n) rest is few =
    let regrouped : multi_of (part ∷ ps) ++ rest ≡ part_of part ++ (multi_of ps ++ rest) = ap (λ (bs : List ℕ). bs ++ rest) (sym (one_more part ps)) ∙ append_assoc (part_of part) (multi_of ps) rest in
    ap (parts_at (suc n)) regrouped ∙ rw (item_again (Some part) (multi_of ps ++ rest) is.0, parts_again ps n rest is.1 (omega (arith, few))) refl

filled : (part : MultiPart) → 1 ≤ length (part_of part)
filled part = omega (arith, length-append (multi_header (part_header_of part)) (part_body_of part))

as_many : (ps : List MultiPart) → length ps ≤ length (flat_map part_of ps)
as_many [] = omega arith
as_many (part ∷ ps) =
    let parts : length (flat_map part_of (part ∷ ps)) ≡ length (part_of part) + length (flat_map part_of ps) = ap length (flat_map-cons part_of part ps) ∙ length-append (part_of part) (flat_map part_of ps) in
    let one : 1 ≤ length (part_of part) = filled part in
    let more : length ps ≤ length (flat_map part_of ps) = as_many ps in
    subst (λ (n : ℕ). suc (length ps) ≤ n) (sym parts) (omega (arith, one, more))

-- there are fewer parts than bytes
fewer : (ps : List MultiPart) (rest : List ℕ) → length ps < length (multi_of ps ++ rest)
fewer ps rest = omega (arith, length-append (multi_of ps) rest, length-append (flat_map part_of ps) (multi_header end_header), as_many ps)

pub multi_field : IsField (λ bytes. parts_at (length bytes) bytes) multi_of (AllByRecursion IsPart)
multi_field = record {
  takes = λ bytes x fits e. parts_take (length bytes) bytes x fits e;
  again = λ ps rest is. parts_again ps (length (multi_of ps ++ rest)) rest is (fewer ps rest);
}

-- ---- the loop

Fails-then : {X Y : Type 0} (fault : JuteFault) (part : Result X JuteFault) (whole : Result Y JuteFault) → ((f : JuteFault) → part ≡ Err f → whole ≡ Err f) → Fails fault part → Fails fault whole
Fails-then faults.NoMemory part whole same fails = tt
Fails-then fault part whole same fails = same fault fails

regroup : (front : List MultiPart) (x : MultiPart) (read : Result (List MultiPart × List ℕ) JuteFault) → with_front front (read >>= λ y. Ok (x ∷ y.0, y.1)) ≡ with_front (front ++ x ∷ []) read
regroup front x (Ok y) = ap (λ (xs : List MultiPart). Ok (xs, y.1)) (simp append_assoc)
regroup front x (Err fault) = refl

pub goes_on : (front : List MultiPart) (count i : ℕ) (bytes : List ℕ) (x : MultiPart) (after : List ℕ) (total : Result (List MultiPart × List ℕ) JuteFault) → i < count → item_at bytes ≡ Ok (Some x, after)
    → with_front front (parts_at (count - i) bytes) ≡ total → with_front (front ++ x ∷ []) (parts_at (count - (i + 1)) after) ≡ total
unfolding parts_at
goes_on front count i bytes x after total lt h so_far =
    let k : count - i ≡ suc (count - (i + 1)) = omega arith in
    let one : with_front front (parts_at (count - i) bytes) ≡ with_front (front ++ x ∷ []) (parts_at (count - (i + 1)) after) = rw (k, h) (regroup front x (parts_at (count - (i + 1)) after)) in
    sym one ∙ so_far

pub is_ended : (front : List MultiPart) (count i : ℕ) (bytes after : List ℕ) (total : Result (List MultiPart × List ℕ) JuteFault) → i < count → item_at bytes ≡ Ok (None, after)
    → with_front front (parts_at (count - i) bytes) ≡ total → total ≡ Ok (front, after)
unfolding parts_at
is_ended front count i bytes after total lt h so_far =
    let k : count - i ≡ suc (count - (i + 1)) = omega arith in
    let one : with_front front (parts_at (count - i) bytes) ≡ Ok (front, after) = rw (k, h) (ap (λ (xs : List MultiPart). Ok (xs, after)) (append-nil front)) in
    sym so_far ∙ one

pub fails : (fault : JuteFault) (front : List MultiPart) (count i : ℕ) (bytes : List ℕ) (total : Result (List MultiPart × List ℕ) JuteFault) → i < count → Fails fault (item_at bytes)
    → with_front front (parts_at (count - i) bytes) ≡ total → Fails fault total
unfolding parts_at
fails fault front count i bytes total lt bad so_far =
    Fails-then fault (item_at bytes) total (λ f h.
    let k : count - i ≡ suc (count - (i + 1)) = omega arith in
    let one : with_front front (parts_at (count - i) bytes) ≡ Err f = rw (k, h) refl in
    sym so_far ∙ one) bad

pub runs_out : (front : List MultiPart) (count i : ℕ) (bytes : List ℕ) (total : Result (List MultiPart × List ℕ) JuteFault) → count ≤ i → with_front front (parts_at (count - i) bytes) ≡ total → total ≡ Err faults.Short
unfolding parts_at
runs_out front count i bytes total le so_far =
    let k : count - i ≡ 0 = omega arith in
    let one : with_front front (parts_at (count - i) bytes) ≡ Err faults.Short = rw k refl in
    sym so_far ∙ one
