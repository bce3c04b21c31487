-- Lines, and listings of several lines.
use Rattle.std.proofs.lemmas.Bool.{eqb-false}
use Rattle.std.proofs.Common.{◌≡◌, ◌≢◌, eqb, false, ℕ, ℤ, ◌+◌, ◌≤◌, ◌<◌, List, [], ◌∷◌, ◌++◌, length, get_or, Option, Some, None, Result, Ok, Err, refl, sym, ap, subst, ◌∙◌, append_assoc, length-append, arith}
use Rattle.std.specs.Prelude.{FitsSigned}
use Rattle.std.specs.Fmt.{signed_decimal}
use Rattle.std.specs.Int.{w32, w64}
use Rattle.std.specs.List.{AllByRecursion}
use Rattle.std.specs.Option.{option_and_then}
use Rattle.std.proofs.lemmas.List.{append-nil, get_or_at}
use Rattle.std.proofs.lemmas.List.Concat.{flat_map-append}
use Rattle.zk_listing.specs.declared.list_fault.ListCause.{ListCause}
use Rattle.zk_listing.specs.declared.list_fault.ListCause.TheVariants as causes
use Rattle.zk_listing.specs.Promises.{BeginsWithNoLine, ReadsLine, AddsLine, BeginsWithListing, IsFirstFault}
use Rattle.zk_table.specs.declared.txn.Txn.{Txn}
use Rattle.zk_table.specs.declared.txn.Op.{Op}
use Rattle.zk_format.specs.Spelling.{id_digits}
use Rattle.zk_format.specs.Listings.{op_text, header_text, line_of, listing_of, IsListed}
use Rattle.zk_listing.specs.Reading.{both, spaced, past, int_at, id_at, id_from, op_at, Takes, Header, header_at, txn_of, txn_at}
use Rattle.zk_listing.proofs.Exact.{IsExact, bind_some, past_is, first_is, second_is, exact_field, exact_spaced, exact_both}
use Rattle.zk_listing.proofs.DecimalLaws.{narrow32, narrow64}
use Rattle.zk_listing.proofs.HexLaws.{id_field}
use Rattle.zk_listing.proofs.AclLaws.{int_exact}
use Rattle.zk_listing.proofs.PartLaws.{op_at_takes, op_at_again}

pub id_exact : IsExact id_digits (FitsSigned w64) id_at
unfolding id_at
id_exact =
    let f = exact_field id_digits (FitsSigned w64) id_from id_field in
    record { takes = λ bytes x rest h. f.takes bytes x rest h; again = λ x rest fits e. f.again x rest fits e }

abbrev header_fields : Header → List ℕ
header_fields x = id_digits x.0 ++ ((32 ∷ id_digits x.1.0) ++ ((32 ∷ signed_decimal x.1.1.0) ++ (32 ∷ signed_decimal x.1.1.1)))

abbrev IsHeader : Header → Type 0
IsHeader x = FitsSigned w64 x.0 × (FitsSigned w64 x.1.0 × (FitsSigned w32 x.1.1.0 × FitsSigned w64 x.1.1.1))

header_exact : IsExact {X = Header} (λ x. id_digits x.0 ++ ((32 ∷ id_digits x.1.0) ++ ((32 ∷ signed_decimal x.1.1.0) ++ (32 ∷ signed_decimal x.1.1.1)))) (λ x. FitsSigned w64 x.0 × (FitsSigned w64 x.1.0 × (FitsSigned w32 x.1.1.0 × FitsSigned w64 x.1.1.1))) header_at
unfolding header_at
header_exact =
    let cxid = exact_spaced signed_decimal (FitsSigned w32) (int_at w32) (int_exact w32 narrow32) in
    let time = exact_spaced signed_decimal (FitsSigned w64) (int_at w64) (int_exact w64 narrow64) in
    let session = exact_spaced id_digits (FitsSigned w64) id_at id_exact in
    let two = exact_both (λ (x : ℤ). 32 ∷ signed_decimal x) (FitsSigned w32) (spaced (int_at w32)) (λ (x : ℤ). 32 ∷ signed_decimal x) (FitsSigned w64) (spaced (int_at w64)) cxid time (λ y rest. refl) in
    let three = exact_both (λ (x : ℤ). 32 ∷ id_digits x) (FitsSigned w64) (spaced id_at) (λ (p : ℤ × ℤ). (32 ∷ signed_decimal p.0) ++ (32 ∷ signed_decimal p.1)) (λ p. FitsSigned w32 p.0 × FitsSigned w64 p.1) (both (spaced (int_at w32)) (spaced (int_at w64))) session two (λ y rest. refl) in
    let f = exact_both id_digits (FitsSigned w64) id_at (λ (p : ℤ × (ℤ × ℤ)). (32 ∷ id_digits p.0) ++ ((32 ∷ signed_decimal p.1.0) ++ (32 ∷ signed_decimal p.1.1))) (λ p. FitsSigned w64 p.0 × (FitsSigned w32 p.1.0 × FitsSigned w64 p.1.1)) (both (spaced id_at) (both (spaced (int_at w32)) (spaced (int_at w64)))) id_exact three (λ y rest. refl) in
    record { takes = λ bytes x rest h. f.takes bytes x rest h; again = λ x rest fits e. f.again x rest fits e }

-- ---- one line

regroup4 : (a b c d e : List ℕ) → (a ++ (b ++ (c ++ d))) ++ e ≡ (((a ++ b) ++ c) ++ d) ++ e
regroup4 a b c d e = simp append_assoc

-- the parts of a line in order
line_parts : (t : Txn) (rest : List ℕ) → line_of t ++ rest ≡ header_fields (t.zxid, (t.session, (t.cxid, t.time))) ++ 32 ∷ (op_text t.op ++ 10 ∷ rest)
line_parts t rest =
    let h = header_text t in
    append_assoc (h ++ 32 ∷ op_text t.op) (10 ∷ []) rest ∙ append_assoc h (32 ∷ op_text t.op) (10 ∷ rest) ∙ sym (regroup4 (id_digits t.zxid) (32 ∷ id_digits t.session) (32 ∷ signed_decimal t.cxid) (32 ∷ signed_decimal t.time) (32 ∷ (op_text t.op ++ 10 ∷ rest)))

pub record IsLine (bytes : List ℕ) (t : Txn) (rest : List ℕ) : Type 0 where
  pub listed : IsListed t
  pub spelled : bytes ≡ line_of t ++ rest

pub txn_takes : (bytes : List ℕ) (t : Txn) (rest : List ℕ) → txn_at bytes ≡ Some (t, rest) → IsLine bytes t rest
unfolding txn_at
txn_takes bytes t rest h =
    let p = bind_some {B = Txn × List ℕ} (header_at bytes) (λ h. option_and_then (λ o. option_and_then (λ r. Some (txn_of h.0 o.0, r)) (past 10 o.1)) (spaced op_at h.1)) (t, rest) h in
    let q = bind_some {B = Txn × List ℕ} (spaced op_at p.0.1) (λ o. option_and_then (λ r. Some (txn_of p.0.0 o.0, r)) (past 10 o.1)) (t, rest) p.2 in
    let space = bind_some {B = Op × List ℕ} (past 32 p.0.1) op_at q.0 q.1 in
    let r = bind_some {B = Txn × List ℕ} (past 10 q.0.1) (λ r. Some (txn_of p.0.0 q.0.0, r)) (t, rest) q.2 in
    let value : txn_of p.0.0 q.0.0 ≡ t = first_is (txn_of p.0.0 q.0.0, r.0) (t, rest) r.2 in
    let left : r.0 ≡ rest = second_is (txn_of p.0.0 q.0.0, r.0) (t, rest) r.2 in
    let header = header_exact.takes bytes p.0.0 p.0.1 p.1 in
    let done = op_at_takes space.0 q.0.0 q.0.1 space.2 in
    let made = txn_of p.0.0 q.0.0 in
    let newline : q.0.1 ≡ 10 ∷ r.0 = past_is 10 q.0.1 r.0 r.1 in
    let whole : bytes ≡ line_of made ++ r.0 = header.1 ∙ ap (λ (b : List ℕ). header_fields p.0.0 ++ b) (past_is 32 p.0.1 space.0 space.1 ∙ ap (λ (b : List ℕ). 32 ∷ b) (done.1 ∙ ap (λ (b : List ℕ). op_text q.0.0 ++ b) newline)) ∙ sym (line_parts made r.0) in
    let fits : IsListed made = record { zxid = header.0.0; session = header.0.1.0; cxid = header.0.1.1.0; time = header.0.1.1.1; op = done.0 } in
    let one : IsLine bytes made r.0 = record { listed = fits; spelled = whole } in
    let P : Txn → Type 0 = λ v. IsLine bytes v r.0 in
    let Q : List ℕ → Type 0 = λ v. IsLine bytes t v in
    subst Q left (subst P value one)

pub txn_again : (t : Txn) (rest : List ℕ) → IsListed t → txn_at (line_of t ++ rest) ≡ Some (t, rest)
unfolding txn_at
txn_again t rest listed =
    let header : Header = (t.zxid, (t.session, (t.cxid, t.time))) in
    let after = 32 ∷ (op_text t.op ++ 10 ∷ rest) in
    let first = header_exact.again header after (listed.zxid, (listed.session, (listed.cxid, listed.time))) refl in
    rw (line_parts t rest, first, op_at_again t.op rest listed.op) refl

-- ---- lines at the start

pub line_answers : (r : Result Txn ListCause) (old new : List ℕ) → Takes r new (txn_at old) → ReadsLine r old new
line_answers (Ok t) old new h = let line = txn_takes old t new h in (line.listed, line.spelled)
line_answers (Err causes.NoMemory) old new h = tt
line_answers (Err cause) old new h = λ t rest listed spelled.
    let found : txn_at old ≡ Some (t, rest) = ap txn_at spelled ∙ txn_again t rest listed in
    let bad : None ≡ Some (t, rest) = sym h ∙ found in
    cc

pub no_newline : (text : List ℕ) → ((k : ℕ) → k < length text → get_or text k 0 ≡ 10 → ⊥) → BeginsWithNoLine text
no_newline text none t rest listed spelled =
    let front = header_text t ++ 32 ∷ op_text t.op in
    let cut : text ≡ front ++ 10 ∷ rest = spelled ∙ append_assoc front (10 ∷ []) rest in
    let there : get_or text (length front) 0 ≡ 10 = ap (λ (xs : List ℕ). get_or xs (length front) 0) cut ∙ get_or_at front 10 rest 0 (length front) refl in
    none (length front) (omega (arith, ap length cut, length-append front (10 ∷ rest))) there

line_long : (t : Txn) → 1 ≤ length (line_of t)
line_long t = omega (arith, length-append (header_text t ++ 32 ∷ op_text t.op) (10 ∷ []))

pub line_shorter : (old new : List ℕ) (t : Txn) → old ≡ line_of t ++ new → length new < length old
line_shorter old new t e = omega (arith, ap length e, length-append (line_of t) new, line_long t)

same_front : (t u : Txn) (x y : List ℕ) → IsListed t → IsListed u → line_of t ++ x ≡ line_of u ++ y → (t ≡ u) × (x ≡ y)
same_front t u x y listed_t listed_u e =
    let both_read : ◌≡◌ {A = Option (Txn × List ℕ)} (Some (t, x)) (Some (u, y)) = sym (txn_again t x listed_t) ∙ ap txn_at e ∙ txn_again u y listed_u in
    (first_is (t, x) (u, y) both_read, second_is (t, x) (u, y) both_read)

-- ---- listings

all_push : (xs : List Txn) (t : Txn) → AllByRecursion IsListed xs → IsListed t → AllByRecursion IsListed (xs ++ t ∷ [])
all_push [] t h listed = (listed, tt)
all_push (x ∷ xs) t h listed = (h.0, all_push xs t h.1 listed)

pub begins_more : (text : List ℕ) (txns more : List Txn) (old new : List ℕ) (t : Txn) → BeginsWithListing text txns old → IsListed t → old ≡ line_of t ++ new → more ≡ txns ++ t ∷ [] → BeginsWithListing text more new
begins_more text txns more old new t begins listed line same =
    let grown : listing_of (txns ++ t ∷ []) ≡ listing_of txns ++ line_of t = flat_map-append line_of txns (t ∷ []) ∙ ap (λ (xs : List ℕ). listing_of txns ++ xs) (append-nil (line_of t)) in
    let spelled : text ≡ listing_of (txns ++ t ∷ []) ++ new = begins.spelled ∙ ap (λ (xs : List ℕ). listing_of txns ++ xs) line ∙ sym (append_assoc (listing_of txns) (line_of t) new) ∙ ap (λ (xs : List ℕ). xs ++ new) (sym grown) in
    let one : BeginsWithListing text (txns ++ t ∷ []) new = record { listed = all_push txns t begins.listed listed; spelled = spelled } in
    let P : List Txn → Type 0 = λ v. BeginsWithListing text v new in
    subst P (sym same) one

-- a listing's first lines are those of its transactions
no_listing : (us : List Txn) (rest : List ℕ) (ts : List Txn) → AllByRecursion IsListed us → AllByRecursion IsListed ts → rest ≢ [] → BeginsWithNoLine rest → listing_of us ++ rest ≡ listing_of ts → ⊥
no_listing [] rest [] us_listed ts_listed filled none e = filled e
no_listing [] rest (t ∷ ts) us_listed ts_listed filled none e = none t (listing_of ts) ts_listed.0 e
no_listing (u ∷ us) rest [] us_listed ts_listed filled none e =
    absurd (let len = ap length (sym (append_assoc (line_of u) (listing_of us) rest) ∙ e) in omega (arith, len, length-append (line_of u) (listing_of us ++ rest), line_long u))
no_listing (u ∷ us) rest (t ∷ ts) us_listed ts_listed filled none e =
    let same = same_front u t (listing_of us ++ rest) (listing_of ts) us_listed.0 ts_listed.0 (sym (append_assoc (line_of u) (listing_of us) rest) ∙ e) in
    no_listing us rest ts us_listed.1 ts_listed.1 filled none same.1

pub same_listing : (us ts : List Txn) → AllByRecursion IsListed us → AllByRecursion IsListed ts → listing_of us ≡ listing_of ts → us ≡ ts
same_listing [] [] us_listed ts_listed e = refl
same_listing [] (t ∷ ts) us_listed ts_listed e = absurd (omega (arith, ap length e, length-append (line_of t) (listing_of ts), line_long t))
same_listing (u ∷ us) [] us_listed ts_listed e = absurd (omega (arith, ap length e, length-append (line_of u) (listing_of us), line_long u))
same_listing (u ∷ us) (t ∷ ts) us_listed ts_listed e =
    let same = same_front u t (listing_of us) (listing_of ts) us_listed.0 ts_listed.0 e in
    let others = same_listing us ts us_listed.1 ts_listed.1 same.1 in
    cc

-- what a faulty line implies for the whole text
pub only_memory : (cause : ListCause) (text : List ℕ) (txns more : List Txn) (old new : List ℕ) → BeginsWithListing text txns old → old ≢ [] → AddsLine (Err cause) txns more old new → (ts : List Txn) → AllByRecursion IsListed ts → text ≡ listing_of ts → cause ≡ causes.NoMemory
only_memory causes.NoMemory text txns more old new begins filled none ts listed e = refl
only_memory cause text txns more old new begins filled none ts listed e = absurd (no_listing txns old ts begins.listed listed filled none (sym begins.spelled ∙ e))

pub first_fault : (cause : ListCause) (text : List ℕ) (txns more : List Txn) (old new : List ℕ) (line : ℕ) → BeginsWithListing text txns old → old ≢ [] → AddsLine (Err cause) txns more old new → line ≡ length txns + 1 → (cause ≡ causes.NoMemory → ⊥) → IsFirstFault text line
first_fault causes.NoMemory text txns more old new line begins filled none number other = absurd (other refl)
first_fault cause text txns more old new line begins filled none number other = record { before = txns; rest = old; begins = begins; number = number; filled = filled; none = none }

pub whole_listing : (text : List ℕ) (txns : List Txn) → BeginsWithListing text txns [] → text ≡ listing_of txns
whole_listing text txns begins = begins.spelled ∙ append-nil (listing_of txns)

pub only_listing : (text : List ℕ) (txns : List Txn) → BeginsWithListing text txns [] → (ts : List Txn) → AllByRecursion IsListed ts → text ≡ listing_of ts → txns ≡ ts
only_listing text txns begins ts listed e = same_listing txns ts begins.listed listed (sym (whole_listing text txns begins) ∙ e)

-- each transaction has at least one byte, so their number fits 64 bits
pub fewer_than_bytes : (text : List ℕ) (txns : List Txn) (rest : List ℕ) → BeginsWithListing text txns rest → length txns + length rest ≤ length text
fewer_than_bytes text txns rest begins = omega (arith, ap length begins.spelled, length-append (listing_of txns) rest, listing_long txns)
  where
    listing_long : (ts : List Txn) → length ts ≤ length (listing_of ts)
    listing_long [] = omega arith
    listing_long (t ∷ ts) = omega (arith, length-append (line_of t) (listing_of ts), line_long t, listing_long ts)

pub filled_from : (xs : List ℕ) → eqb (length xs) 0 ≡ false → xs ≢ []
filled_from [] h e = eqb-false 0 0 h refl
filled_from (x ∷ xs) h e = absurd (let len : length (x ∷ xs) ≡ 0 = ap length e in omega arith)
