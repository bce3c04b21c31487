-- The same bytes are converted in one way.
use Rattle.std.proofs.Common.{◌≡◌, ℕ, ◌+◌, ◌*◌, ◌%◌, ◌^◌, ◌<◌, ◌≤◌, ℤ, pos, negsuc, inl, inr, ◌⊎◌, List, [], ◌∷◌, ◌++◌, length, take, drop, Option, None, Some, Result, Ok, Err, FitsSigned, refl, sym, ap, ◌∙◌, subst, append_assoc, arith, to_z, of_z, w64}
use Rattle.std.proofs.lemmas.Int.{to_z-of_z}
use Rattle.std.proofs.lemmas.List.{append_cancel_left}
use Rattle.std.proofs.lemmas.Nat.{from_be_bytes-to_be_bytes_8}
use Rattle.std.specs.Int.{from_be_bytes}
use Rattle.std.specs.List.{flat_map}
use Rattle.zk_records.specs.Records.{long}
use Rattle.zk_log.proofs.OnlyLaws.{IsSame, one_record, like_stop}
use Rattle.zk_log.proofs.Verdicts.{rank, verdict_on, stops_verdict, stands_entry}
use Rattle.zk_records.specs.Checksum.{adler_of, sum_one, sum_two}
use Rattle.zk_records.specs.Written.{header_of}
use Rattle.zk_log.specs.Logs.{HasNoHeader, Stands, Ends}
use Rattle.zk_log.specs.declared.fault.LogFault.TheVariants as log_faults
use Rattle.zk_log.specs.declared.loaded.Ending.{Ending}
use Rattle.zk_log.specs.declared.loaded.Ending.TheVariants.{Whole, Padding, Torn}
use Rattle.zk_newer_records.proofs.Whole.{newer_ones_are_of_one}
use Rattle.zk_newer_records.specs.NewerRecords.{newer_record, IsSpelled}
use Rattle.zk_newer_records.specs.declared.newer_record.NewerRecord.{NewerRecord}
use Rattle.zk_table.specs.declared.txn.Txn.{Txn}
use Rattle.zk_mend.specs.Mending.{IsMended, IsUnmended, IsUnmendedAt}
use Rattle.zk_mend.specs.NewerLogs.{LogPosition, start_place, after_all, after_record, newer_entry, txns_in, refusal, IsRefusedRecord, IsMendFault, MayCome, MendStops, Mends}
use Rattle.zk_mend.specs.Telling.{told_of}
use Rattle.zk_mend.specs.declared.fault.MendFault.{MendFault}
use Rattle.zk_mend.specs.declared.fault.MendFault.TheVariants as faults
use Rattle.zk_mend.specs.declared.mended.Mended.{Mended}
use Rattle.zk_mend.specs.declared.conversion_report.ConversionReport.{ConversionReport}

-- ---- one record

small_adler : (bytes : List ℕ) → adler_of bytes < 2 ^ 64
small_adler bytes = below (sum_two 1 0 bytes) (sum_one 1 bytes)
  where
    below : (a b : ℕ) → (a % 65521) * 65536 + b % 65521 < 2 ^ 64
    below a b = omega arith

some_record : (newer : NewerRecord) → 0 < length (newer_record newer)
unfolding newer_record
some_record newer = omega arith

stands_there : (place : LogPosition) (rest after : List ℕ) (newer : NewerRecord) → MayCome place newer → rest ≡ newer_entry newer ++ after → Stands rest (adler_of (newer_record newer)) (newer_record newer)
unfolding newer_entry
stands_there place rest after newer m e = record { after = after; spelled = e; sum_fits = small_adler (newer_record newer); some = some_record newer; most = m.entry.short }

-- the bytes there are one record
one_newer : (rest first second : List ℕ) (newer other : NewerRecord) → Stands rest (adler_of first) first → Stands rest (adler_of second) second → IsSpelled first newer → IsSpelled second other → newer ≡ other
one_newer rest first second newer other s t a b =
    newer_ones_are_of_one second newer other (subst (λ l. IsSpelled l newer) (one_record rest (adler_of first) (adler_of second) first second s t) a) b

-- ---- where reading stops

-- the conditions of a fault
abbrev pub Seen : LogPosition → List ℕ → MendFault → Type 0
Seen place rest fault =
    ((fault ≡ faults.Log (log_faults.TooLong place.at)) × (verdict_on rest ≡ 3))
    ⊎ (((fault ≡ faults.Log (log_faults.Checksum place.at)) × (verdict_on rest ≡ 4))
    ⊎ (((fault ≡ faults.Record place.at) × ((bytes : List ℕ) × Stands rest (adler_of bytes) bytes × ((newer : NewerRecord) → ¬ IsSpelled bytes newer)))
    ⊎ IsRefusedRecord place rest fault))

seen : (place : LogPosition) (rest : List ℕ) (fault : MendFault) → IsMendFault place rest fault → Seen place rest fault
unfolding rank
seen place rest (faults.Log (log_faults.TooLong at)) f = inl (ap (λ k. faults.Log (log_faults.TooLong k)) f.0, stops_verdict place.at place.last rest (Err (log_faults.TooLong at)) f)
seen place rest (faults.Log (log_faults.Checksum at)) f = inr (inl (ap (λ k. faults.Log (log_faults.Checksum k)) f.0, stops_verdict place.at place.last rest (Err (log_faults.Checksum at)) f))
seen place rest (faults.Record at) f = inr (inr (inl (ap faults.Record f.0, f.1)))
seen place rest fault f = inr (inr (inr f))

two_refusals : (found : Option MendFault) (a b : MendFault) → found ≡ Some a → found ≡ Some b → a ≡ b
two_refusals found a b p q = cc

no_refusal : (found : Option MendFault) (a : MendFault) → found ≡ None → found ≡ Some a → ⊥
no_refusal found a p q = cc

two_refused : (place : LogPosition) (rest : List ℕ) (a b : MendFault) → IsRefusedRecord place rest a → IsRefusedRecord place rest b → a ≡ b
two_refused place rest a b p q =
    let same : p.newer ≡ q.newer = one_newer rest p.bytes q.bytes p.newer q.newer p.stands q.stands p.spelled q.spelled in
    two_refusals (refusal place q.newer) a b (subst (λ n. refusal place n ≡ Some a) same p.refused) q.refused

unread : (place : LogPosition) (rest bytes : List ℕ) (fault : MendFault) → Stands rest (adler_of bytes) bytes → ((newer : NewerRecord) → ¬ IsSpelled bytes newer) → IsRefusedRecord place rest fault → ⊥
unread place rest bytes fault s none r = none r.newer (subst (λ l. IsSpelled l r.newer) (one_record rest (adler_of r.bytes) (adler_of bytes) r.bytes bytes r.stands s) r.spelled)

same_seen : (place : LogPosition) (rest : List ℕ) (a b : MendFault) → Seen place rest a → Seen place rest b → a ≡ b
same_seen place rest a b (inl p) (inl q) = p.0 ∙ sym q.0
same_seen place rest a b (inl p) (inr (inl q)) = absurd (omega (arith, p.1, q.1))
same_seen place rest a b (inl p) (inr (inr (inl q))) = absurd (omega (arith, p.1, stands_entry rest q.1.0 q.1.1))
same_seen place rest a b (inl p) (inr (inr (inr q))) = absurd (omega (arith, p.1, stands_entry rest q.bytes q.stands))
same_seen place rest a b (inr (inl p)) (inl q) = absurd (omega (arith, p.1, q.1))
same_seen place rest a b (inr (inl p)) (inr (inl q)) = p.0 ∙ sym q.0
same_seen place rest a b (inr (inl p)) (inr (inr (inl q))) = absurd (omega (arith, p.1, stands_entry rest q.1.0 q.1.1))
same_seen place rest a b (inr (inl p)) (inr (inr (inr q))) = absurd (omega (arith, p.1, stands_entry rest q.bytes q.stands))
same_seen place rest a b (inr (inr (inl p))) (inl q) = absurd (omega (arith, q.1, stands_entry rest p.1.0 p.1.1))
same_seen place rest a b (inr (inr (inl p))) (inr (inl q)) = absurd (omega (arith, q.1, stands_entry rest p.1.0 p.1.1))
same_seen place rest a b (inr (inr (inl p))) (inr (inr (inl q))) = p.0 ∙ sym q.0
same_seen place rest a b (inr (inr (inl p))) (inr (inr (inr q))) = absurd (unread place rest p.1.0 b p.1.1 p.1.2 q)
same_seen place rest a b (inr (inr (inr p))) (inl q) = absurd (omega (arith, q.1, stands_entry rest p.bytes p.stands))
same_seen place rest a b (inr (inr (inr p))) (inr (inl q)) = absurd (omega (arith, q.1, stands_entry rest p.bytes p.stands))
same_seen place rest a b (inr (inr (inr p))) (inr (inr (inl q))) = absurd (unread place rest q.1.0 a q.1.1 q.1.2 p)
same_seen place rest a b (inr (inr (inr p))) (inr (inr (inr q))) = two_refused place rest a b p q

low_endings : (ending : Ending) → rank (Ok ending) ≤ 2
unfolding rank
low_endings Whole = omega arith
low_endings Padding = omega arith
low_endings (Torn place) = omega arith

ending_verdict : (place : LogPosition) (rest : List ℕ) (ending : Ending) → Ends place.at rest ending → verdict_on rest ≤ 2
ending_verdict place rest ending e = omega (arith, stops_verdict place.at place.last rest (Ok ending) e, low_endings ending)

fault_verdict : (place : LogPosition) (rest : List ℕ) (fault : MendFault) → Seen place rest fault → 3 ≤ verdict_on rest
fault_verdict place rest fault (inl p) = omega (arith, p.1)
fault_verdict place rest fault (inr (inl p)) = omega (arith, p.1)
fault_verdict place rest fault (inr (inr (inl p))) = omega (arith, stands_entry rest p.1.0 p.1.1)
fault_verdict place rest fault (inr (inr (inr p))) = omega (arith, stands_entry rest p.bytes p.stands)

as_ending : (a b : Ending) → IsSame (Ok a) (Ok b) → a ≡ b
as_ending a b e = cc

same_stop : (place : LogPosition) (rest : List ℕ) (a b : Result Ending MendFault) → MendStops place rest a → MendStops place rest b → a ≡ b
same_stop place rest (Ok a) (Ok b) p q = ap Ok (as_ending a b (like_stop place.at place.last rest (Ok a) (Ok b) p q))
same_stop place rest (Ok a) (Err b) p q = absurd (omega (arith, ending_verdict place rest a p, fault_verdict place rest b (seen place rest b q)))
same_stop place rest (Err a) (Ok b) p q = absurd (omega (arith, ending_verdict place rest b q, fault_verdict place rest a (seen place rest a p)))
same_stop place rest (Err a) (Err b) p q = ap Err (same_seen place rest a b (seen place rest a p) (seen place rest b q))

-- ---- reading does not stop if a record comes next

no_fault : (place : LogPosition) (rest : List ℕ) (newer : NewerRecord) (fault : MendFault) → MayCome place newer → Stands rest (adler_of (newer_record newer)) (newer_record newer) → Seen place rest fault → ⊥
no_fault place rest newer fault m s (inl p) = omega (arith, p.1, stands_entry rest (newer_record newer) s)
no_fault place rest newer fault m s (inr (inl p)) = omega (arith, p.1, stands_entry rest (newer_record newer) s)
no_fault place rest newer fault m s (inr (inr (inl p))) =
    p.1.2 newer (subst (λ l. IsSpelled l newer) (one_record rest (adler_of (newer_record newer)) (adler_of p.1.0) (newer_record newer) p.1.0 s p.1.1) m.entry.spelled)
no_fault place rest newer fault m s (inr (inr (inr p))) =
    let same : p.newer ≡ newer = one_newer rest p.bytes (newer_record newer) p.newer newer p.stands s p.spelled m.entry.spelled in
    no_refusal (refusal place newer) fault m.goes (subst (λ n. refusal place n ≡ Some fault) same p.refused)

no_stop : (place : LogPosition) (rest : List ℕ) (newer : NewerRecord) (outcome : Result Ending MendFault) → MayCome place newer → Stands rest (adler_of (newer_record newer)) (newer_record newer) → MendStops place rest outcome → ⊥
no_stop place rest newer (Ok ending) m s e = omega (arith, ending_verdict place rest ending e, stands_entry rest (newer_record newer) s)
no_stop place rest newer (Err fault) m s f = no_fault place rest newer fault m s (seen place rest fault f)

-- ---- the entries

first_entry : (place : LogPosition) (bytes : List ℕ) (newer : NewerRecord) (newers : List NewerRecord) (outcome : Result Ending MendFault) (h : Mends place bytes (newer ∷ newers) outcome) → bytes ≡ newer_entry newer ++ (flat_map newer_entry newers ++ h.rest)
first_entry place bytes newer newers outcome h = h.spelled ∙ append_assoc (newer_entry newer) (flat_map newer_entry newers) h.rest

tail_mends : (place : LogPosition) (bytes tail : List ℕ) (newer : NewerRecord) (newers : List NewerRecord) (outcome : Result Ending MendFault) → bytes ≡ newer_entry newer ++ tail → Mends place bytes (newer ∷ newers) outcome → Mends (after_record place newer) tail newers outcome
tail_mends place bytes tail newer newers outcome e h = record {
  rest = h.rest;
  spelled = append_cancel_left (newer_entry newer) tail (flat_map newer_entry newers ++ h.rest) (sym e ∙ first_entry place bytes newer newers outcome h);
  come = h.come.1;
  stops = h.stops;
}

pub one_way : (place : LogPosition) (bytes : List ℕ) (newers others : List NewerRecord) (outcome other : Result Ending MendFault) → Mends place bytes newers outcome → Mends place bytes others other → (newers ≡ others) × (outcome ≡ other)
one_way place bytes [] [] outcome other g h =
    (refl, same_stop place bytes outcome other (subst (λ l. MendStops place l outcome) (sym g.spelled) g.stops) (subst (λ l. MendStops place l other) (sym h.spelled) h.stops))
one_way place bytes [] (newer ∷ others) outcome other g h =
    let s = stands_there place bytes (flat_map newer_entry others ++ h.rest) newer h.come.0 (first_entry place bytes newer others other h) in
    absurd (no_stop place bytes newer outcome h.come.0 s (subst (λ l. MendStops place l outcome) (sym g.spelled) g.stops))
one_way place bytes (newer ∷ newers) [] outcome other g h =
    let s = stands_there place bytes (flat_map newer_entry newers ++ g.rest) newer g.come.0 (first_entry place bytes newer newers outcome g) in
    absurd (no_stop place bytes newer other g.come.0 s (subst (λ l. MendStops place l other) (sym h.spelled) h.stops))
one_way place bytes (newer ∷ newers) (next ∷ others) outcome other g h =
    let s = stands_there place bytes (flat_map newer_entry newers ++ g.rest) newer g.come.0 (first_entry place bytes newer newers outcome g) in
    let t = stands_there place bytes (flat_map newer_entry others ++ h.rest) next h.come.0 (first_entry place bytes next others other h) in
    let same : newer ≡ next = one_newer bytes (newer_record newer) (newer_record next) newer next s t g.come.0.entry.spelled h.come.0.entry.spelled in
    let h' : Mends place bytes (newer ∷ others) other = subst (λ n. Mends place bytes (n ∷ others) other) (sym same) h in
    let tail = flat_map newer_entry newers ++ g.rest in
    let e : bytes ≡ newer_entry newer ++ tail = first_entry place bytes newer newers outcome g in
    let r = one_way (after_record place newer) tail newers others outcome other (tail_mends place bytes tail newer newers outcome e g) (tail_mends place bytes tail newer others other e h') in
    (ap (λ l. newer ∷ l) r.0 ∙ ap (λ n. n ∷ others) same, r.1)

-- ---- whole files

has_header : (bytes body : List ℕ) (dbid : ℤ) → bytes ≡ header_of dbid ++ body → HasNoHeader bytes → ⊥
has_header bytes body dbid e (inl short) = let len : length bytes ≡ length (header_of dbid ++ body) = ap length e in omega arith
has_header bytes body dbid e (inr other) = other (ap (take 8) e)

same_body : (a b : List ℕ) (d d' : ℤ) → header_of d ++ a ≡ header_of d' ++ b → a ≡ b
same_body a b d d' e = ap (drop 16) e

bits_below : (z : ℤ) → FitsSigned w64 z → of_z w64 z < 2 ^ 64
bits_below (pos n) fits = let small : n < 2 ^ 63 = fits.sfits in omega arith
bits_below (negsuc n) fits = omega arith

same_dbid : (a b : List ℕ) (d d' : ℤ) → FitsSigned w64 d → FitsSigned w64 d' → header_of d ++ a ≡ header_of d' ++ b → d ≡ d'
same_dbid a b d d' f f' e =
    let longs : long d ≡ long d' = ap (λ l. take 8 (drop 8 l)) e in
    let bits : of_z w64 d ≡ of_z w64 d' = sym (from_be_bytes-to_be_bytes_8 (of_z w64 d) (bits_below d f)) ∙ ap (from_be_bytes w64) longs ∙ from_be_bytes-to_be_bytes_8 (of_z w64 d') (bits_below d' f') in
    sym (to_z-of_z w64 d f) ∙ ap (to_z w64) bits ∙ to_z-of_z w64 d' f'

-- two bodies after headers of the same bytes
one_body : (bytes body body' : List ℕ) (dbid dbid' : ℤ) (newers others : List NewerRecord) (outcome other : Result Ending MendFault) → bytes ≡ header_of dbid ++ body → bytes ≡ header_of dbid' ++ body' → Mends start_place body newers outcome → Mends start_place body' others other
    → (newers ≡ others) × (outcome ≡ other)
one_body bytes body body' dbid dbid' newers others outcome other e e' g h =
    one_way start_place body newers others outcome other g (subst (λ l. Mends start_place l others other) (same_body body' body dbid' dbid (sym e' ∙ e)) h)

ok_same : (a b : Ending) → (let x : Result Ending MendFault = Ok a in x ≡ Ok b) → a ≡ b
ok_same a b e = cc

err_same : (a b : MendFault) → (let x : Result Ending MendFault = Err a in x ≡ Err b) → a ≡ b
err_same a b e = cc

ok_no_err : (a : Ending) (b : MendFault) → (let x : Result Ending MendFault = Ok a in x ≡ Err b) → ⊥
ok_no_err a b e = cc

same_mended : (a b : Mended) → a.dbid ≡ b.dbid → a.journal ≡ b.journal → a.ending ≡ b.ending → a.told ≡ b.told → a ≡ b
same_mended a b p q r s =
    ap (λ (z : ℤ). record { dbid = z; journal = a.journal; ending = a.ending; told = a.told }) p
    ∙ ap (λ (l : List Txn). record { dbid = b.dbid; journal = l; ending = a.ending; told = a.told }) q
    ∙ ap (λ (e : Ending). record { dbid = b.dbid; journal = b.journal; ending = e; told = a.told }) r
    ∙ ap (λ (t : ConversionReport). record { dbid = b.dbid; journal = b.journal; ending = b.ending; told = t }) s

pub mends_in_one_way : (bytes : List ℕ) (first second : Mended) → IsMended bytes first → IsMended bytes second → first ≡ second
mends_in_one_way bytes first second g h =
    let o = one_body bytes g.body h.body first.dbid second.dbid g.entries.newers h.entries.newers (Ok first.ending) (Ok second.ending) g.spelled h.spelled g.entries.mends h.entries.mends in
    same_mended first second
    (same_dbid g.body h.body first.dbid second.dbid g.dbid_fits h.dbid_fits (sym g.spelled ∙ h.spelled))
    (g.entries.journal ∙ ap txns_in o.0 ∙ sym h.entries.journal)
    (ok_same first.ending second.ending o.1)
    (g.entries.told ∙ ap (λ l. told_of (txns_in l) (after_all start_place l).told) o.0 ∙ sym h.entries.told)

-- the fault of a file is in its header, or after it
unmended : (bytes : List ℕ) (fault : MendFault) → IsUnmended bytes fault → ((fault ≡ faults.Log log_faults.Header) × HasNoHeader bytes) ⊎ IsUnmendedAt bytes fault
unmended bytes (faults.Log log_faults.Header) h = inl (refl, h)
unmended bytes fault h = inr h

one_refusal : (bytes : List ℕ) (first second : MendFault) → ((first ≡ faults.Log log_faults.Header) × HasNoHeader bytes) ⊎ IsUnmendedAt bytes first → ((second ≡ faults.Log log_faults.Header) × HasNoHeader bytes) ⊎ IsUnmendedAt bytes second → first ≡ second
one_refusal bytes first second (inl g) (inl h) = g.0 ∙ sym h.0
one_refusal bytes first second (inl g) (inr h) = absurd (has_header bytes h.body h.dbid h.spelled g.1)
one_refusal bytes first second (inr g) (inl h) = absurd (has_header bytes g.body g.dbid g.spelled h.1)
one_refusal bytes first second (inr g) (inr h) = err_same first second (one_body bytes g.body h.body g.dbid h.dbid g.newers h.newers (Err first) (Err second) g.spelled h.spelled g.entries h.entries).1

pub refuses_in_one_way : (bytes : List ℕ) (first second : MendFault) → IsUnmended bytes first → IsUnmended bytes second → first ≡ second
refuses_in_one_way bytes first second g h = one_refusal bytes first second (unmended bytes first g) (unmended bytes second h)

mends_and_refuses : (bytes : List ℕ) (mended : Mended) (fault : MendFault) → IsMended bytes mended → ((fault ≡ faults.Log log_faults.Header) × HasNoHeader bytes) ⊎ IsUnmendedAt bytes fault → ⊥
mends_and_refuses bytes mended fault g (inl h) = has_header bytes g.body mended.dbid g.spelled h.1
mends_and_refuses bytes mended fault g (inr h) = ok_no_err mended.ending fault (one_body bytes g.body h.body mended.dbid h.dbid g.entries.newers h.newers (Ok mended.ending) (Err fault) g.spelled h.spelled g.entries.mends h.entries).1

pub mends_or_refuses : (bytes : List ℕ) (mended : Mended) (fault : MendFault) → IsMended bytes mended → IsUnmended bytes fault → ⊥
mends_or_refuses bytes mended fault g h = mends_and_refuses bytes mended fault g (unmended bytes fault h)
