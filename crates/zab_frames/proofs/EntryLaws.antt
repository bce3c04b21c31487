-- Entries and histories: reading is the inverse of writing.
use Rattle.std.proofs.Common.{◌≡◌, ℕ, suc, ℤ, pos, ◌+◌, ◌%◌, ◌^◌, ◌<◌, ◌≤◌, ◌<ℤ◌, Bool, true, false, cond, ltb, eqb, List, [], ◌∷◌, ◌++◌, length, Result, Ok, Err, refl, sym, ap, subst, ◌∙◌, append_assoc, append-nil, length-append, get_or, drop, add-one, arith}
use Rattle.std.specs.Prelude.{◌&&◌, ◌==◌, ◌-◌, ◌≤ℤ◌, int_lt, slice_get, Some}
use Rattle.std.specs.Int.{w32, w64}
use Rattle.std.specs.List.{flat_map, AllByRecursion}
use Rattle.std.proofs.lemmas.Bool.{eqb-true, eq-eqb, ltb-false, le-ltb}
use Rattle.std.proofs.lemmas.Bool.Decides.{nat_tests}
use Rattle.std.proofs.lemmas.Int.{ints}
use Rattle.std.proofs.lemmas.List.Concat.{flat_map-cons}
use Rattle.std.proofs.lemmas.List.{length-drop, nil_from_length}
use Rattle.std.proofs.Math.Nat.{mod-lt}
use Rattle.std.proofs.Math.Seq.{drop-cons}
use Rattle.zk_jute.specs.declared.fault.JuteFault.{JuteFault}
use Rattle.zk_jute.specs.declared.fault.JuteFault.TheVariants as faults
use Rattle.zk_jute.specs.Reading.{◌>>=◌, Fails, bytes_at, all_of}
use Rattle.zk_jute.proofs.Numbers.{IsBytes, IsBytes-between, TakesFront, TakesFront-then, IsField, first_read, bind_ok, guard_ended, at_ok, bytes_take, bytes_again}
use Rattle.zk_jute.proofs.Turns.{with_front}
use Rattle.zk_jute.proofs.Whole.{all_takes, all_again}
use Rattle.zk_records.specs.Checksum.{adler_of, sum_one, sum_two}
use Rattle.zk_records.specs.Records.{record_of, IsRecordOf}
use Rattle.zk_records.specs.Written.{framed, entry_of, HasEntry, Rises}
use Rattle.zab_epoch.proofs.Histories.{short_of}
use Rattle.zk_records.specs.Sizes.{size_of}
use Rattle.zk_records.proofs.EntryLaws.{entry_is}
use Rattle.zk_table.specs.declared.txn.Txn.{Txn}
use Rattle.zab_epoch.specs.declared.history.Entry.{Entry}
use Rattle.zab_epoch.specs.Entries.{tags_of, txns_of, zxid_of, last_zxid}
use Rattle.zab_frames.specs.Messages.{word, long_word, counted_list, tagged_entry, history_of}
use Rattle.zab_frames.specs.Ranges.{IsWord, IsLongWord, AreCounted, IsEntry, IsHistory}
use Rattle.zab_frames.specs.Reading.{◌&◌, natural_at, list_at, record_by, record_at, checked_txn, ends_at, entry_at, entry_from, tagged_entry_at, entries_at, history_at}
use Rattle.zab_frames.proofs.FieldLaws.{pair_field, made_field, word_field, long_word_field, list_field}

both_true : (a b : Bool) → (a && b) ≡ true → (a ≡ true) × (b ≡ true)
both_true true true e = (refl, refl)
both_true true false e = absurd cc
both_true false b e = absurd cc

-- ---- the record in an entry

abbrev record_bytes : List ℕ → List ℕ
record_bytes bytes = word (length bytes) ++ bytes

abbrev IsWithin : List ℕ → Type 0
IsWithin bytes = length bytes ≤ 16777216

within : (count : ℕ) (rest : List ℕ) (x : List ℕ × List ℕ) → record_by count rest ≡ Ok x → (count ≤ 16777216) × (bytes_at count rest ≡ Ok x)
within count rest x e = by_test (ltb 16777216 count) refl e
  where
    by_test : (b : Bool) → ltb 16777216 count ≡ b → cond b (Err faults.Length) (bytes_at count rest) ≡ Ok x → (count ≤ 16777216) × (bytes_at count rest ≡ Ok x)
    by_test true is h = absurd cc
    by_test false is h = (ltb-false _ _ is, h)

record_takes : (bytes : List ℕ) (x : List ℕ × List ℕ) → IsBytes bytes → record_at bytes ≡ Ok x → TakesFront bytes (record_bytes x.0) x.1 × IsWithin x.0
unfolding record_at
record_takes bytes x fits e =
    let a = first_read (natural_at w32) word IsWord word_field bytes (λ count. record_by count.0 count.1) x fits e in
    let g = within a.got.0 a.got.1 x a.goes in
    let t = bytes_take a.got.0 a.got.1 x a.took.rest_fits g.1 in
    let both = TakesFront-then bytes (word a.got.0) a.got.1 x.0 x.1 a.took t.0 in
    (subst (λ (k : ℕ). TakesFront bytes (word k ++ x.0) x.1) (sym t.1) both, subst (λ (k : ℕ). k ≤ 16777216) (sym t.1) g.0)

record_again : (content rest : List ℕ) → IsWithin content → record_at (record_bytes content ++ rest) ≡ Ok (content, rest)
unfolding record_at
record_again content rest short =
    let small : length content < 2 ^ 32 = omega arith in
    let test : ltb 16777216 (length content) ≡ false = le-ltb _ _ short in
    ap record_at (append_assoc (word (length content)) content rest) ∙ rw (word_field.again (length content) (content ++ rest) small, test, bytes_again content rest) refl

record_field : IsField record_at record_bytes IsWithin
record_field = record { takes = record_takes; again = record_again }

-- ---- an entry

ends_takes : (bytes : List ℕ) (ended : Bool) (rest : List ℕ) → (let made : Bool × List ℕ = (ended, rest) in ends_at bytes ≡ Ok made) → ended ≡ true → bytes ≡ 0x42 ∷ rest
ends_takes [] ended rest e is = absurd cc
ends_takes (b ∷ bytes) ended rest e is =
    let made : Bool × List ℕ = (ended, rest) in
    let same : (let read : Bool × List ℕ = (eqb b 0x42, bytes) in read ≡ made) = cc in
    let last : b ≡ 0x42 = eqb-true b 0x42 (ap (λ (p : Bool × List ℕ). p.0) same ∙ is) in
    ap (λ (n : ℕ). n ∷ bytes) last ∙ ap (λ (p : Bool × List ℕ). 0x42 ∷ p.1) same

joined : (a b c d e : List ℕ) → a ++ ((b ++ c) ++ (d ++ e)) ≡ (((a ++ b) ++ c) ++ d) ++ e
joined a b c d e = simp append_assoc

entry_takes : (bytes : List ℕ) (x : Txn × List ℕ) → IsBytes bytes → entry_at bytes ≡ Ok x → TakesFront bytes (entry_of x.0) x.1 × HasEntry x.0
unfolding entry_at
entry_takes bytes x fits e =
    let a = first_read (natural_at w64) long_word IsLongWord long_word_field bytes (λ sum. record_at sum.1 >>= λ bytes_of. ends_at bytes_of.1 >>= λ ended. all_of bytes_of.0 >>= λ txn. checked_txn sum.0 bytes_of.0 ended.0 txn ended.1) x fits e in
    let b = first_read record_at record_bytes IsWithin record_field a.got.1 (λ bytes_of. ends_at bytes_of.1 >>= λ ended. all_of bytes_of.0 >>= λ txn. checked_txn a.got.0 bytes_of.0 ended.0 txn ended.1) x a.took.rest_fits a.goes in
    let c = bind_ok {A = Bool × List ℕ} {B = Txn × List ℕ} (ends_at b.got.1) (λ ended. all_of b.got.0 >>= λ txn. checked_txn a.got.0 b.got.0 ended.0 txn ended.1) x b.goes in
    let d = bind_ok {A = Txn} {B = Txn × List ℕ} (all_of b.got.0) (λ txn. checked_txn a.got.0 b.got.0 c.0.0 txn c.0.1) x c.2 in
    let made : Txn × List ℕ = (d.0, c.0.1) in
    let g = guard_ended (c.0.0 && (a.got.0 == adler_of b.got.0)) faults.Kind made x d.2 in
    let tests = both_true c.0.0 (a.got.0 == adler_of b.got.0) g.0 in
    let sum : a.got.0 ≡ adler_of b.got.0 = eqb-true _ _ tests.1 in
    let ended : b.got.1 ≡ 0x42 ∷ c.0.1 = ends_takes b.got.1 c.0.0 c.0.1 c.1 tests.0 in
    let bytes_fit : IsBytes b.got.0 = IsBytes-between a.got.1 (word (length b.got.0)) b.got.0 b.got.1 b.took.parts a.took.rest_fits in
    let is : IsRecordOf b.got.0 d.0 = all_takes b.got.0 d.0 bytes_fit d.1 in
    let rest_fits : IsBytes c.0.1 = λ i. subst IsBytes ended b.took.rest_fits (suc i) in
    let spelled : bytes ≡ entry_of d.0 ++ c.0.1 =
    a.took.parts ∙ ap (λ (l : List ℕ). long_word a.got.0 ++ l) (b.took.parts ∙ ap (λ (l : List ℕ). record_bytes b.got.0 ++ l) ended)
    ∙ joined (long_word a.got.0) (word (length b.got.0)) b.got.0 (0x42 ∷ []) c.0.1
    ∙ ap (λ (n : ℕ). framed n b.got.0 ++ c.0.1) sum ∙ ap (λ (l : List ℕ). l ++ c.0.1) (sym (entry_is d.0 b.got.0 is)) in
    let has : HasEntry d.0 = record { fits = is.fits; short = subst (λ (l : List ℕ). length l ≤ 16777216) is.spelled b.fits } in
    at_ok (λ (y : Txn × List ℕ). TakesFront bytes (entry_of y.0) y.1 × HasEntry y.0) made x (ap Ok g.1) (record { parts = spelled; rest_fits = rest_fits }, has)

pub adler_small : (bytes : List ℕ) → adler_of bytes < 2 ^ 32
adler_small bytes =
    let one : (sum_one 1 bytes) % 65521 < 65521 = mod-lt (sum_one 1 bytes) (omega arith) in
    let two : (sum_two 1 0 bytes) % 65521 < 65521 = mod-lt (sum_two 1 0 bytes) (omega arith) in
    omega (arith, one, two)

entry_again : (txn : Txn) (rest : List ℕ) → HasEntry txn → entry_at (entry_of txn ++ rest) ≡ Ok (txn, rest)
unfolding entry_at entry_of
entry_again txn rest has =
    let bytes = record_of txn in
    let is : IsRecordOf bytes txn = record { fits = has.fits; spelled = refl } in
    let small : adler_of bytes < 2 ^ 64 = omega (arith, adler_small bytes) in
    let test : eqb (adler_of bytes) (adler_of bytes) ≡ true = eq-eqb _ _ refl in
    ap entry_at (sym (joined (long_word (adler_of bytes)) (word (length bytes)) bytes (0x42 ∷ []) rest))
    ∙ rw (long_word_field.again (adler_of bytes) (record_bytes bytes ++ (0x42 ∷ rest)) small, record_field.again bytes (0x42 ∷ rest) has.short, all_again bytes txn is, test) refl

pub entry_field : IsField entry_at entry_of HasEntry
entry_field = record { takes = entry_takes; again = entry_again }

entry_fields : Entry → ℕ × Txn
entry_fields entry = (entry.tag, entry.txn)

pub tagged_entry_field : IsField tagged_entry_at tagged_entry IsEntry
unfolding tagged_entry_at entry_fields
tagged_entry_field = made_field (natural_at w64 & entry_at) _ _ entry_from entry_fields (pair_field long_word_field entry_field) (λ entry. refl) (λ fields. refl)

-- ---- histories

-- the entries with these tags were read
record EntriesRead (last : ℤ) (tags bytes : List ℕ) (x : List Entry × List ℕ) : Type 0 where
  took : TakesFront bytes (flat_map entry_of (txns_of x.0)) x.1
  tagged : tags_of x.0 ≡ tags
  each : AllByRecursion HasEntry (txns_of x.0)
  rising : Rises last (txns_of x.0)

above_is : (a b : ℤ) → int_lt a b ≡ true → a <ℤ b
above_is a b e = grind (arith, nat_tests, ints)

is_above : (a b : ℤ) → a <ℤ b → int_lt a b ≡ true
is_above a b above = grind (arith, nat_tests, ints)

-- a test that let a reader go on
let_on : {A : Type 0} (b : Bool) (read : Result A JuteFault) (x : A) → cond b read (Err faults.Kind) ≡ Ok x → (b ≡ true) × (read ≡ Ok x)
let_on true read x e = (refl, e)
let_on false read x e = absurd cc

entries_take : (tags : List ℕ) (last : ℤ) (bytes : List ℕ) (x : List Entry × List ℕ) → IsBytes bytes → entries_at last tags bytes ≡ Ok x → EntriesRead last tags bytes x
unfolding entries_at
entries_take [] last bytes x fits e =
    let made : List Entry × List ℕ = ([], bytes) in
    at_ok (EntriesRead last [] bytes) made x e (record { took = record { parts = refl; rest_fits = fits }; tagged = refl; each = tt; rising = tt })
entries_take (tag ∷ tags) last bytes x fits e =
    let a = first_read entry_at entry_of HasEntry entry_field bytes (λ txn. cond (int_lt last txn.0.zxid) (entries_at txn.0.zxid tags txn.1) (Err faults.Kind) >>= λ others. Ok (entry_from (tag, txn.0) ∷ others.0, others.1)) x fits e in
    let txn = a.got.0 in
    let b = bind_ok {A = List Entry × List ℕ} {B = List Entry × List ℕ} (cond (int_lt last txn.zxid) (entries_at txn.zxid tags a.got.1) (Err faults.Kind)) (λ others. Ok (entry_from (tag, txn) ∷ others.0, others.1)) x a.goes in
    let g = let_on (int_lt last txn.zxid) (entries_at txn.zxid tags a.got.1) b.0 b.1 in
    let others = entries_take tags txn.zxid a.got.1 b.0 a.took.rest_fits g.1 in
    let both = TakesFront-then bytes (entry_of txn) a.got.1 (flat_map entry_of (txns_of b.0.0)) b.0.1 a.took others.took in
    let whole : TakesFront bytes (flat_map entry_of (txn ∷ txns_of b.0.0)) b.0.1 = rw flat_map-cons both in
    let made : List Entry × List ℕ = (entry_from (tag, txn) ∷ b.0.0, b.0.1) in
    at_ok (EntriesRead last (tag ∷ tags) bytes) made x b.2
    (record { took = whole; tagged = ap (λ (l : List ℕ). tag ∷ l) others.tagged; each = (a.fits, others.each); rising = (above_is last txn.zxid g.0, others.rising) })

entries_again : (history : List Entry) (last : ℤ) (rest : List ℕ) → AllByRecursion HasEntry (txns_of history) → Rises last (txns_of history)
    → entries_at last (tags_of history) (flat_map entry_of (txns_of history) ++ rest) ≡ Ok (history, rest)
unfolding entries_at
entries_again [] last rest each rises = refl
entries_again (entry ∷ history) last rest each rises =
    let later = flat_map entry_of (txns_of history) ++ rest in
    let regrouped : flat_map entry_of (txns_of (entry ∷ history)) ++ rest ≡ entry_of entry.txn ++ later =
    ap (λ (l : List ℕ). l ++ rest) (flat_map-cons entry_of entry.txn (txns_of history)) ∙ append_assoc (entry_of entry.txn) (flat_map entry_of (txns_of history)) rest in
    let test : int_lt last entry.txn.zxid ≡ true = is_above last entry.txn.zxid rises.0 in
    ap (entries_at last (tags_of (entry ∷ history))) regrouped ∙ rw (entry_field.again entry.txn later each.0, test, entries_again history entry.txn.zxid rest each.1 rises.1) refl

history_takes : (bytes : List ℕ) (x : List Entry × List ℕ) → IsBytes bytes → history_at bytes ≡ Ok x → TakesFront bytes (history_of x.0) x.1 × IsHistory x.0
unfolding history_at
history_takes bytes x fits e =
    let a = first_read (list_at (natural_at w64)) (counted_list long_word) (AreCounted IsLongWord) (list_field long_word_field) bytes (λ tags. entries_at (pos 0) tags.0 tags.1) x fits e in
    let b = entries_take a.got.0 (pos 0) a.got.1 x a.took.rest_fits a.goes in
    let both = TakesFront-then bytes (counted_list long_word a.got.0) a.got.1 (flat_map entry_of (txns_of x.0)) x.1 a.took b.took in (
      subst (λ (tags : List ℕ). TakesFront bytes (counted_list long_word tags ++ flat_map entry_of (txns_of x.0)) x.1) (sym b.tagged) both,
      (subst (AreCounted IsLongWord) (sym b.tagged) a.fits, record { each = b.each; rising = b.rising }),
    )

history_again : (history : List Entry) (rest : List ℕ) → IsHistory history → history_at (history_of history ++ rest) ≡ Ok (history, rest)
unfolding history_at
history_again history rest is =
    let later = flat_map entry_of (txns_of history) ++ rest in
    ap history_at (append_assoc (counted_list long_word (tags_of history)) (flat_map entry_of (txns_of history)) rest)
    ∙ rw ((list_field long_word_field).again (tags_of history) later is.0, entries_again history (pos 0) rest is.1.each is.1.rising) refl

pub history_field : IsField history_at history_of IsHistory
history_field = record { takes = history_takes; again = history_again }

-- ---- the loop

last_entry : (history : List Entry) (entry : Entry) → slice_get (history ++ entry ∷ []) (length history) ≡ Some entry
last_entry [] entry = refl
last_entry (first ∷ history) entry = last_entry history entry

pub last_pushed : (history : List Entry) (entry : Entry) → last_zxid (history ++ entry ∷ []) ≡ entry.txn.zxid
last_pushed history entry =
    let count : length (history ++ entry ∷ []) - 1 ≡ length history = omega (arith, length-append history (entry ∷ [])) in
    ap (λ n. zxid_of (slice_get (history ++ entry ∷ []) n)) count ∙ ap zxid_of (last_entry history entry)

-- a fault of a part is the fault of the whole
Fails-then : {X Y : Type 0} (fault : JuteFault) (part : Result X JuteFault) (whole : Result Y JuteFault) → ((f : JuteFault) → part ≡ Err f → whole ≡ Err f) → Fails fault part → Fails fault whole
Fails-then faults.NoMemory part whole same fails = tt
Fails-then fault part whole same fails = same fault fails

regroup : (front : List Entry) (entry : Entry) (read : Result (List Entry × List ℕ) JuteFault) → with_front front (read >>= λ y. Ok (entry ∷ y.0, y.1)) ≡ with_front (front ++ entry ∷ []) read
regroup front entry (Ok y) = ap (λ (xs : List Entry). Ok (xs, y.1)) (simp append_assoc)
regroup front entry (Err fault) = refl

pub entries_go_on : (front : List Entry) (last : ℤ) (tag : ℕ) (tags bytes : List ℕ) (txn : Txn) (after : List ℕ) (total : Result (List Entry × List ℕ) JuteFault) → entry_at bytes ≡ Ok (txn, after) → last <ℤ txn.zxid
    → with_front front (entries_at last (tag ∷ tags) bytes) ≡ total → with_front (front ++ entry_from (tag, txn) ∷ []) (entries_at txn.zxid tags after) ≡ total
unfolding entries_at
entries_go_on front last tag tags bytes txn after total h above so_far =
    let one : with_front front (entries_at last (tag ∷ tags) bytes) ≡ with_front (front ++ entry_from (tag, txn) ∷ []) (entries_at txn.zxid tags after) =
    rw (h, is_above last txn.zxid above) (regroup front (entry_from (tag, txn)) (entries_at txn.zxid tags after)) in
    sym one ∙ so_far

pub entries_end : (fault : JuteFault) (front : List Entry) (last : ℤ) (tag : ℕ) (tags bytes : List ℕ) (total : Result (List Entry × List ℕ) JuteFault) → Fails fault (entry_at bytes)
    → with_front front (entries_at last (tag ∷ tags) bytes) ≡ total → Fails fault total
unfolding entries_at
entries_end fault front last tag tags bytes total fails so_far =
    Fails-then fault (entry_at bytes) total (λ f h.
    let one : with_front front (entries_at last (tag ∷ tags) bytes) ≡ Err f = rw h refl in
    sym so_far ∙ one) fails

not_above : (a b : ℤ) → b ≤ℤ a → int_lt a b ≡ false
not_above a b below = grind (arith, nat_tests, ints)

pub entries_fall : (front : List Entry) (last : ℤ) (tag : ℕ) (tags bytes : List ℕ) (txn : Txn) (after : List ℕ) (total : Result (List Entry × List ℕ) JuteFault) → entry_at bytes ≡ Ok (txn, after) → txn.zxid ≤ℤ last
    → with_front front (entries_at last (tag ∷ tags) bytes) ≡ total → total ≡ Err faults.Kind
unfolding entries_at
entries_fall front last tag tags bytes txn after total h below so_far =
    let one : with_front front (entries_at last (tag ∷ tags) bytes) ≡ Err faults.Kind = rw (h, not_above last txn.zxid below) refl in
    sym so_far ∙ one

pub entries_done : (front : List Entry) (last : ℤ) (bytes : List ℕ) (total : Result (List Entry × List ℕ) JuteFault) → with_front front (entries_at last [] bytes) ≡ total → total ≡ Ok (front, bytes)
unfolding entries_at
entries_done front last bytes total so_far =
    let one : with_front front (entries_at last [] bytes) ≡ Ok (front, bytes) = ap (λ (xs : List Entry). Ok (xs, bytes)) (append-nil front) in
    sym so_far ∙ one

pub next_tag : (tags : List ℕ) (i : ℕ) → i < length tags → drop i tags ≡ get_or tags i 0 ∷ drop (i + 1) tags
next_tag tags i below = rw (add-one) (drop-cons tags i 0 below)

pub no_tag : (tags : List ℕ) (i : ℕ) → length tags ≤ i → drop i tags ≡ []
no_tag tags i le = nil_from_length (drop i tags) (omega (arith, length-drop i tags))

-- ---- short entries

pub short_record : (bytes : List ℕ) (txn : Txn) → IsRecordOf bytes txn → length bytes ≤ 16777216 → size_of (record_of txn) ≤ 16777216
short_record bytes txn is short = short_of txn (record { fits = is.fits; short = subst (λ (l : List ℕ). length l ≤ 16777216) is.spelled short })
