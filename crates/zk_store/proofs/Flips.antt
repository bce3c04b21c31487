-- What is read of a book's file of which one byte was changed.
use Rattle.std.proofs.Common.{◌≡◌, ◌≢◌, ◌⊎◌, ℕ, zero, suc, ◌+◌, ◌-◌, ◌*◌, ◌/◌, ◌%◌, ◌<◌, ◌≤◌, ◌==◌, if◌then◌else◌, cond, List, [], ◌∷◌, ◌++◌, length, take, drop, get_or, slice_index, sum, Bool, true, false, inl, inr, refl, sym, ap, ◌∙◌, subst, arith, length-take, length-drop, get_or-take, take-append-drop, drop-cons}
use Rattle.std.proofs.lemmas.Bool.{cases_lt, eqb-true, le-ltb, lt-ltb}
use Rattle.std.proofs.lemmas.List.{ext_get_or, get_or-drop, length-take-le, drop-drop}
use Rattle.std.proofs.lemmas.Nat.{be_bytes_4}
use Rattle.std.specs.Int.{w32, to_be_bytes, from_be_bytes}
use Rattle.zk_records.proofs.SumLaws.{sum_one-append, sum_one-cons}
use Rattle.zk_records.specs.Checksum.{adler_of, sum_one, sum_two}
use Rattle.zk_store.proofs.BookFiles.{damaged_is, no_book, same_selected, selected_low}
use Rattle.zk_store.proofs.FileParts.{part_same}
use Rattle.zk_store.specs.Books.{Damaged, Found, HasBook, NoBook, block_at, book_of, is_sound, read_block, read_book, selected}
use Rattle.zk_store.specs.Changes.{ChangesAreNoticed, HasOneChange, IsAtRest}
use Rattle.zk_store.specs.declared.book.Book.{Book}

-- ---- checksums

split : (before after : List ℕ) (byte : ℕ) → sum_one 1 (before ++ byte ∷ after) ≡ 1 + sum before + byte + sum after
split before after byte = sum_one-append 1 before (byte ∷ after) ∙ sum_one-cons (sum_one 1 before) byte after

low_same : (high high' a b : ℕ) → high * 65536 + a % 65521 ≡ high' * 65536 + b % 65521 → a % 65521 ≡ b % 65521
low_same high high' a b e = omega (arith, e)

sums_same : (a c old new : ℕ) → old < 256 → new < 256 → (a + old + c) % 65521 ≡ (a + new + c) % 65521 → old ≡ new
sums_same a c old new p q e = omega (arith, p, q, e)

sum_differs : (before after : List ℕ) (old new : ℕ) → old < 256 → new < 256 → old ≢ new → adler_of (before ++ old ∷ after) ≢ adler_of (before ++ new ∷ after)
sum_differs before after old new p q differ e =
    let low = low_same (sum_two 1 0 (before ++ old ∷ after) % 65521) (sum_two 1 0 (before ++ new ∷ after) % 65521) (sum_one 1 (before ++ old ∷ after)) (sum_one 1 (before ++ new ∷ after)) e in
    let both = sym (ap (λ (n : ℕ). n % 65521) (split before after old)) ∙ low ∙ ap (λ (n : ℕ). n % 65521) (split before after new) in
    differ (sums_same (1 + sum before) (sum after) old new p q both)

-- ---- lists of which one number differs

past_end : (l : List ℕ) (i : ℕ) → length l ≤ i → get_or l i 0 ≡ 0
past_end [] i le = refl
past_end (x ∷ l) zero le = absurd (omega (arith, le))
past_end (x ∷ l) (suc i) le = past_end l i (omega (arith, le))

parts_at : (list : List ℕ) (k : ℕ) → k < length list → list ≡ take k list ++ get_or list k 0 ∷ drop (suc k) list
parts_at list k low = sym (take-append-drop k list) ∙ ap (λ (l : List ℕ). take k list ++ l) (drop-cons list k 0 low)

pub record Differ (k : ℕ) (old new : List ℕ) : Type 0 where
  pub length_is : length new ≡ length old
  pub low : k < length old
  pub others : (i : ℕ) → i ≢ k → get_or new i 0 ≡ get_or old i 0
  pub differ : get_or old k 0 ≢ get_or new k 0
  pub byte : get_or old k 0 < 256
  pub byte_then : get_or new k 0 < 256

same_take : (k : ℕ) (old new : List ℕ) → Differ k old new → take k new ≡ take k old
same_take k old new d =
    ext_get_or 0 (take k new) (take k old) (omega (arith, d.length_is, length-take k new, length-take k old)) (λ i low.
    let small : i < k = omega (arith, low, length-take k new) in
    get_or-take k new i 0 small ∙ d.others i (λ e. omega (arith, small, e)) ∙ sym (get_or-take k old i 0 small))

same_drop : (k : ℕ) (old new : List ℕ) → Differ k old new → drop (suc k) new ≡ drop (suc k) old
same_drop k old new d =
    ext_get_or 0 (drop (suc k) new) (drop (suc k) old) (omega (arith, d.length_is, length-drop (suc k) new, length-drop (suc k) old)) (λ i low.
    get_or-drop (suc k) new i 0 ∙ d.others (suc k + i) (λ e. omega (arith, e)) ∙ sym (get_or-drop (suc k) old i 0))

differing_sums : (k : ℕ) (old new : List ℕ) → Differ k old new → adler_of old ≢ adler_of new
differing_sums k old new d e =
    sum_differs (take k old) (drop (suc k) old) (get_or old k 0) (get_or new k 0) d.byte d.byte_then d.differ
    (sym (ap adler_of (parts_at old k d.low)) ∙ e ∙ ap adler_of (parts_at new k (omega (arith, d.low, d.length_is)) ∙ ap (λ (l : List ℕ). l ++ get_or new k 0 ∷ drop (suc k) new) (same_take k old new d) ∙ ap (λ (l : List ℕ). take k old ++ get_or new k 0 ∷ l) (same_drop k old new d)))

-- ---- a block

differs : (a b : ℕ) → a ≢ b → (a == b) ≡ false
differs a b n = by (a == b) refl
  where
    by : (x : Bool) → (a == b) ≡ x → x ≡ false
    by true e = absurd (n (eqb-true a b e))
    by false e = refl

damaged : (block : List ℕ) → is_sound block ≡ false → read_block block ≡ Damaged
damaged block e = ap (λ (b : Bool). if b then HasBook (read_book (take 37 block)) else Damaged) e

sound_of : (block : List ℕ) (book : Book) → read_block block ≡ HasBook book → from_be_bytes w32 (drop 37 block) ≡ adler_of (take 37 block)
sound_of block book is = eqb-true (from_be_bytes w32 (drop 37 block)) (adler_of (take 37 block)) (by (is_sound block) is)
  where
    by : (sound : Bool) → (if sound then HasBook (read_book (take 37 block)) else Damaged) ≡ HasBook book → sound ≡ true
    by true e = refl
    by false e = absurd cc

-- a byte of the book differs
in_book : (k : ℕ) (old new : List ℕ) (book : Book) → k < 37 → length old ≡ 41 → Differ k old new → read_block old ≡ HasBook book → read_block new ≡ Damaged
in_book k old new book low len d is =
    let front : Differ k (take 37 old) (take 37 new) = record {
      length_is = omega (arith, length-take 37 old, length-take 37 new, d.length_is);
      low = omega (arith, low, length-take 37 old, len);
      others = λ i away. by i away (cases_lt i 37);
      differ = λ e. d.differ (sym (get_or-take 37 old k 0 low) ∙ e ∙ get_or-take 37 new k 0 low);
      byte = subst (λ (n : ℕ). n < 256) (sym (get_or-take 37 old k 0 low)) d.byte;
      byte_then = subst (λ (n : ℕ). n < 256) (sym (get_or-take 37 new k 0 low)) d.byte_then;
    } in
    let sum : drop 37 new ≡ drop 37 old =
    ext_get_or 0 (drop 37 new) (drop 37 old) (omega (arith, d.length_is, length-drop 37 new, length-drop 37 old)) (λ i _. get_or-drop 37 new i 0 ∙ d.others (37 + i) (λ e. omega (arith, e, low)) ∙ sym (get_or-drop 37 old i 0)) in
    damaged new (differs (from_be_bytes w32 (drop 37 new)) (adler_of (take 37 new)) (λ e.
    differing_sums k (take 37 old) (take 37 new) front (sym (sound_of old book is) ∙ sym (ap (from_be_bytes w32) sum) ∙ e)))
  where
    by : (i : ℕ) → i ≢ k → (i < 37) ⊎ (37 ≤ i) → get_or (take 37 new) i 0 ≡ get_or (take 37 old) i 0
    by i away (inl small) = get_or-take 37 new i 0 small ∙ d.others i away ∙ sym (get_or-take 37 old i 0 small)
    by i away (inr past) = past_end (take 37 new) i (omega (arith, past, length-take 37 new)) ∙ sym (past_end (take 37 old) i (omega (arith, past, length-take 37 old)))

-- a byte of the checksum differs
in_sum : (k : ℕ) (old new : List ℕ) (book : Book) → 37 ≤ k → length old ≡ 41 → ((i : ℕ) → get_or old i 0 < 256) → ((i : ℕ) → get_or new i 0 < 256) → Differ k old new → read_block old ≡ HasBook book → read_block new ≡ Damaged
in_sum k old new book high len fits fits' d is =
    let front : take 37 new ≡ take 37 old =
    ext_get_or 0 (take 37 new) (take 37 old) (omega (arith, d.length_is, length-take 37 new, length-take 37 old)) (λ i low.
    let small : i < 37 = omega (arith, low, length-take 37 new) in
    get_or-take 37 new i 0 small ∙ d.others i (λ e. omega (arith, small, e, high)) ∙ sym (get_or-take 37 old i 0 small)) in
    let four : length (drop 37 old) ≡ 4 = omega (arith, length-drop 37 old, len) in
    let four' : length (drop 37 new) ≡ 4 = omega (arith, length-drop 37 new, len, d.length_is) in
    damaged new (differs (from_be_bytes w32 (drop 37 new)) (adler_of (take 37 new)) (λ e.
    let numbers : from_be_bytes w32 (drop 37 new) ≡ from_be_bytes w32 (drop 37 old) = e ∙ ap adler_of front ∙ sym (sound_of old book is) in
    let same : drop 37 new ≡ drop 37 old =
    sym (be_bytes_4 (drop 37 new) (from_be_bytes w32 (drop 37 new)) four' (λ i. subst (λ (n : ℕ). n < 256) (sym (get_or-drop 37 new i 0)) (fits' (37 + i))) refl)
    ∙ be_bytes_4 (drop 37 old) (from_be_bytes w32 (drop 37 new)) four (λ i. subst (λ (n : ℕ). n < 256) (sym (get_or-drop 37 old i 0)) (fits (37 + i))) numbers in
    let here : 37 + (k - 37) ≡ k = omega (arith, high) in
    d.differ (ap (λ (n : ℕ). get_or old n 0) (sym here) ∙ sym (get_or-drop 37 old (k - 37) 0) ∙ ap (λ (l : List ℕ). get_or l (k - 37) 0) (sym same) ∙ get_or-drop 37 new (k - 37) 0 ∙ ap (λ (n : ℕ). get_or new n 0) here)))

changed_block : (k : ℕ) (old new : List ℕ) (book : Book) → length old ≡ 41 → ((i : ℕ) → get_or old i 0 < 256) → ((i : ℕ) → get_or new i 0 < 256) → Differ k old new → read_block old ≡ HasBook book → read_block new ≡ Damaged
changed_block k old new book len fits fits' d is = elim (cases_lt k 37) [
  | inl low ↦ in_book k old new book low len d is
  | inr high ↦ in_sum k old new book high len fits fits' d is
]

-- ---- what selects a block

selects_alike : (old new : List ℕ) (book : Book) (at : ℕ) → IsAtRest old book → HasOneChange at old new → selected new ≡ selected old
selects_alike old new book at rest one = elim (cases_lt at 8192) [
  | inl below ↦ same_selected old new (λ i from to. one.others i (λ e. omega (arith, below, from, e)))
  | inr from_on ↦ elim (cases_lt at 8195) [
    | inr above ↦ same_selected old new (λ i from to. one.others i (λ e. omega (arith, above, to, e)))
    | inl low ↦ elim (cases_lt at 8193) [
      | inl first ↦ omega (arith, rest.second, rest.third, one.others 8193 (λ e. omega (arith, first, e)), one.others 8194 (λ e. omega (arith, first, e)))
      | inr next ↦ elim (cases_lt at 8194) [
        | inl second ↦ omega (arith, rest.second, rest.third, one.others 8192 (λ e. omega (arith, next, e)), one.others 8194 (λ e. omega (arith, second, e)))
        | inr third ↦ omega (arith, rest.second, rest.third, one.others 8192 (λ e. omega (arith, next, e)), one.others 8193 (λ e. omega (arith, third, e)))
      ]
    ]
  ]
]

-- ---- the file

none_has : (book : Book) → NoBook ≡ HasBook book → ⊥
none_has book e = cc

long_file : (file : List ℕ) (book : Book) → book_of file ≡ HasBook book → 8195 ≤ length file
long_file file book has = elim (cases_lt (length file) 8195) [
  | inl short ↦ absurd (none_has book (sym (no_book file short) ∙ has))
  | inr long ↦ long
]

read_at : (file : List ℕ) → 8195 ≤ length file → book_of file ≡ read_block (block_at (selected file) file)
read_at file long = ap (λ b. cond b NoBook (read_block (block_at (selected file) file))) (le-ltb (length file) 8195 long)

block_length : (slot : ℕ) (file : List ℕ) → slot ≤ 1 → 8195 ≤ length file → length (block_at slot file) ≡ 41
block_length slot file low long = omega (arith, low, long, length-take 41 (drop (4096 * slot) file), length-drop (4096 * slot) file)

block_byte : (slot : ℕ) (file : List ℕ) (i : ℕ) → i < 41 → get_or (block_at slot file) i 0 ≡ slice_index file (4096 * slot + i)
block_byte slot file i low = get_or-take 41 (drop (4096 * slot) file) i 0 low ∙ get_or-drop (4096 * slot) file i 0

block_fits : (slot : ℕ) (file : List ℕ) → slot ≤ 1 → 8195 ≤ length file → ((i : ℕ) → slice_index file i < 256) → (i : ℕ) → get_or (block_at slot file) i 0 < 256
block_fits slot file low long fits i = elim (cases_lt i 41) [
  | inl small ↦ subst (λ (n : ℕ). n < 256) (sym (block_byte slot file i small)) (fits (4096 * slot + i))
  | inr past ↦ subst (λ (n : ℕ). n < 256) (sym (past_end (block_at slot file) i (omega (arith, past, block_length slot file low long)))) (omega arith)
]

same_block : (slot : ℕ) (old new : List ℕ) → slot ≤ 1 → 8195 ≤ length old → length new ≡ length old → ((i : ℕ) → 4096 * slot ≤ i → i < 4096 * slot + 41 → slice_index new i ≡ slice_index old i) → block_at slot new ≡ block_at slot old
same_block slot old new low long len same = part_same old new (4096 * slot) 41 (omega (arith, low, long)) (omega (arith, low, long, len)) same

-- the changed byte is one of the block's
within : (slot at : ℕ) (old new : List ℕ) (book : Book) → slot ≤ 1 → 8195 ≤ length old → ((i : ℕ) → slice_index old i < 256) → HasOneChange at old new → 4096 * slot ≤ at → at < 4096 * slot + 41 → read_block (block_at slot old) ≡ HasBook book
    → (read_block (block_at slot new) ≡ HasBook book) ⊎ (read_block (block_at slot new) ≡ Damaged)
within slot at old new book low long fits one from to is = by (slice_index old at == slice_index new at) refl
  where
    k : ℕ
    k = at - 4096 * slot

    here : 4096 * slot + k ≡ at
    here = omega (arith, from)

    by : (same : Bool) → (slice_index old at == slice_index new at) ≡ same → (read_block (block_at slot new) ≡ HasBook book) ⊎ (read_block (block_at slot new) ≡ Damaged)
    by true e = inl (ap read_block (same_block slot old new low long one.length_is (λ i a b. each i (i == at) refl)) ∙ is)
      where
        each : (i : ℕ) (same : Bool) → (i == at) ≡ same → slice_index new i ≡ slice_index old i
        each i true it = let there = eqb-true i at it in ap (λ (n : ℕ). slice_index new n) there ∙ sym (eqb-true (slice_index old at) (slice_index new at) e) ∙ ap (λ (n : ℕ). slice_index old n) (sym there)
        each i false it = one.others i (λ is_at. true_false (i == at) (subst (λ (n : ℕ). (n == at) ≡ true) (sym is_at) (same_number at)) it)
          where
            true_false : (b : Bool) → b ≡ true → b ≡ false → ⊥
            true_false true p q = cc
            true_false false p q = cc

            same_number : (n : ℕ) → (n == n) ≡ true
            same_number n = grind arith
    by false e = inr (changed_block k (block_at slot old) (block_at slot new) book (block_length slot old low long) (block_fits slot old low long fits) (block_fits slot new low (omega (arith, long, one.length_is)) one.bytes) (record {
      length_is = block_length slot new low (omega (arith, long, one.length_is)) ∙ sym (block_length slot old low long);
      low = omega (arith, to, from, block_length slot old low long);
      others = λ i away. by_case i away (cases_lt i 41);
      differ = λ same. not_same (sym (ap (slice_index old) here) ∙ sym (block_byte slot old k small) ∙ same ∙ block_byte slot new k small ∙ ap (slice_index new) here);
      byte = block_fits slot old low long fits k;
      byte_then = block_fits slot new low (omega (arith, long, one.length_is)) one.bytes k;
    }) is)
      where
        small : k < 41
        small = omega (arith, to, from)

        not_same : slice_index old at ≡ slice_index new at → ⊥
        not_same s = bad (slice_index old at == slice_index new at) (subst (λ (n : ℕ). (slice_index old at == n) ≡ true) s (same_number (slice_index old at))) e
          where
            same_number : (n : ℕ) → (n == n) ≡ true
            same_number n = grind arith

            bad : (b : Bool) → b ≡ true → b ≡ false → ⊥
            bad true p q = cc
            bad false p q = cc

        by_case : (i : ℕ) → i ≢ k → (i < 41) ⊎ (41 ≤ i) → get_or (block_at slot new) i 0 ≡ get_or (block_at slot old) i 0
        by_case i away (inl less) = block_byte slot new i less ∙ one.others (4096 * slot + i) (λ e. away (omega (arith, e, from))) ∙ sym (block_byte slot old i less)
        by_case i away (inr past) = past_end (block_at slot new) i (omega (arith, past, block_length slot new low (omega (arith, long, one.length_is)))) ∙ sym (past_end (block_at slot old) i (omega (arith, past, block_length slot old low long)))

pub noticed : ChangesAreNoticed
noticed old new book at rest one =
    let long = long_file old book rest.has in
    let long' : 8195 ≤ length new = omega (arith, long, one.length_is) in
    let slot = selected old in
    let low = selected_low old in
    let is : read_block (block_at slot old) ≡ HasBook book = sym (read_at old long) ∙ rest.has in
    let now : book_of new ≡ read_block (block_at slot new) = read_at new long' ∙ ap (λ (k : ℕ). read_block (block_at k new)) (selects_alike old new book at rest one) in
    let outside : ((i : ℕ) → 4096 * slot ≤ i → i < 4096 * slot + 41 → i ≢ at) → (book_of new ≡ HasBook book) ⊎ (book_of new ≡ Damaged) =
    λ away. inl (now ∙ ap read_block (same_block slot old new low long one.length_is (λ i from to. one.others i (away i from to))) ∙ is) in
    elim (cases_lt at (4096 * slot)) [
      | inl below ↦ outside (λ i from to e. omega (arith, below, from, e))
      | inr from ↦ elim (cases_lt at (4096 * slot + 41)) [
        | inr above ↦ outside (λ i low high e. omega (arith, above, high, e))
        | inl to ↦ elim (within slot at old new book low long rest.bytes one from to is) [
          | inl same ↦ inl (now ∙ same)
          | inr damage ↦ inr (now ∙ damage)
        ]
      ]
    ]
