-- A file of two blocks, under writes that a crash may tear.
use Rattle.std.proofs.Common.{◌≡◌, ◌⊎◌, ℕ, ◌+◌, ◌-◌, ◌*◌, ◌%◌, ◌<◌, ◌≤◌, ◌/◌, cond, if◌then◌else◌, Bool, true, false, List, [], ◌∷◌, length, take, slice_index, inl, inr, refl, sym, ap, ◌∙◌, subst, arith}
use Rattle.std.proofs.lemmas.Bool.{cases_lt, le-ltb, lt-ltb}
use Rattle.sqlite_disk.specs.Disk.{Holds, Torn, Cut, Follows, Only}
use Rattle.zk_store.specs.Books.{HasBook, Damaged, NoBook, Found, block_at, block_of, book_of, is_sound, read_block, read_book, selected}
use Rattle.zk_store.specs.declared.book.Book.{Book}
use Rattle.zk_store.proofs.FileParts.{cut_only, part_same, part_written, torn_only}
use Rattle.zk_store.proofs.Blocks.{block_length}

-- ---- blocks

pub record HasBlock (n : ℕ) (book : Book) (file : List ℕ) : Type 0 where
  pub within : 4096 * n + 41 ≤ length file
  pub is : read_block (block_at n file) ≡ HasBook book

pub block_written : (n : ℕ) (book : Book) (file bytes : List ℕ) → bytes ≡ block_of book → read_block (block_of book) ≡ HasBook book → Holds file (4096 * n) bytes → HasBlock n book file
block_written n book file bytes is again holds =
    let len : length bytes ≡ 41 = ap length is ∙ block_length book in
    record {
      within = omega (arith, len, holds.within);
      is = ap read_block (part_written file bytes (4096 * n) 41 len holds ∙ is) ∙ again;
    }

pub block_kept : (n at m : ℕ) (book : Book) (old new : List ℕ) → HasBlock n book old → Torn at m old new → (4096 * n + 41 ≤ at) ⊎ (at + m ≤ 4096 * n) → HasBlock n book new
block_kept n at m book old new has torn (inl before) = record {
  within = omega (arith, has.within, torn.no_shorter);
  is = ap read_block (part_same old new (4096 * n) 41 has.within (omega (arith, has.within, torn.no_shorter)) (λ i low high. torn.below i (omega (arith, high, has.within)) (omega (arith, high, before)))) ∙ has.is;
}
block_kept n at m book old new has torn (inr after) = record {
  within = omega (arith, has.within, torn.no_shorter);
  is = ap read_block (part_same old new (4096 * n) 41 has.within (omega (arith, has.within, torn.no_shorter)) (λ i low high. torn.above i (omega (arith, high, has.within)) (omega (arith, low, after)))) ∙ has.is;
}

-- ---- files

pub book_is : (file : List ℕ) (slot : ℕ) (book : Book) → 8195 ≤ length file → selected file ≡ slot → HasBlock slot book file → book_of file ≡ HasBook book
book_is file slot book long is has =
    ap (λ b. cond b NoBook (read_block (block_at (selected file) file))) (le-ltb (length file) 8195 long)
    ∙ ap (λ (k : ℕ). read_block (block_at k file)) is ∙ has.is

pub damaged_is : (file : List ℕ) (slot : ℕ) → 8195 ≤ length file → selected file ≡ slot → read_block (block_at slot file) ≡ Damaged → book_of file ≡ Damaged
damaged_is file slot long is damaged =
    ap (λ b. cond b NoBook (read_block (block_at (selected file) file))) (le-ltb (length file) 8195 long)
    ∙ ap (λ (k : ℕ). read_block (block_at k file)) is ∙ damaged

pub no_book : (file : List ℕ) → length file < 8195 → book_of file ≡ NoBook
no_book file short = ap (λ b. cond b NoBook (read_block (block_at (selected file) file))) (lt-ltb (length file) 8195 short)

read_is_some : (block : List ℕ) → read_block block ≡ NoBook → ⊥
read_is_some block e = by (is_sound block) e
  where
    by : (sound : Bool) → (if sound then HasBook (read_book (take 37 block)) else Damaged) ≡ NoBook → ⊥
    by true e = cc
    by false e = cc

pub too_short : (file : List ℕ) → book_of file ≡ NoBook → length file < 8195
too_short file none = elim (cases_lt (length file) 8195) [
  | inl short ↦ short
  | inr long ↦ absurd (read_is_some (block_at (selected file) file) (sym (ap (λ b. cond b NoBook (read_block (block_at (selected file) file))) (le-ltb (length file) 8195 long)) ∙ none))
]

-- ---- what selects a block

pub same_selected : (old new : List ℕ) → ((i : ℕ) → 8192 ≤ i → i < 8195 → slice_index new i ≡ slice_index old i) → selected new ≡ selected old
same_selected old new same =
    omega (arith, same 8192 (omega arith) (omega arith), same 8193 (omega arith) (omega arith), same 8194 (omega arith) (omega arith))

pub selected_low : (file : List ℕ) → selected file ≤ 1
selected_low file = omega arith

-- ---- the book is replaced

other_below : (slot other : ℕ) → slot ≤ 1 → other ≡ 1 - slot → (4096 * slot + 41 ≤ 4096 * other) ⊎ (4096 * other + 41 ≤ 4096 * slot)
other_below slot other low is = elim (cases_lt slot 1) [
  | inl zero ↦ inl (omega (arith, zero, is))
  | inr one ↦ inr (omega (arith, one, low, is))
]

-- what is selected is not touched while the other block is written
pub first_torn : (seen file : List ℕ) (slot other : ℕ) (book : Book) → slot ≤ 1 → other ≡ 1 - slot → 8195 ≤ length seen → selected seen ≡ slot → read_block (block_at slot seen) ≡ HasBook book → Torn (4096 * other) 41 seen file
    → (8195 ≤ length file) × (selected file ≡ slot) × HasBlock slot book file
first_torn seen file slot other book low is long sel has torn =
    let there : HasBlock slot book seen = record { within = omega (arith, low, long); is = has } in (
      omega (arith, long, torn.no_shorter),
      same_selected seen file (λ i from to. torn.above i (omega (arith, long, to)) (omega (arith, is, low, from))) ∙ sel,
      block_kept slot (4096 * other) 41 book seen file there torn (other_below slot other low is),
    )

pub first_crash : (seen file : List ℕ) (slot other : ℕ) (book : Book) → slot ≤ 1 → other ≡ 1 - slot → 8195 ≤ length seen → selected seen ≡ slot → read_block (block_at slot seen) ≡ HasBook book → Torn (4096 * other) 41 seen file → book_of file ≡ HasBook book
first_crash seen file slot other book low is long sel has torn =
    let t = first_torn seen file slot other book low is long sel has torn in
    book_is file slot book t.0 t.1 t.2

one_of_both : (chosen slot other : ℕ) → chosen ≤ 1 → slot ≤ 1 → other ≡ 1 - slot → (chosen ≡ slot) ⊎ (chosen ≡ other)
one_of_both chosen slot other few low is = elim (cases_lt chosen 1) [
  | inl zero ↦ elim (cases_lt slot 1) [ inl a ↦ inl (omega (arith, zero, a)) | inr b ↦ inr (omega (arith, zero, b, low, is)) ]
  | inr one ↦ elim (cases_lt slot 1) [ inl a ↦ inr (omega (arith, one, few, a, is)) | inr b ↦ inl (omega (arith, one, few, b, low)) ]
]

-- any bytes select one of the blocks
pub second_crash : (seen file : List ℕ) (slot other : ℕ) (book next : Book) → slot ≤ 1 → other ≡ 1 - slot → 8195 ≤ length seen → HasBlock slot book seen → HasBlock other next seen → Torn 8192 3 seen file
    → (book_of file ≡ HasBook book) ⊎ (book_of file ≡ HasBook next)
second_crash seen file slot other book next low is long a b torn =
    let enough : 8195 ≤ length file = omega (arith, long, torn.no_shorter) in
    elim (one_of_both (selected file) slot other (selected_low file) low is) [
      | inl first ↦ inl (book_is file slot book enough first (block_kept slot 8192 3 book seen file a torn (inl (omega (arith, low)))))
      | inr second ↦ inr (book_is file other next enough second (block_kept other 8192 3 next seen file b torn (inl (omega (arith, is)))))
    ]

-- the bytes are written
pub chosen : (file bytes : List ℕ) (slot : ℕ) → slot ≤ 1 → bytes ≡ slot ∷ slot ∷ slot ∷ [] → (0 < length bytes → Holds file 8192 bytes) → (8195 ≤ length file) × (selected file ≡ slot)
chosen file bytes slot low is holds =
    let h : Holds file 8192 (slot ∷ slot ∷ slot ∷ []) = subst (λ (l : List ℕ). Holds file 8192 l) is (holds (subst (λ (l : List ℕ). 0 < length l) (sym is) (omega arith))) in
    (omega (arith, h.within), omega (arith, low, h.each 0 (omega arith), h.each 1 (omega arith), h.each 2 (omega arith)))

-- ---- the calls

pub replaced_first : (seen file : List ℕ) (at n slot other : ℕ) (book : Book) (old new : List ℕ → Type 0) → at ≡ 4096 * other → n ≡ 41 → slot ≤ 1 → other ≡ 1 - slot → 8195 ≤ length seen → selected seen ≡ slot
    → read_block (block_at slot seen) ≡ HasBook book → Only seen old → Follows (Torn at n) old new → new file → book_of file ≡ HasBook book
replaced_first seen file at n slot other book old new at_is n_is low is long sel has only follows left =
    first_crash seen file slot other book low is long sel has
    (subst (λ (a : ℕ). Torn a 41 seen file) at_is (subst (λ (k : ℕ). Torn at k seen file) n_is (torn_only seen file at n old new only follows left)))

-- both blocks are there before the bytes that select are written
pub record HasBoth (slot other : ℕ) (book next : Book) (file : List ℕ) : Type 0 where
  pub long : 8195 ≤ length file
  pub old : HasBlock slot book file
  pub new : HasBlock other next file

pub both_there : (seen file bytes : List ℕ) (at slot other : ℕ) (book next : Book) → at ≡ 4096 * other → slot ≤ 1 → other ≡ 1 - slot → 8195 ≤ length seen → selected seen ≡ slot → read_block (block_at slot seen) ≡ HasBook book
    → bytes ≡ block_of next → read_block (block_of next) ≡ HasBook next → Torn at (length bytes) seen file → (0 < length bytes → Holds file at bytes) → HasBoth slot other book next file
both_there seen file bytes at slot other book next at_is low is long sel has bytes_are again torn holds =
    let len : length bytes ≡ 41 = ap length bytes_are ∙ block_length next in
    let torn' : Torn (4096 * other) 41 seen file = subst (λ (a : ℕ). Torn a 41 seen file) at_is (subst (λ (k : ℕ). Torn at k seen file) len torn) in
    let t = first_torn seen file slot other book low is long sel has torn' in
    record {
      long = t.0;
      old = t.2;
      new = block_written other next file bytes bytes_are again (subst (λ (a : ℕ). Holds file a bytes) at_is (holds (omega (arith, len))));
    }

pub replaced_second : (seen file : List ℕ) (slot other : ℕ) (book next : Book) (old new : List ℕ → Type 0) → slot ≤ 1 → other ≡ 1 - slot → HasBoth slot other book next seen → Only seen old → Follows (Torn 8192 3) old new → new file
    → (book_of file ≡ HasBook book) ⊎ (book_of file ≡ HasBook next)
replaced_second seen file slot other book next old new low is both only follows left =
    second_crash seen file slot other book next low is both.long both.old both.new (torn_only seen file 8192 3 old new only follows left)

-- what `IsStored` says of the bytes
pub record Selects (slot : ℕ) (book : Book) (file : List ℕ) : Type 0 where
  pub long : 8195 ≤ length file
  pub slot_is : selected file ≡ slot
  pub book_is : read_block (block_at slot file) ≡ HasBook book

pub selects : (seen file bytes : List ℕ) (slot : ℕ) (book : Book) → slot ≤ 1 → bytes ≡ slot ∷ slot ∷ slot ∷ [] → HasBlock slot book seen → Torn 8192 (length bytes) seen file → (0 < length bytes → Holds file 8192 bytes) → Selects slot book file
selects seen file bytes slot book low is has torn holds =
    let c = chosen file bytes slot low is holds in
    record { long = c.0; slot_is = c.1; book_is = (block_kept slot 8192 (length bytes) book seen file has torn (inl (omega (arith, low)))).is }

-- ---- the book is created

pub cut_short : (seen file : List ℕ) (old new : List ℕ → Type 0) → length seen < 8195 → Only seen old → Follows (Cut 0) old new → new file → book_of file ≡ NoBook
cut_short seen file old new short only follows left =
    no_book file (omega (arith, short, (cut_only seen file 0 old new only follows left).no_longer))

pub torn_short : (seen file : List ℕ) (at n : ℕ) (old new : List ℕ → Type 0) → length seen < 8195 → at + n < 8195 → Only seen old → Follows (Torn at n) old new → new file → book_of file ≡ NoBook
torn_short seen file at n old new short low only follows left =
    no_book file (omega (arith, short, low, (torn_only seen file at n old new only follows left).no_longer))

-- a file of two like blocks, and nothing after them
pub record HasTwo (book : Book) (file : List ℕ) : Type 0 where
  pub short : length file ≤ 8192
  pub first : HasBlock 0 book file
  pub second : HasBlock 1 book file

pub two_blocks : (empty one two bytes bytes' : List ℕ) (book : Book) → length empty ≡ 0 → bytes ≡ block_of book → bytes' ≡ block_of book → read_block (block_of book) ≡ HasBook book → Torn 0 (length bytes) empty one
    → (0 < length bytes → Holds one 0 bytes) → Torn 4096 (length bytes') one two → (0 < length bytes' → Holds two 4096 bytes') → HasTwo book two
two_blocks empty one two bytes bytes' book none is is' again torn holds torn' holds' =
    let len : length bytes ≡ 41 = ap length is ∙ block_length book in
    let len' : length bytes' ≡ 41 = ap length is' ∙ block_length book in
    let first : HasBlock 0 book one = block_written 0 book one bytes is again (holds (omega (arith, len))) in
    record {
      short = omega (arith, none, len, len', torn.no_longer, torn'.no_longer);
      first = block_kept 0 4096 (length bytes') book one two first torn' (inl (omega arith));
      second = block_written 1 book two bytes' is' again (holds' (omega (arith, len')));
    }

pub one_short : (empty one bytes : List ℕ) (book : Book) → length empty ≡ 0 → bytes ≡ block_of book → Torn 0 (length bytes) empty one → length one < 8195
one_short empty one bytes book none is torn =
    omega (arith, none, torn.no_longer, ap length is ∙ block_length book)

pub block_short : (at : ℕ) (bytes : List ℕ) (book : Book) → at ≤ 4096 → bytes ≡ block_of book → at + length bytes < 8195
block_short at bytes book low is = omega (arith, low, ap length is ∙ block_length book)

-- a file that had no book
pub none_left : (seen file : List ℕ) (old : List ℕ → Type 0) → book_of seen ≡ NoBook → Only seen old → old file → book_of file ≡ NoBook
none_left seen file old none only left = ap book_of (only file left) ∙ none

pub created_last : (seen file : List ℕ) (book : Book) (old new : List ℕ → Type 0) → HasTwo book seen → Only seen old → Follows (Torn 8192 3) old new → new file → (book_of file ≡ NoBook) ⊎ (book_of file ≡ HasBook book)
created_last seen file book old new two only follows left =
    let torn = torn_only seen file 8192 3 old new only follows left in
    elim (cases_lt (length file) 8195) [
      | inl less ↦ inl (no_book file less)
      | inr enough ↦ inr (elim (one_of_both (selected file) 0 1 (selected_low file) (omega arith) refl) [
        | inl first ↦ book_is file 0 book enough first (block_kept 0 8192 3 book seen file two.first torn (inl (omega arith)))
        | inr second ↦ book_is file 1 book enough second (block_kept 1 8192 3 book seen file two.second torn (inl (omega arith)))
      ])
    ]

-- ---- a book that is stored and read

pub stored_left : (seen file : List ℕ) (slot : ℕ) (book : Book) → slot ≤ 1 → 8195 ≤ length seen → selected seen ≡ slot → read_block (block_at slot seen) ≡ HasBook book → file ≡ seen → book_of file ≡ HasBook book
stored_left seen file slot book low long sel has same =
    ap book_of same ∙ book_is seen slot book long sel (record { within = omega (arith, low, long); is = has })

-- the block that a file's bytes select
pub record IsRead (slot : ℕ) (block file : List ℕ) : Type 0 where
  pub long : 8195 ≤ length file
  pub slot_is : selected file ≡ slot
  pub block_is : block_at slot file ≡ block

pub read_is : (seen votes block : List ℕ) (slot : ℕ) → length votes ≡ 3 → Holds seen 8192 votes → slot ≡ (slice_index votes 0 % 2 + slice_index votes 1 % 2 + slice_index votes 2 % 2) / 2 → length block ≡ 41 → Holds seen (4096 * slot) block → IsRead slot block seen
read_is seen votes block slot three holds slot_are len read = record {
  long = omega (arith, three, holds.within);
  slot_is = omega (arith, slot_are, holds.each 0 (omega (arith, three)), holds.each 1 (omega (arith, three)), holds.each 2 (omega (arith, three)));
  block_is = part_written seen block (4096 * slot) 41 len read;
}

pub read_selects : (seen block : List ℕ) (slot : ℕ) (book : Book) → IsRead slot block seen → read_block block ≡ HasBook book → Selects slot book seen
read_selects seen block slot book r is = record { long = r.long; slot_is = r.slot_is; book_is = ap read_block r.block_is ∙ is }

pub read_damaged : (seen block : List ℕ) (slot : ℕ) → IsRead slot block seen → read_block block ≡ Damaged → book_of seen ≡ Damaged
read_damaged seen block slot r is = damaged_is seen slot r.long r.slot_is (ap read_block r.block_is ∙ is)

pub selects_book : (file : List ℕ) (slot : ℕ) (book : Book) → slot ≤ 1 → Selects slot book file → book_of file ≡ HasBook book
selects_book file slot book low s = stored_left file file slot book low s.long s.slot_is s.book_is refl
