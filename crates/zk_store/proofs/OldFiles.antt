-- Files in the format without checksums, and new files of what they hold.
use Rattle.std.proofs.Common.{◌≡◌, ℕ, ◌+◌, ◌-◌, ◌*◌, ◌%◌, ◌<◌, ◌≤◌, List, [], ◌∷◌, ◌++◌, length, take, drop, slice_index, refl, sym, ap, ◌∙◌, subst, append_assoc, append-nil, arith, length-append, length-take, take-append-drop, get_or-take, inl, inr}
use Rattle.std.proofs.lemmas.Bool.{cases_lt}
use Rattle.std.proofs.lemmas.List.{take_at, get_or_past, get_or-append_right, length-take-le}
use Rattle.std.proofs.lemmas.Nat.{be_bytes_8}
use Rattle.std.specs.Int.{w64, to_be_bytes, from_be_bytes}
use Rattle.zk_store.proofs.Blocks.{block_length}
use Rattle.zk_store.proofs.BookFiles.{HasBlock, book_is}
use Rattle.zk_store.specs.Books.{HasBook, block_of, book_of, read_block, selected}
use Rattle.zk_store.specs.OldFormat.{old_tags}
use Rattle.zk_store.specs.declared.book.Book.{Book}

-- ---- a book's file

-- a byte after the first 8,192
after_front : (front votes : List ℕ) (i : ℕ) → length front ≡ 8192 → slice_index (front ++ votes) (8192 + i) ≡ slice_index votes i
after_front front votes i len =
    let at : 8192 + i - length front ≡ i = omega (arith, len) in
    get_or-append_right front votes (length front) (8192 + i) 0 refl (omega (arith, len)) ∙ ap (λ (j : ℕ). slice_index votes j) at

pub whole_book : (book : Book) (block pad more last file : List ℕ) → block ≡ block_of book → read_block (block_of book) ≡ HasBook book → length pad ≡ 4055 → length more ≡ 4055 → last ≡ 0 ∷ 0 ∷ 0 ∷ [] → file ≡ ((block ++ pad) ++ (block ++ more)) ++ last → book_of file ≡ HasBook book
whole_book book block pad more last file is again pad_len more_len last_is file_is =
    let front = (block ++ pad) ++ (block ++ more) in
    let len : length block ≡ 41 = ap length is ∙ block_length book in
    let front_len : length front ≡ 8192 = omega (arith, len, pad_len, more_len, length-append (block ++ pad) (block ++ more), length-append block pad, length-append block more) in
    let at : (i : ℕ) → slice_index file (8192 + i) ≡ slice_index (0 ∷ 0 ∷ 0 ∷ []) i =
    λ i. ap (λ (l : List ℕ). slice_index l (8192 + i)) (file_is ∙ ap (λ (l : List ℕ). front ++ l) last_is) ∙ after_front front (0 ∷ 0 ∷ 0 ∷ []) i front_len in
    let chosen : selected file ≡ 0 = omega (arith, at 0, at 1, at 2) in
    let all : file ≡ block ++ (pad ++ (block ++ more) ++ last) = file_is ∙ ap (λ (l : List ℕ). l ++ last) (append_assoc block pad (block ++ more)) ∙ append_assoc block (pad ++ (block ++ more)) last in
    let first : HasBlock 0 book file = record {
      within = omega (arith, ap length file_is, length-append front last, front_len);
      is = ap (λ (l : List ℕ). read_block (take 41 l)) all ∙ ap read_block (take_at block (pad ++ (block ++ more) ++ last) 41 len ∙ is) ∙ again;
    } in
    book_is file 0 book (omega (arith, ap length file_is, length-append front last, front_len, ap length last_is)) chosen first

-- ---- tags

old_both : (a b : List ℕ) → old_tags (a ++ b) ≡ old_tags a ++ old_tags b
old_both [] b = refl
old_both (x ∷ a) b = ap (λ (l : List ℕ). to_be_bytes w64 x ++ l) (old_both a b) ∙ sym (append_assoc (to_be_bytes w64 x) (old_tags a) (old_tags b))

pub old_length : (tags : List ℕ) → length (old_tags tags) ≡ 8 * length tags
old_length [] = refl
old_length (x ∷ tags) = omega (arith, old_length tags, length-append (to_be_bytes w64 x) (old_tags tags))

take_fits : (rest : List ℕ) → ((i : ℕ) → slice_index rest i < 256) → (i : ℕ) → slice_index (take 8 rest) i < 256
take_fits rest fits i = elim (cases_lt i 8) [
  | inl low ↦ subst (λ (k : ℕ). k < 256) (sym (get_or-take 8 rest i 0 low)) (fits i)
  | inr past ↦ subst (λ (k : ℕ). k < 256) (sym (get_or_past (take 8 rest) i 0 (omega (arith, past, length-take 8 rest)))) (omega arith)
]

pub old_more : (tags rest rest' bytes tags' : List ℕ) (tag : ℕ) → ((i : ℕ) → slice_index rest i < 256) → 8 ≤ length rest → tag ≡ from_be_bytes w64 (take 8 rest) → rest' ≡ drop 8 rest → tags' ≡ tags ++ tag ∷ [] → bytes ≡ old_tags tags ++ rest → bytes ≡ old_tags tags' ++ rest'
old_more tags rest rest' bytes tags' tag fits long tag_is rest_is tags_is so =
    let eight : to_be_bytes w64 tag ≡ take 8 rest = be_bytes_8 (take 8 rest) tag (length-take-le 8 rest long) (take_fits rest fits) tag_is in
    sym (ap (λ (l : List ℕ). old_tags l ++ rest') tags_is ∙ ap (λ (l : List ℕ). l ++ rest') (old_both tags (tag ∷ []) ∙ ap (λ (l : List ℕ). old_tags tags ++ l) (append-nil (to_be_bytes w64 tag) ∙ eight))
    ∙ append_assoc (old_tags tags) (take 8 rest) rest' ∙ ap (λ (l : List ℕ). old_tags tags ++ l) (ap (λ (l : List ℕ). take 8 rest ++ l) rest_is ∙ take-append-drop 8 rest) ∙ sym so)

pub old_fits : (front rest bytes : List ℕ) → ((i : ℕ) → slice_index bytes i < 256) → bytes ≡ front ++ rest → (i : ℕ) → slice_index rest i < 256
old_fits front rest bytes fits is i =
    let k = length front + i in
    let at : k - length front ≡ i = omega arith in
    let same : slice_index bytes k ≡ slice_index rest i =
    ap (λ (l : List ℕ). slice_index l k) is ∙ get_or-append_right front rest (length front) k 0 refl (omega arith) ∙ ap (λ (j : ℕ). slice_index rest j) at in
    subst (λ (n : ℕ). n < 256) same (fits k)

pub old_few : (tags rest bytes : List ℕ) → bytes ≡ old_tags tags ++ rest → 8 * length tags ≤ length bytes
old_few tags rest bytes is = omega (arith, ap length is, length-append (old_tags tags) rest, old_length tags)
