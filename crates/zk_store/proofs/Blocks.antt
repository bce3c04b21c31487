-- A block is read as it was written.
use Rattle.std.proofs.Common.{◌≡◌, ℕ, ◌+◌, ◌*◌, ◌%◌, ◌<◌, ◌^◌, ◌==◌, ◌++◌, if◌then◌else◌, Bool, true, List, length, take, drop, Option, None, Some, IfSome, refl, sym, ap, ◌∙◌, arith, length-drop, length-append}
use Rattle.std.proofs.lemmas.Bool.{eq-eqb}
use Rattle.std.proofs.lemmas.List.{take_at, drop_at}
use Rattle.std.proofs.lemmas.Nat.{from_be_bytes-to_be_bytes_4, from_be_bytes-to_be_bytes_8}
use Rattle.std.specs.Int.{w32, to_be_bytes, from_be_bytes}
use Rattle.zk_records.specs.Checksum.{adler_of, sum_one, sum_two}
use Rattle.zk_store.specs.Books.{HasBook, Damaged, Found, block_of, book_bytes, is_sound, join_bytes, read_block, read_book, read_join}
use Rattle.zk_store.specs.declared.book.Book.{Book}
use Rattle.zk_store.specs.declared.book.Join.{Join}

pub record BookFits (book : Book) : Type 0 where
  pub promised : book.promised < 2 ^ 32
  pub current : book.current < 2 ^ 32
  pub boots : book.boots < 2 ^ 32
  pub entries : book.entries < 2 ^ 64
  pub join : IfSome book.join (λ join. (join.keep < 2 ^ 64) × (join.added < 2 ^ 64))

same_join : (a b c d : ℕ) → a ≡ b → c ≡ d → (let x : Join = record { keep = a; added = c } in let y : Join = record { keep = b; added = d } in x ≡ y)
same_join a b c d e f = cc

join_again : (join : Option Join) → IfSome join (λ it. (it.keep < 2 ^ 64) × (it.added < 2 ^ 64)) → read_join (join_bytes join) ≡ join
join_again None fits = refl
join_again (Some join) fits =
    ap (λ (j : Join). Some j) (same_join _ join.keep _ join.added (from_be_bytes-to_be_bytes_8 join.keep fits.0) (from_be_bytes-to_be_bytes_8 join.added fits.1))

same_book : (p p' c c' b b' e e' : ℕ) (j j' : Option Join) → p ≡ p' → c ≡ c' → b ≡ b' → e ≡ e' → j ≡ j'
    → (let x : Book = record { promised = p; current = c; boots = b; entries = e; join = j } in let y : Book = record { promised = p'; current = c'; boots = b'; entries = e'; join = j' } in x ≡ y)
same_book p p' c c' b b' e e' j j' h1 h2 h3 h4 h5 = cc

book_again : (book : Book) → BookFits book → read_book (book_bytes book) ≡ book
book_again book fits =
    same_book _ book.promised _ book.current _ book.boots _ book.entries _ book.join
    (from_be_bytes-to_be_bytes_4 book.promised fits.promised) (from_be_bytes-to_be_bytes_4 book.current fits.current) (from_be_bytes-to_be_bytes_4 book.boots fits.boots)
    (from_be_bytes-to_be_bytes_8 book.entries fits.entries) (join_again book.join fits.join)

join_length : (join : Option Join) → length (join_bytes join) ≡ 17
join_length None = refl
join_length (Some join) = refl

book_length : (book : Book) → length (book_bytes book) ≡ 37
book_length book = omega (arith, join_length book.join)

pub block_length : (book : Book) → length (block_of book) ≡ 41
block_length book = omega (arith, length-append (book_bytes book) (to_be_bytes w32 (adler_of (book_bytes book))), book_length book)

sum_below : (bytes : List ℕ) → adler_of bytes < 2 ^ 32
sum_below bytes = omega arith

pub sound_block : (block : List ℕ) → is_sound block ≡ true → read_block block ≡ HasBook (read_book (take 37 block))
sound_block block e = ap (λ (b : Bool). if b then HasBook (read_book (take 37 block)) else Damaged) e

pub block_again : (book : Book) → BookFits book → read_block (block_of book) ≡ HasBook book
block_again book fits =
    let bytes = book_bytes book in
    let sum = to_be_bytes w32 (adler_of bytes) in
    let front : take 37 (bytes ++ sum) ≡ bytes = take_at bytes sum 37 (book_length book) in
    let back : drop 37 (bytes ++ sum) ≡ sum = drop_at bytes sum 37 (book_length book) in
    let number : from_be_bytes w32 (drop 37 (bytes ++ sum)) ≡ adler_of bytes = ap (λ (l : List ℕ). from_be_bytes w32 l) back ∙ from_be_bytes-to_be_bytes_4 (adler_of bytes) (sum_below bytes) in
    let both : is_sound (bytes ++ sum) ≡ true =
    ap (λ (n : ℕ). n == adler_of (take 37 (bytes ++ sum))) number ∙ ap (λ (l : List ℕ). adler_of bytes == adler_of l) front ∙ eq-eqb (adler_of bytes) (adler_of bytes) refl in
    sound_block (bytes ++ sum) both ∙ ap (λ (l : List ℕ). HasBook (read_book l)) front ∙ ap HasBook (book_again book fits)

pub rest_length : (block a b c d : List ℕ) → length block ≡ 37 → a ≡ drop 4 block → b ≡ drop 4 a → c ≡ drop 4 b → d ≡ drop 8 c → length d ≡ 17
rest_length block a b c d len a_is b_is c_is d_is =
    omega (arith, len, ap length a_is, ap length b_is, ap length c_is, ap length d_is, length-drop 4 block, length-drop 4 a, length-drop 4 b, length-drop 8 c)
