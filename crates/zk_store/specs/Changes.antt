-- One byte of a book's file is changed, as by a flipped bit.
use Rattle.std.specs.Prelude.{◌≡◌, ◌≢◌, ◌⊎◌, ℕ, ◌<◌, ◌%◌, List, length, slice_index}
use Rattle.zk_store.specs.Books.{Damaged, HasBook, book_of}
use Rattle.zk_store.specs.declared.book.Book.{Book}

-- the file has this book, and no write of what selects a block was torn
pub record IsAtRest (file : List ℕ) (book : Book) : Type 0 where
  pub has : book_of file ≡ HasBook book
  pub second : slice_index file 8193 % 2 ≡ slice_index file 8192 % 2
  pub third : slice_index file 8194 % 2 ≡ slice_index file 8192 % 2
  pub bytes : (i : ℕ) → slice_index file i < 256

pub record HasOneChange (at : ℕ) (old new : List ℕ) : Type 0 where
  pub length_is : length new ≡ length old
  pub others : (i : ℕ) → i ≢ at → slice_index new i ≡ slice_index old i
  pub bytes : (i : ℕ) → slice_index new i < 256

-- the same book, or a named error; never another book, and never none
abbrev pub ChangesAreNoticed : Type 0
ChangesAreNoticed = (old new : List ℕ) (book : Book) (at : ℕ) → IsAtRest old book → HasOneChange at old new → (book_of new ≡ HasBook book) ⊎ (book_of new ≡ Damaged)
