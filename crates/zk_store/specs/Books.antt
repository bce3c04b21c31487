-- The bytes of a book's file, and what a crash leaves of it.
use Rattle.std.specs.Prelude.{◌≡◌, ℕ, ◌+◌, ◌*◌, ◌/◌, ◌%◌, ◌≤◌, nat_lt, ◌==◌, if◌then◌else◌, Bool, List, ◌∷◌, ◌++◌, length, take, drop, slice_index, Option, None, Some, Result, Err}
use Rattle.std.specs.Int.{w32, w64, to_be_bytes, from_be_bytes}
use Rattle.sqlite_disk.specs.Disk.{Only, MoreFaults}
use Rattle.zk_records.specs.Checksum.{adler_of}
use Rattle.zk_store.specs.declared.book.Book.{Book}
use Rattle.zk_store.specs.declared.book.Join.{Join}
use Rattle.zk_store.specs.declared.book.StoredBook.{StoredBook}
use Rattle.zk_store.specs.declared.book_fault.BookFault.{BookFault}
use Rattle.zk_store.specs.declared.book_fault.BookFault.TheVariants as faults

-- ---- a book: numbers, the greatest byte first

-- a flag, and two numbers
abbrev pub join_bytes : Option Join → List ℕ
join_bytes None = 0 ∷ to_be_bytes w64 0 ++ to_be_bytes w64 0
join_bytes (Some join) = 1 ∷ to_be_bytes w64 join.keep ++ to_be_bytes w64 join.added

-- 37 bytes
abbrev pub book_bytes : Book → List ℕ
book_bytes book =
    to_be_bytes w32 book.promised ++ to_be_bytes w32 book.current ++ to_be_bytes w32 book.boots ++ to_be_bytes w64 book.entries ++ join_bytes book.join

abbrev pub read_join : List ℕ → Option Join
read_join bytes =
    if slice_index bytes 0 == 0 then None
    else Some (record { keep = from_be_bytes w64 (take 8 (drop 1 bytes)); added = from_be_bytes w64 (take 8 (drop 8 (drop 1 bytes))) })

abbrev pub read_book : List ℕ → Book
read_book bytes = record {
  promised = from_be_bytes w32 (take 4 bytes);
  current = from_be_bytes w32 (take 4 (drop 4 bytes));
  boots = from_be_bytes w32 (take 4 (drop 4 (drop 4 bytes)));
  entries = from_be_bytes w64 (take 8 (drop 4 (drop 4 (drop 4 bytes))));
  join = read_join (drop 8 (drop 4 (drop 4 (drop 4 bytes))));
}

-- ---- a block: a book, and its Adler-32 checksum

-- 41 bytes
abbrev pub block_of : Book → List ℕ
block_of book = book_bytes book ++ to_be_bytes w32 (adler_of (book_bytes book))

abbrev pub is_sound : List ℕ → Bool
is_sound block = from_be_bytes w32 (drop 37 block) == adler_of (take 37 block)

-- what is found in a block or in a file
pub data Found : Type 0 where
  -- a file that is still being created
  NoBook : Found
  -- a checksum of other bytes
  Damaged : Found
  HasBook : (book : Book) → Found

abbrev pub read_block : List ℕ → Found
read_block block = if is_sound block then HasBook (read_book (take 37 block)) else Damaged

-- ---- the file: two blocks and what selects one of them, each in a sector of its own

-- three bytes select, by the majority of their lowest bits: a change of one byte selects no other block
abbrev pub selected : List ℕ → ℕ
selected file = (slice_index file 8192 % 2 + slice_index file 8193 % 2 + slice_index file 8194 % 2) / 2

abbrev pub block_at : ℕ → List ℕ → List ℕ
block_at slot file = take 41 (drop (4096 * slot) file)

-- no book while the file is too short; if the selected block is damaged, the other one is not read: it is older
abbrev pub book_of : List ℕ → Found
book_of file = if nat_lt (length file) 8195 then NoBook else read_block (block_at (selected file) file)

-- ---- stored books

-- the file is that of the book in memory, and a crash leaves it
pub record IsStored (seen : List ℕ) (may_leave : List ℕ → Type 0) (held : StoredBook) : Type 0 where
  pub long : 8195 ≤ length seen
  pub slot : selected seen ≡ held.slot
  pub book : read_block (block_at held.slot seen) ≡ HasBook held.book
  pub durable : Only seen may_leave

abbrev pub found_book : Option StoredBook → Found
found_book None = NoBook
found_book (Some held) = HasBook held.book

abbrev pub IsStoredIfAny : List ℕ → (List ℕ → Type 0) → Option StoredBook → Type 0
IsStoredIfAny seen may_leave None = Only seen may_leave
IsStoredIfAny seen may_leave (Some held) = IsStored seen may_leave held

-- `Disk` is returned if a call of the disk failed, and then only
abbrev pub CountsDisk : {A : Type 0} → Result A BookFault → ℕ → ℕ → Type 0
CountsDisk (Err (faults.Disk error)) old new = MoreFaults old new × (old ≤ new)
CountsDisk (Err faults.Damaged) old new = ⊥
CountsDisk result old new = new ≡ old

-- a read: the same, and `Damaged` if this is so
abbrev pub CountsRead : {A : Type 0} → Type 0 → Result A BookFault → ℕ → ℕ → Type 0
CountsRead IsDamaged (Err (faults.Disk error)) old new = MoreFaults old new × (old ≤ new)
CountsRead IsDamaged (Err faults.Damaged) old new = (new ≡ old) × IsDamaged
CountsRead IsDamaged result old new = new ≡ old

abbrev pub UnlessDisk : {A : Type 0} → Result A BookFault → Type 0 → Type 0
UnlessDisk (Err (faults.Disk error)) P = Unit {0}
UnlessDisk result P = P
