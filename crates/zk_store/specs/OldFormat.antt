-- The bytes of a store's files in the format without checksums.
use Rattle.std.specs.Prelude.{ℕ, ◌*◌, ◌%◌, List, take, drop, slice_index}
use Rattle.std.specs.Int.{w64, to_be_bytes}
use Rattle.std.specs.List.{flat_map}
use Rattle.zk_store.specs.Books.{read_book}
use Rattle.zk_store.specs.declared.book.Book.{Book}

-- two blocks of 37 bytes, and a byte whose lowest bit selects one of them
abbrev pub old_book : List ℕ → Book
old_book file = read_book (take 37 (drop (37 * (slice_index file 74 % 2)) file))

-- 8 bytes a tag
abbrev pub old_tags : List ℕ → List ℕ
old_tags tags = flat_map (to_be_bytes w64) tags
