-- The lines of a log around a place: a definition of this project.
use Rattle.std.specs.Prelude.{◌+◌, ◌-◌, ℕ, zero, suc, List, [], ◌++◌, Option, Some, None, codes, length, min, slice_get}
use Rattle.std.specs.List.{flat_map, slice_range}
use Rattle.zk_format.specs.Listings.{line_of}
use Rattle.zk_table.specs.declared.txn.Txn.{Txn}

abbrev pub unmarked_line : Txn → List ℕ
unmarked_line txn = codes "  " ++ line_of txn

-- the transaction just before a place
abbrev pub marked_line : Option Txn → List ℕ
marked_line None = []
marked_line (Some txn) = codes "> " ++ line_of txn

-- the marked line of a place, a number of applied transactions; None leads to the start
abbrev pub marked_at : List Txn → ℕ → List ℕ
marked_at txns zero = codes "> start\n"
marked_at txns (suc before) = marked_line (slice_get txns before)

-- the lines around the marked one: up to n before it, and up to n after it
abbrev pub list_text : List Txn → ℕ → ℕ → List ℕ
list_text txns place count =
    flat_map unmarked_line (slice_range txns (place - 1 - count) (place - 1))
    ++ marked_at txns place
    ++ flat_map unmarked_line (slice_range txns place (place + min count (length txns - place)))
