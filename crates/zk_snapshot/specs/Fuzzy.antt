-- A snapshot that is taken while transactions continue. A server's state is cells, one for each
-- field of a path. A transaction of its log is a list of writes, each of which overwrites one cell,
-- whose old value has no effect. The snapshot sees each cell at a moment of its own.
use Rattle.std.specs.Prelude.{◌≡◌, ◌≤◌, ℕ, List, [], ◌∷◌, ◌&&◌, ◌==◌, Bool, take, if◌then◌else◌}
use Rattle.std.specs.Str.{bytes_eq}

-- a path, and which field of the node there
abbrev pub Cell : Type 0
Cell = List ℕ × ℕ

abbrev pub is_cell : Cell → Cell → Bool
is_cell one other = bytes_eq one.0 other.0 && (one.1 == other.1)

-- the value of each cell
abbrev pub Cells : Type 0
Cells = Cell → List ℕ

abbrev pub written : Cell × List ℕ → Cells → Cells
written write cells = λ cell. if is_cell write.0 cell then write.1 else cells cell

-- applies the writes in order
unfoldable pub after : Cells → List (Cell × List ℕ) → Cells
after cells [] = cells
after cells (write ∷ writes) = after (written write cells) writes

-- each cell is what it was at some moment of the window of `window` writes
pub record IsSeenWithin (start : Cells) (writes : List (Cell × List ℕ)) (window : ℕ) (snapshot : Cells) : Type 0 where
  pub moment : Cell → ℕ
  pub within : (cell : Cell) → moment cell ≤ window
  pub seen : (cell : Cell) → snapshot cell ≡ after start (take (moment cell) writes) cell

-- from the end of the window on, replaying all writes from the start of the snapshot gives the
-- server's state
abbrev pub ReplayIsExact : Type 0
ReplayIsExact = (start snapshot : Cells) (writes : List (Cell × List ℕ)) (window n : ℕ) → IsSeenWithin start writes window snapshot → window ≤ n
    → (cell : Cell) → after snapshot (take n writes) cell ≡ after start (take n writes) cell
