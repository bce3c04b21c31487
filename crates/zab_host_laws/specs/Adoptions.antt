-- How a server's files adopt a leader's history atomically: a NewLeader truncates the server's
-- history and appends the rest.
use Rattle.std.specs.Prelude.{◌≡◌, ◌⊎◌, ℕ, ◌≤◌, ℤ, true, List, ◌++◌, length, take, Option, Some, None}
use Rattle.zab_epoch.specs.declared.history.Entry.{Entry}
use Rattle.zab_epoch.specs.Entries.{up_to}
use Rattle.zab_epoch.specs.Rules.{goes_on, meant}

-- a log, the entries to append, and the marker of an adoption in progress: the zxid up to which the
-- log is kept
pub record Files : Type 0 where
  pub log : List Entry
  pub joining : List Entry
  pub book : Option ℤ

abbrev pub files : List Entry → List Entry → Option ℤ → Files
files log joining book = record { log = log; joining = joining; book = book }

-- the history in these files
abbrev pub history_by : List Entry → List Entry → Option ℤ → List Entry
history_by log joining None = log
history_by log joining (Some keep) = up_to keep log ++ joining

abbrev pub history_in : Files → List Entry
history_in it = history_by it.log it.joining it.book

-- the moments of an adoption
pub data Moment : Type 0 where
  -- the rest is written beside the log, partly or wholly
  WritesRest : (joining : List Entry) → Moment
  -- the marker is set: this commits the adoption
  Marks : Moment
  -- the log is truncated to `count` entries, not below what is kept
  Truncates : (count : ℕ) → Moment
  -- `count` entries of the rest are appended to what is kept
  Appends : (count : ℕ) → Moment
  -- the marker is cleared, and the rest deleted
  Completes : (joining : List Entry) → Moment

abbrev pub IsAllowed : List Entry → ℤ → Moment → Type 0
IsAllowed log keep (Truncates count) = length (up_to keep log) ≤ count
IsAllowed log keep moment = Unit {0}

-- the files that a crash at a moment leaves, where the log was this one
abbrev pub left_at : List Entry → ℤ → List Entry → Moment → Files
left_at log keep rest (WritesRest joining) = files log joining None
left_at log keep rest Marks = files log rest (Some keep)
left_at log keep rest (Truncates count) = files (take count log) rest (Some keep)
left_at log keep rest (Appends count) = files (up_to keep log ++ take count rest) rest (Some keep)
left_at log keep rest (Completes joining) = files (up_to keep log ++ rest) joining None

-- A crash at any moment leaves the old history, or the one that the rule says.
abbrev pub AdoptionsAreAtomic : Type 0
AdoptionsAreAtomic =
    (log : List Entry) (keep : ℤ) (rest : List Entry) (moment : Moment) → goes_on log keep rest ≡ true → IsAllowed log keep moment
    → (history_in (left_at log keep rest moment) ≡ log) ⊎ (history_in (left_at log keep rest moment) ≡ meant log keep rest)

-- a moment after which recovery finds the marker
abbrev pub IsUnderWay : Moment → Type 0
IsUnderWay (WritesRest joining) = ⊥
IsUnderWay (Completes joining) = ⊥
IsUnderWay moment = Unit {0}

-- Recovery that finds the marker truncates, appends and completes again, on the log that it finds.
-- If it crashes too, the files are those that a crash of the adoption itself may leave.
abbrev pub AdoptionsAreRepeatable : Type 0
AdoptionsAreRepeatable =
    (log : List Entry) (keep : ℤ) (rest : List Entry) (first again : Moment) → goes_on log keep rest ≡ true → IsAllowed log keep first → IsUnderWay first
    → (again ≡ Marks) ⊎ ((count : ℕ) × (again ≡ Truncates count) × (length (up_to keep (left_at log keep rest first).log) ≤ count)) ⊎ ((count : ℕ) × (again ≡ Appends count)) ⊎ ((joining : List Entry) × (again ≡ Completes joining))
    → (other : Moment) × IsAllowed log keep other × (left_at (left_at log keep rest first).log keep rest again ≡ left_at log keep rest other)
