-- Who writes most: by path, or by session.
use Rattle.std.specs.Prelude.{◌≡◌, ℕ, ℤ, List, [], ◌∷◌, ◌++◌, map, take, Option, Some, None, if◌then◌else◌}
use Rattle.std.specs.Fmt.{decimal}
use Rattle.std.specs.List.{flat_map}
use Rattle.zk_format.specs.Spelling.{id_digits, quoted}
use Rattle.zk_incidents.specs.Counts.{Counted, counted_all, ranked_all, rows_of}
use Rattle.zk_directory_state.specs.Ranges.{is_in}
use Rattle.zk_incidents.specs.Writes.{written}
use Rattle.zk_directory_state.specs.declared.range.Range.{Range}
use Rattle.zk_incidents.specs.declared.top_fold.Key.{Key}
use Rattle.zk_incidents.specs.declared.top_fold.Key.TheVariants as keys
use Rattle.zk_incidents.specs.declared.top_fold.Top.{Top}
use Rattle.zk_newer_records.specs.declared.newer_record.NewerRecord.{NewerRecord}

-- ---- the writes

-- what a write counts for
abbrev pub keys_by : Key → ℤ → List (List ℕ) → List (List ℕ)
keys_by keys.Path session paths = paths
keys_by keys.Session session paths = map (λ path. id_digits session) paths

-- one for each write of a record
abbrev pub keys_of : Key → NewerRecord → List (List ℕ)
keys_of key newer = keys_by key newer.txn.session (written newer.txn.op)

abbrev pub keys_in : Range → Key → NewerRecord → List (List ℕ)
keys_in range key newer = if is_in range newer.txn then keys_of key newer else []

-- those of records in order
abbrev pub all_keys : Range → Key → List NewerRecord → List (List ℕ)
all_keys range key records = flat_map (keys_in range key) records

-- ---- the text

abbrev pub key_text : Key → List ℕ → List ℕ
key_text keys.Path text = quoted text
key_text keys.Session text = text

-- the number of writes, and the path or the session
abbrev pub row_text : Key → List ℕ × ℕ → List ℕ
row_text key row = decimal row.1 ++ 32 ∷ key_text key row.0 ++ 10 ∷ []

-- the first `number` rows, or all
abbrev pub first_rows : Option ℕ → Counted → Counted
first_rows None rows = rows
first_rows (Some number) rows = take number rows

abbrev pub rows_text : Key → Option ℕ → Counted → List ℕ
rows_text key number counted = flat_map (row_text key) (first_rows number (rows_of (ranked_all [] counted)))

-- of records in order
abbrev pub top_text : Range → Key → Option ℕ → List NewerRecord → List ℕ
top_text range key number records = rows_text key number (counted_all [] (all_keys range key records))

-- ---- calls

pub record Counts (old : Top) (newer : NewerRecord) (new : Top) : Type 0 where
  pub range : new.range ≡ old.range
  pub key : new.key ≡ old.key
  pub counts : new.counts ≡ counted_all old.counts (keys_in old.range old.key newer)
