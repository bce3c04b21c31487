-- The counts of `zk top` add up.
use Rattle.std.specs.Prelude.{◌≡◌, ◌<◌, ◌^◌, ℕ, List, [], length}
use Rattle.std.specs.List.{sum}
use Rattle.std.specs.Map.{values_of}
use Rattle.zk_incidents.specs.Counts.{counted_all}
use Rattle.zk_incidents.specs.Tops.{all_keys}
use Rattle.zk_directory_state.specs.declared.range.Range.{Range}
use Rattle.zk_incidents.specs.declared.top_fold.Key.{Key}
use Rattle.zk_newer_records.specs.declared.newer_record.NewerRecord.{NewerRecord}

-- the writes of records, each once
abbrev pub writes_in : Range → Key → List NewerRecord → ℕ
writes_in range key records = length (all_keys range key records)

abbrev pub CountsAddUp : Type 0
CountsAddUp = (range : Range) (key : Key) (records : List NewerRecord) → writes_in range key records < 2 ^ 64 → sum (values_of (counted_all [] (all_keys range key records))) ≡ writes_in range key records
