-- What `zk top --json` writes.
use Rattle.std.specs.Prelude.{◌≡◌, ◌==◌, ℕ, List, [], ◌∷◌, ◌++◌, codes, if◌then◌else◌, take, drop, Option, Some, None, Result, Ok, Err}
use Rattle.std.specs.Str.{bytes_eq}
use Rattle.std.specs.String.{string_bytes}
use Rattle.zk_directory_state.specs.Notices.{OutputsNoticed}
use Rattle.zk_directory_state.specs.Records.{Answers, HaveNoAnswer}
use Rattle.zk_directory_state.specs.declared.notices.Noticed.{Noticed}
use Rattle.zk_directory_state.specs.declared.fault.HistoryFault.{HistoryFault}
use Rattle.zk_incidents.specs.Counts.{Counted, counted_all, ranked_all, rows_of}
use Rattle.zk_incidents.specs.Tops.{all_keys, first_rows}
use Rattle.zk_directory_state.specs.declared.range.Range.{Range}
use Rattle.zk_incidents.specs.declared.top_fold.Key.{Key}
use Rattle.zk_incidents.specs.declared.top_fold.Key.TheVariants as keys
use Rattle.zk_json.specs.Incidents.{count_of}
use Rattle.zk_json.specs.Json.{IsLineOf}
use Rattle.zk_newer_records.specs.declared.newer_record.NewerRecord.{NewerRecord}
use Rattle.zk_path.specs.declared.memory.NoMemory.{NoMemory}
use Rattle.zk_records.specs.declared.sink.Sink.{Sink}
use Rattle.zk_json_commands.specs.Lines.{AreLines}

-- the digits of a session, of which the last stays
abbrev pub without_zeros : List ℕ → List ℕ
without_zeros [] = []
without_zeros (digit ∷ []) = digit ∷ []
without_zeros (digit ∷ next ∷ digits) = if digit == 48 then without_zeros (next ∷ digits) else digit ∷ next ∷ digits

-- the number of writes, and the path or the session
abbrev pub IsLine : Key → List ℕ × ℕ → List ℕ → Type 0
IsLine keys.Path row line = IsLineOf (count_of (codes "path") row.0 row.1) line
IsLine keys.Session row line = IsLineOf (count_of (codes "session") (codes "0x" ++ without_zeros row.0) row.1) line

-- the first `number` lines, or all
abbrev pub AreRowLines : Key → Option ℕ → Counted → List ℕ → Type 0
AreRowLines key number counted text = AreLines (IsLine key) (first_rows number (rows_of (ranked_all [] counted))) text

-- of the directory's records, and the notice
abbrev pub IsTopIn : Range → Key → Option ℕ → Option (List (List ℕ)) → Option (List (List ℕ)) → (List ℕ → Option (List ℕ)) → List ℕ → List ℕ → Type 0
IsTopIn range key number snapshots logs log_bytes text notice = (records : List NewerRecord) × Answers range snapshots logs log_bytes records notice × AreRowLines key number (counted_all [] (all_keys range key records)) text

abbrev pub FindsTop : Range → Key → Option ℕ → Option (List (List ℕ)) → Option (List (List ℕ)) → (List ℕ → Option (List ℕ)) → Result Noticed HistoryFault → Type 0
FindsTop range key number snapshots logs log_bytes (Ok noticed) = IsTopIn range key number snapshots logs log_bytes (string_bytes noticed.text) (string_bytes noticed.notices)
FindsTop range key number snapshots logs log_bytes (Err fault) = HaveNoAnswer range snapshots logs log_bytes fault

-- the paths or sessions with the most writes are written, or why there are none
pub record TellsTop {O E : Type 0} (written : O → Option (List ℕ)) (told : E → Option (List ℕ)) (range : Range) (key : Key) (number : Option ℕ) (snapshots logs : Option (List (List ℕ))) (log_bytes : List ℕ → Option (List ℕ)) (output output' : Sink O) (faults faults' : Sink E) (result : Result ℕ NoMemory) : Type 0 where
  pub answer : Result Noticed HistoryFault
  pub finds : FindsTop range key number snapshots logs log_bytes answer
  pub outputs : OutputsNoticed written told answer output output' faults faults' result

-- ---- calls within

abbrev pub after_zero : List ℕ → Option (List ℕ)
after_zero digits = if bytes_eq (take 1 digits) (codes "0") then Some (drop 1 digits) else None

abbrev pub AppendsRow : Key → List ℕ × ℕ → List ℕ → List ℕ → Type 0
AppendsRow key row old new = (line : List ℕ) × IsLine key row line × (new ≡ old ++ line)
