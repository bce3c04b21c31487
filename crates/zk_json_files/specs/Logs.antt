-- The objects of a log: its own, and one for each gap.
use Rattle.std.specs.Prelude.{◌≡◌, ℕ, ℤ, ◌-◌, Bool, List, [], ◌∷◌, ◌++◌, length, slice_get, codes, decimal, Option, Some, None, Result, Ok, Err, if◌then◌else◌}
use Rattle.json.specs.Json.{Json, null, number, string}
use Rattle.zk_directory.specs.declared.file.FileEntry.{FileEntry}
use Rattle.zk_directory.specs.declared.file.LogFile.{LogFile}
use Rattle.zk_directory.specs.declared.file.LogFileFault.{LogFileFault}
use Rattle.zk_directory.specs.declared.file.LogFileFault.TheVariants as faults
use Rattle.zk_directory_state.specs.Files.{has_gap, later_of}
use Rattle.zk_json.specs.Json.{Fields, IsLineOf, id_of, object_of}
use Rattle.zk_log.specs.declared.loaded.Ending.{Ending}
use Rattle.zk_log.specs.declared.loaded.Ending.TheVariants.{Whole, Padding, Torn}

-- ---- the log

abbrev pub zxid_by : Option FileEntry → Json
zxid_by None = null
zxid_by (Some entry) = id_of entry.newer.txn.zxid

-- the zxids of the first and the last entry
abbrev pub first_of : List FileEntry → Json
first_of entries = zxid_by (slice_get entries 0)

abbrev pub last_of : List FileEntry → Json
last_of entries = zxid_by (slice_get entries (length entries - 1))

-- how a log ends, unless it is rejected
abbrev pub end_of : Result Ending LogFileFault → Json
end_of (Ok Whole) = string (codes "whole")
end_of (Ok Padding) = string (codes "padding")
end_of (Ok (Torn at)) = string (codes "torn")
end_of (Err fault) = null

abbrev pub torn_at : Result Ending LogFileFault → Json
torn_at (Ok (Torn at)) = number (decimal at)
torn_at outcome = null

-- why it is rejected, and where
abbrev pub fault_by : Result Ending LogFileFault → Json
fault_by (Ok ending) = null
fault_by (Err faults.Header) = string (codes "G1")
fault_by (Err (faults.Checksum at)) = string (codes "G2")
fault_by (Err (faults.Record at)) = string (codes "G3")
fault_by (Err (faults.Order at)) = string (codes "G4")
fault_by (Err (faults.TooLong at)) = string (codes "G5")

abbrev pub fault_at : Result Ending LogFileFault → Json
fault_at (Ok ending) = null
fault_at (Err faults.Header) = null
fault_at (Err (faults.Checksum at)) = number (decimal at)
fault_at (Err (faults.Record at)) = number (decimal at)
fault_at (Err (faults.Order at)) = number (decimal at)
fault_at (Err (faults.TooLong at)) = number (decimal at)

abbrev pub head_fields : List ℕ → ℕ → Json → Json → Result Ending LogFileFault → Fields
head_fields name records first last outcome =
    (codes "log", string name) ∷ (codes "records", number (decimal records)) ∷ (codes "first", first) ∷ (codes "last", last)
    ∷ (codes "end", end_of outcome) ∷ (codes "tornAt", torn_at outcome) ∷ (codes "fault", fault_by outcome) ∷ (codes "at", fault_at outcome) ∷ []

abbrev pub log_fields : List ℕ → LogFile → Fields
log_fields name file = head_fields name (length file.entries.items) (first_of file.entries.items) (last_of file.entries.items) file.outcome

-- ---- its gaps

-- transactions are missing between these two
abbrev pub gap_after : ℤ → ℤ → List (ℤ × ℤ)
gap_after last zxid = if has_gap last zxid then (last, zxid) ∷ [] else []

abbrev pub gap_before : Option ℤ → ℤ → List (ℤ × ℤ)
gap_before None zxid = []
gap_before (Some last) zxid = gap_after last zxid

-- each gap among records, the earlier ones of which end with a zxid
abbrev pub gaps_in : Option ℤ → List FileEntry → List (ℤ × ℤ)
gaps_in last [] = []
gaps_in last (entry ∷ entries) = gap_before last entry.newer.txn.zxid ++ gaps_in (later_of last entry.newer.txn.zxid) entries

abbrev pub gap_fields : List ℕ → ℤ × ℤ → Fields
gap_fields name gap = (codes "gap", string name) ∷ (codes "from", id_of gap.0) ∷ (codes "to", id_of gap.1) ∷ []

abbrev pub AreGapLines : List ℕ → List (ℤ × ℤ) → List ℕ → Type 0
AreGapLines name [] text = text ≡ []
AreGapLines name (gap ∷ gaps) text = (line : List ℕ) × (rest : List ℕ) × IsLineOf (object_of (gap_fields name gap)) line × AreGapLines name gaps rest × (text ≡ line ++ rest)

-- the lines of the log of this name, before which the records end with a zxid
pub record AreLogLines (name : List ℕ) (last : Option ℤ) (file : LogFile) (text : List ℕ) : Type 0 where
  pub log : List ℕ
  pub gaps : List ℕ
  pub is_log : IsLineOf (object_of (log_fields name file)) log
  pub are_gaps : AreGapLines name (gaps_in last file.entries.items) gaps
  pub is : text ≡ log ++ gaps

-- ---- calls within

abbrev pub AppendsGaps : List ℕ → List (ℤ × ℤ) → List ℕ → List ℕ → Type 0
AppendsGaps name gaps old new = (text : List ℕ) × AreGapLines name gaps text × (new ≡ old ++ text)

abbrev pub AppendsLog : List ℕ → Option ℤ → LogFile → List ℕ → List ℕ → Type 0
AppendsLog name last file old new = (text : List ℕ) × AreLogLines name last file text × (new ≡ old ++ text)
