-- The line on standard error for a data directory that is rejected: the fault, the file that it is
-- about, and its numbers.
use Rattle.std.specs.Prelude.{◌≡◌, ℕ, ℤ, List, ◌∷◌, ◌++◌, codes}
use Rattle.std.specs.Fmt.{decimal}
use Rattle.zk_directory.specs.declared.names.FileName.{FileName}
use Rattle.zk_directory.specs.declared.names.FileName.TheVariants as files
use Rattle.zk_directory_state.specs.declared.fault.HistoryFault.{HistoryFault}
use Rattle.zk_directory_state.specs.declared.fault.HistoryFault.TheVariants as faults
use Rattle.zk_directory_state.specs.declared.fault.PassedFault.{PassedFault}
use Rattle.zk_directory_state.specs.declared.fault.PassedFault.TheVariants as passed
use Rattle.zk_directory_state.specs.Names.{log_name, snapshot_name}
use Rattle.zk_format.specs.Spelling.{id_digits}
use Rattle.zk_json.specs.Times.{IsTimeText}
use Rattle.zk_directory.specs.declared.file.LogFileFault.{LogFileFault}
use Rattle.zk_directory.specs.declared.file.LogFileFault.TheVariants as log_faults

abbrev pub passed_word : PassedFault → List ℕ
passed_word passed.Header = codes "S1"
passed_word passed.Short = codes "S2"
passed_word passed.Field = codes "S3"
passed_word passed.Checksum = codes "S4"
passed_word passed.Trailing = codes "S5"
passed_word passed.Compressed = codes "S6"
passed_word passed.Tree = codes "S7"
passed_word passed.Access = codes "S8"

abbrev pub log_fault_text : ℤ → LogFileFault → List ℕ
log_fault_text log log_faults.Header = codes "G1 " ++ log_name log
log_fault_text log (log_faults.Checksum at) = codes "G2 " ++ log_name log ++ codes " " ++ decimal at
log_fault_text log (log_faults.Record at) = codes "G3 " ++ log_name log ++ codes " " ++ decimal at
log_fault_text log (log_faults.Order at) = codes "G4 " ++ log_name log ++ codes " " ++ decimal at
log_fault_text log (log_faults.TooLong at) = codes "G5 " ++ log_name log ++ codes " " ++ decimal at

abbrev pub file_text : FileName → List ℕ
file_text (files.Snapshot zxid) = snapshot_name zxid
file_text (files.Log zxid) = log_name zxid

abbrev pub fault_text : HistoryFault → List ℕ
fault_text faults.Empty = codes "D1"
fault_text (faults.Purged first) = codes "D2 " ++ id_digits first
fault_text (faults.Gap from to) = codes "D3 " ++ id_digits from ++ codes " " ++ id_digits to
fault_text (faults.Differs log at) = codes "D4 " ++ log_name log ++ codes " " ++ decimal at
fault_text (faults.Short snapshot exact) = codes "D5 " ++ snapshot_name snapshot ++ codes " " ++ id_digits exact
fault_text (faults.Early snapshot exact) = codes "D6 " ++ snapshot_name snapshot ++ codes " " ++ id_digits exact
fault_text (faults.Beyond last time) = codes "D7 " ++ id_digits last
fault_text faults.NoTransaction = codes "D8"
fault_text (faults.Log log fault) = log_fault_text log fault
fault_text (faults.Snapshot snapshot fault) = passed_word fault ++ codes " " ++ snapshot_name snapshot
fault_text (faults.Unreadable file) = codes "G6 " ++ file_text file
fault_text faults.Read = codes "read"
fault_text faults.NoMemory = codes "memory"

unfoldable pub fault_line : HistoryFault → List ℕ
fault_line fault = codes "zk: " ++ fault_text fault ++ codes "\n"

-- the line of a last transaction whose time is known, with that time as a clock shows it
unfoldable pub beyond_line : ℤ → List ℕ → List ℕ
beyond_line last clock = codes "zk: D7 " ++ id_digits last ++ codes " " ++ clock ++ codes "\n"

abbrev pub IsBeyondLine : ℤ → ℤ → List ℕ → Type 0
IsBeyondLine last time line = (clock : List ℕ) × IsTimeText time clock × (line ≡ beyond_line last clock)
