-- Lines, and what a command writes: its lines, or the line of the fault that keeps them from being
-- read.
use Rattle.std.specs.Prelude.{◌≡◌, ℕ, List, [], ◌∷◌, ◌++◌, Option, Result, Ok, Err, String}
use Rattle.std.specs.Global.{Global}
use Rattle.std.specs.String.{string_bytes}
use Rattle.zk_directory_state.specs.Outcomes.{Rejects}
use Rattle.zk_directory_state.specs.declared.fault.HistoryFault.{HistoryFault}
use Rattle.zk_log_commands.specs.Telling.{Outputs}
use Rattle.zk_path.specs.declared.memory.NoMemory.{NoMemory}
use Rattle.zk_records.specs.declared.sink.Sink.{Sink}

-- a line for each element, in order
abbrev pub AreLines : {A : Type 0} → (A → List ℕ → Type 0) → List A → List ℕ → Type 0
AreLines is_line [] text = text ≡ []
AreLines is_line (x ∷ xs) text = (line : List ℕ) × (rest : List ℕ) × is_line x line × AreLines is_line xs rest × (text ≡ line ++ rest)

abbrev pub OutputsLines : {O E : Type 0} → (O → Option (List ℕ)) → (E → Option (List ℕ)) → Result (String Global) HistoryFault → Sink O → Sink O → Sink E → Sink E → Result ℕ NoMemory → Type 0
OutputsLines written told (Ok text) output output' faults faults' result = Outputs written told (string_bytes text) output output' faults faults' result
OutputsLines written told (Err fault) output output' faults faults' result = Rejects written told fault output output' faults faults' result

-- ---- calls within

abbrev pub AppendsLines : {A : Type 0} → (A → List ℕ → Type 0) → List A → List ℕ → List ℕ → Type 0
AppendsLines is_line xs old new = (text : List ℕ) × AreLines is_line xs text × (new ≡ old ++ text)
