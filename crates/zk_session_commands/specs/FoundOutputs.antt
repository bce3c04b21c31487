-- What a command writes that looks for something: with status 1 if there is nothing.
use Rattle.std.specs.Prelude.{◌≡◌, ℕ, List, [], ◌∷◌, Option, Result, Ok, Err}
use Rattle.std.specs.String.{string_bytes}
use Rattle.zk_directory_state.specs.Notices.{OutputsWith, TellsNotices}
use Rattle.zk_directory_state.specs.Outcomes.{Rejects}
use Rattle.zk_directory_state.specs.declared.fault.HistoryFault.{HistoryFault}
use Rattle.zk_directory_state.specs.declared.notices.Noticed.{Noticed}
use Rattle.zk_log_commands.specs.Writing.{LeavesSink}
use Rattle.zk_path.specs.declared.memory.NoMemory.{NoMemory}
use Rattle.zk_records.specs.declared.sink.Sink.{Sink}

-- the text and its notices; of no text the notices alone, with status 1
abbrev pub OutputsText : {O E : Type 0} → (O → Option (List ℕ)) → (E → Option (List ℕ)) → List ℕ → List ℕ → Sink O → Sink O → Sink E → Sink E → Result ℕ NoMemory → Type 0
OutputsText written told [] notices output output' faults faults' result = (result ≡ Ok 1) × LeavesSink written output output' × TellsNotices told notices faults faults'
OutputsText written told (code ∷ text) notices output output' faults faults' result = OutputsWith written told (code ∷ text) notices output output' faults faults' result

-- or why there is none
abbrev pub OutputsFound : {O E : Type 0} → (O → Option (List ℕ)) → (E → Option (List ℕ)) → Result Noticed HistoryFault → Sink O → Sink O → Sink E → Sink E → Result ℕ NoMemory → Type 0
OutputsFound written told (Ok noticed) output output' faults faults' result = OutputsText written told (string_bytes noticed.text) (string_bytes noticed.notices) output output' faults faults' result
OutputsFound written told (Err fault) output output' faults faults' result = Rejects written told fault output output' faults faults' result
