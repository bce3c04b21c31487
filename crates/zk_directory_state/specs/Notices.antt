-- The notices on a state that rests on something that the files do not show: on standard error, with
-- status 0.
use Rattle.std.specs.Prelude.{ℕ, zero, ℤ, List, [], ◌∷◌, ◌++◌, Option, Some, None, Result, Ok, Err, codes}
use Rattle.std.specs.List.{flat_map}
use Rattle.std.specs.String.{string_bytes}
use Rattle.zk_directory.specs.declared.joint.Joint.{Joint}
use Rattle.zk_directory_state.specs.Attempts.{zxid_or_none}
use Rattle.zk_directory_state.specs.Evidence.{unproved}
use Rattle.zk_directory_state.specs.Reports.{other_line}
use Rattle.zk_directory_state.specs.Outcomes.{Rejects}
use Rattle.zk_directory_state.specs.declared.fault.HistoryFault.{HistoryFault}
use Rattle.zk_directory_state.specs.declared.notices.Noticed.{Noticed}
use Rattle.zk_directory_state.specs.declared.restored_directory.Restored.{Restored}
use Rattle.zk_directory_state.specs.declared.upto.Upto.{Upto}
use Rattle.zk_directory_state.specs.declared.upto.Upto.TheVariants.{Last}
use Rattle.zk_format.specs.Spelling.{id_digits}
use Rattle.zk_log_commands.specs.Telling.{Outputs, Told}
use Rattle.zk_log_commands.specs.Writing.{LeavesSink, Wrote}
use Rattle.zk_path.specs.declared.memory.NoMemory.{NoMemory}
use Rattle.zk_records.specs.declared.sink.Sink.{Sink}

-- ---- lines

unfoldable pub ends_line : ℤ → List ℕ
ends_line zxid = codes "zk: ends " ++ id_digits zxid ++ codes "\n"

-- the last state is a snapshot's, and no log has a transaction after it
abbrev pub ends_notice : Upto → Restored → Option ℤ → List ℕ
ends_notice Last restored None = ends_line (zxid_or_none restored.position)
ends_notice upto restored time = []

unfoldable pub joint_line : ℤ → ℤ → List ℕ
joint_line last next = codes "zk: unproved " ++ id_digits last ++ codes " " ++ id_digits next ++ codes "\n"

abbrev pub line_of : Joint → List ℕ
line_of joint = joint_line joint.last joint.next

-- digests of records are not those of the trees after them
abbrev pub digest_notice : ℕ → Option ℤ → List ℕ
digest_notice other None = []
digest_notice other (Some first) = codes "zk: " ++ other_line other (Some first)

abbrev pub notices_of : Upto → Restored → List ℕ
notices_of upto restored =
    ends_notice upto restored restored.time
    ++ flat_map line_of (unproved upto restored)
    ++ digest_notice restored.digests.other restored.digests.first

-- ---- what is written

abbrev pub TellsNotices : {E : Type 0} → (E → Option (List ℕ)) → List ℕ → Sink E → Sink E → Type 0
TellsNotices told [] faults faults' = LeavesSink told faults faults'
TellsNotices told (code ∷ codes) faults faults' = Told told faults faults' (code ∷ codes)

-- the whole text, and then the notices; or a part of the text, as without notices
abbrev pub OutputsWith : {O E : Type 0} → (O → Option (List ℕ)) → (E → Option (List ℕ)) → List ℕ → List ℕ → Sink O → Sink O → Sink E → Sink E → Result ℕ NoMemory → Type 0
OutputsWith written told text notices output output' faults faults' (Ok zero) = Wrote written output output' text × TellsNotices told notices faults faults'
OutputsWith written told text notices output output' faults faults' result = Outputs written told text output output' faults faults' result

-- the text and its notices, or why there is none
abbrev pub OutputsNoticed : {O E : Type 0} → (O → Option (List ℕ)) → (E → Option (List ℕ)) → Result Noticed HistoryFault → Sink O → Sink O → Sink E → Sink E → Result ℕ NoMemory → Type 0
OutputsNoticed written told (Ok noticed) output output' faults faults' result = OutputsWith written told (string_bytes noticed.text) (string_bytes noticed.notices) output output' faults faults' result
OutputsNoticed written told (Err fault) output output' faults faults' result = Rejects written told fault output output' faults faults' result
