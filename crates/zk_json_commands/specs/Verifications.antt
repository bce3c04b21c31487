-- What `zk verify --json` writes: an object for each mark, for each help, and for the verdict.
use Rattle.std.specs.Prelude.{◌≡◌, ◌≢◌, ℕ, ℤ, nat_lt, Bool, not, List, [], ◌∷◌, ◌++◌, codes, decimal, Option, Some, None, Result, Ok, Err, String, Vec, if◌then◌else◌}
use Rattle.std.specs.Global.{Global}
use Rattle.std.specs.List.{filter}
use Rattle.std.specs.String.{string_bytes}
use Rattle.json.specs.Json.{Json, boolean, null, number, string}
use Rattle.zk_replay.specs.declared.exact.Exact.{Exact}
use Rattle.zk_replay.specs.declared.count.DigestCount.{DigestCount}
use Rattle.zk_directory_state.specs.Names.{log_name, snapshot_name}
use Rattle.zk_directory_state.specs.FaultLines.{fault_text}
use Rattle.zk_directory_state.specs.Outcomes.{Rejects}
use Rattle.zk_directory_state.specs.declared.fault.HistoryFault.{HistoryFault}
use Rattle.zk_directory.specs.declared.joint.Joint.{Joint}
use Rattle.zk_json.specs.Json.{Fields, IsLineOf, id_of, object_of}
use Rattle.zk_json.specs.Times.{IsTimeText}
use Rattle.zk_json_commands.specs.Lines.{AreLines}
use Rattle.zk_log.specs.declared.loaded.Ending.{Ending}
use Rattle.zk_log.specs.declared.loaded.Ending.TheVariants.{Whole, Padding, Torn}
use Rattle.zk_log_commands.specs.Telling.{Outputs}
use Rattle.zk_log_commands.specs.Writing.{LeavesSink}
use Rattle.zk_path.specs.declared.memory.NoMemory.{NoMemory}
use Rattle.zk_records.specs.declared.sink.Sink.{Sink}
use Rattle.zk_verification.specs.Helps.{has_kind, help_line, kinds}
use Rattle.zk_verification.specs.Marks.{wrong_in}
use Rattle.zk_verification.specs.declared.help.Kind.{Kind}
use Rattle.zk_verification.specs.Reports.{stop_word}
use Rattle.zk_verification.specs.declared.mark.Damage.{Damage}
use Rattle.zk_verification.specs.declared.mark.Facts.{Facts}
use Rattle.zk_verification.specs.declared.mark.Mark.{Mark}
use Rattle.zk_verification.specs.declared.mark.Mark.TheVariants as marks
use Rattle.zk_verification.specs.declared.mark.Moment.{Moment}
use Rattle.zk_verification.specs.Verifications.{FindsMarks}

-- ---- marks

abbrev pub id_or_null : Option ℤ → Json
id_or_null None = null
id_or_null (Some id) = id_of id

abbrev pub first_of : Option (ℤ × ℤ) → Json
first_of None = null
first_of (Some span) = id_of span.0

abbrev pub last_of : Option (ℤ × ℤ) → Json
last_of None = null
last_of (Some span) = id_of span.1

-- how a log ends, unless it is broken
abbrev pub end_of : Option Ending → Json
end_of None = null
end_of (Some Whole) = string (codes "whole")
end_of (Some Padding) = string (codes "padding")
end_of (Some (Torn at)) = string (codes "torn")

abbrev pub torn_of : Option Ending → Json
torn_of (Some (Torn at)) = number (decimal at)
torn_of ending = null

abbrev pub log_fields : List ℕ → ℕ → Option (ℤ × ℤ) → Option Ending → Fields
log_fields name records span ending =
    (codes "log", string name) ∷ (codes "records", number (decimal records)) ∷ (codes "first", first_of span) ∷ (codes "last", last_of span)
    ∷ (codes "end", end_of ending) ∷ (codes "tornAt", torn_of ending) ∷ []

-- the snapshot that states begin at, or null for the empty tree
abbrev pub base_of : Option ℤ → Json
base_of None = null
base_of (Some zxid) = string (snapshot_name zxid)

abbrev pub states_fields : Json → Exact → ℤ → DigestCount → Fields
states_fields base exact last digests =
    (codes "base", base) ∷ (codes "to", id_of last) ∷ (codes "exact", id_of exact.zxid) ∷ (codes "orLater", boolean (not exact.is_told))
    ∷ (codes "digest", number (decimal digests.equal)) ∷ (codes "otherDigest", number (decimal digests.other)) ∷ (codes "otherFrom", id_or_null digests.first) ∷ []

abbrev pub wrong_fields : List ℕ → Fields
wrong_fields words = (codes "fault", string words) ∷ []

-- a snapshot, or the empty tree, that leads to no state
abbrev pub stopped_fields : Json → Fields
stopped_fields base = (codes "base", base) ∷ (codes "to", null) ∷ []

-- the last transaction of an epoch that the logs have, and the first of the next one
abbrev pub joint_fields : Joint → Bool → Fields
joint_fields joint missing = (codes "epochEnd", id_of joint.last) ∷ (codes "next", id_of joint.next) ∷ (codes "missing", boolean missing) ∷ []

-- ---- marks with times

abbrev pub zxid_of : Option Moment → Json
zxid_of None = null
zxid_of (Some moment) = id_of moment.zxid

abbrev pub IsTimeOf : Option Moment → Json → Type 0
IsTimeOf None json = json ≡ null
IsTimeOf (Some moment) json = (text : List ℕ) × IsTimeText moment.time text × (json ≡ string text)

-- a log's name, why a server stops there, the bytes that hold no entry, and the transactions around them
abbrev pub place_fields : List ℕ → List ℕ → ℕ → ℕ → Json → Json → ℤ → Json → Fields
place_fields name stop at to before time after time' =
    (codes "lost", string name) ∷ (codes "stop", string stop) ∷ (codes "at", number (decimal at)) ∷ (codes "to", number (decimal to))
    ∷ (codes "before", before) ∷ (codes "beforeTime", time) ∷ (codes "after", id_of after) ∷ (codes "afterTime", time') ∷ []

abbrev pub lost_fields : Damage → Json → Json → Fields
lost_fields damage time time' = place_fields (log_name damage.log) (stop_word damage.stop) damage.at damage.to (zxid_of damage.before) time damage.after.zxid time'

abbrev pub gap_fields : Option Moment → Json → Moment → Json → Fields
gap_fields before time after time' =
    (codes "fault", string (codes "D3")) ∷ (codes "before", zxid_of before) ∷ (codes "beforeTime", time) ∷ (codes "after", id_of after.zxid) ∷ (codes "afterTime", time') ∷ []

abbrev pub IsRangeLine : Option Moment → Moment → (Json → Json → Fields) → List ℕ → Type 0
IsRangeLine before after fields line = (time : Json) × (time' : Json) × IsTimeOf before time × IsTimeOf (Some after) time' × IsLineOf (object_of (fields time time')) line

abbrev pub path_or_null : Option (List ℕ) → Json
path_or_null None = null
path_or_null (Some path) = string path

abbrev pub record_fields : ℤ → Json → Json → Json → Fields
record_fields zxid time session path = (codes "mismatch", id_of zxid) ∷ (codes "time", time) ∷ (codes "session", session) ∷ (codes "path", path) ∷ []

abbrev pub IsRecordLine : ℤ → Option Facts → List ℕ → Type 0
IsRecordLine zxid None line = IsLineOf (object_of (record_fields zxid null null null)) line
IsRecordLine zxid (Some facts) line = (time : List ℕ) × IsTimeText facts.time time × IsLineOf (object_of (record_fields zxid (string time) (id_of facts.session) (path_or_null facts.path))) line

abbrev pub IsMarkLine : Mark → List ℕ → Type 0
IsMarkLine (marks.Log zxid records span ending) line = IsLineOf (object_of (log_fields (log_name zxid) records span ending)) line
IsMarkLine (marks.States snapshot exact last digests) line = IsLineOf (object_of (states_fields (base_of snapshot) exact last digests)) line
IsMarkLine (marks.Stopped snapshot) line = IsLineOf (object_of (stopped_fields (base_of snapshot))) line
IsMarkLine (marks.Joint joint missing) line = IsLineOf (object_of (joint_fields joint missing)) line
IsMarkLine (marks.Lost damage) line = IsRangeLine damage.before damage.after (lost_fields damage) line
IsMarkLine (marks.Gap before after) line = IsRangeLine before after (λ time time'. gap_fields before time after time') line
IsMarkLine (marks.Digest mismatch) line = IsRecordLine mismatch.zxid mismatch.facts line
IsMarkLine (marks.Wrong fault) line = IsLineOf (object_of (wrong_fields (fault_text fault))) line

-- ---- helps

abbrev pub help_fields : List ℕ → Fields
help_fields words = (codes "help", string words) ∷ []

-- the words of a kind's line
abbrev pub IsHelpLine : Kind → List ℕ → Type 0
IsHelpLine kind line = (words : List ℕ) × (help_line kind ≡ codes "help " ++ words ++ codes "\n") × IsLineOf (object_of (help_fields words)) line

-- of the kinds of which something is wrong
abbrev pub kinds_in : List Mark → List Kind → List Kind
kinds_in all some = filter (λ kind. has_kind kind all) some

-- ---- the report

abbrev pub verdict_fields : ℕ → Fields
verdict_fields wrong = (codes "wrong", number (decimal wrong)) ∷ []

pub record IsReport (all : List Mark) (text : List ℕ) : Type 0 where
  pub marked : List ℕ
  pub are_marks : AreLines IsMarkLine all marked
  pub helped : List ℕ
  pub are_helps : AreLines IsHelpLine (kinds_in all kinds) helped
  pub verdict : List ℕ
  pub is_verdict : IsLineOf (object_of (verdict_fields (wrong_in all))) verdict
  pub is : text ≡ marked ++ helped ++ verdict

-- the report is written; the status is 1 if something is wrong, or a write failed. An allocation failure comes before any of it
abbrev pub OutputsReport : {O E : Type 0} → (O → Option (List ℕ)) → (E → Option (List ℕ)) → List Mark → Sink O → Sink O → Sink E → Sink E → Result ℕ NoMemory → Type 0
OutputsReport written told all output output' faults faults' (Ok status) =
    (text : List ℕ) × (put : ℕ) × IsReport all text × Outputs written told text output output' faults faults' (Ok put) × (status ≡ (if nat_lt 0 (wrong_in all) then 1 else put))
OutputsReport written told all output output' faults faults' (Err refused) = LeavesSink written output output' × LeavesSink told faults faults'

abbrev pub OutputsMarks : {O E : Type 0} → (O → Option (List ℕ)) → (E → Option (List ℕ)) → Result (Vec Mark Global) HistoryFault → Sink O → Sink O → Sink E → Sink E → Result ℕ NoMemory → Type 0
OutputsMarks written told (Ok all) output output' faults faults' result = OutputsReport written told all.items output output' faults faults' result
OutputsMarks written told (Err fault) output output' faults faults' result = Rejects written told fault output output' faults faults' result

-- what is wrong with a directory is written, or why nothing is said of it
pub record TellsReport {O E : Type 0} (written : O → Option (List ℕ)) (told : E → Option (List ℕ)) (snapshots : Option (List (List ℕ))) (snapshot_bytes : List ℕ → Option (List ℕ)) (logs : Option (List (List ℕ))) (log_bytes : List ℕ → Option (List ℕ)) (output output' : Sink O) (faults faults' : Sink E) (result : Result ℕ NoMemory) : Type 0 where
  pub answer : Result (Vec Mark Global) HistoryFault
  pub finds : FindsMarks snapshots snapshot_bytes logs log_bytes answer
  pub outputs : OutputsMarks written told answer output output' faults faults' result

-- ---- calls within

-- what follows a front; None for a text that does not begin with it
abbrev pub CutsFront : List ℕ → List ℕ → Option (List ℕ) → Type 0
CutsFront front text None = (rest : List ℕ) → text ≢ front ++ rest
CutsFront front text (Some rest) = text ≡ front ++ rest

-- a text without its newline; None for a text that does not end with one
abbrev pub CutsLine : List ℕ → Option (List ℕ) → Type 0
CutsLine text None = (words : List ℕ) → text ≢ words ++ codes "\n"
CutsLine text (Some words) = text ≡ words ++ codes "\n"

abbrev pub AppendsMark : Mark → List ℕ → List ℕ → Type 0
AppendsMark mark old new = (line : List ℕ) × IsMarkLine mark line × (new ≡ old ++ line)

abbrev pub AppendsMarks : List Mark → List ℕ → List ℕ → Type 0
AppendsMarks all old new = (text : List ℕ) × AreLines IsMarkLine all text × (new ≡ old ++ text)

abbrev pub AppendsHelps : List Mark → List Kind → List ℕ → List ℕ → Type 0
AppendsHelps all some old new = (text : List ℕ) × AreLines IsHelpLine (kinds_in all some) text × (new ≡ old ++ text)

abbrev pub AppendsHelp : List Mark → Kind → List ℕ → List ℕ → Type 0
AppendsHelp all kind old new = AppendsHelps all (kind ∷ []) old new

-- a text, if there is one
abbrev pub text_by : Option (String Global) → Json
text_by None = null
text_by (Some text) = string (string_bytes text)

abbrev pub AppendsRecord : ℤ → Facts → List ℕ → List ℕ → Type 0
AppendsRecord zxid facts old new = (line : List ℕ) × IsRecordLine zxid (Some facts) line × (new ≡ old ++ line)
