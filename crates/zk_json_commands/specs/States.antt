-- What `zk show --json` writes of a state: the lines of the report of `zk show`, in its order, each as
-- an object.
use Rattle.std.specs.Prelude.{◌≡◌, ℕ, ℤ, pos, negsuc, List, [], ◌∷◌, ◌++◌, Option, Some, None, Result, Ok, Err, codes, decimal, not}
use Rattle.std.specs.FinMap.{entries}
use Rattle.std.specs.String.{string_bytes}
use Rattle.std.specs.Fmt.{signed_decimal}
use Rattle.std.specs.Int.{w64, cast_signed}
use Rattle.json.specs.Json.{Json, boolean, null, number, string}
use Rattle.zk_directory_state.specs.FaultLines.{passed_word}
use Rattle.zk_directory_state.specs.Names.{snapshot_name}
use Rattle.zk_directory_state.specs.declared.fault.HistoryFault.{HistoryFault}
use Rattle.zk_directory_state.specs.declared.fault.HistoryFault.TheVariants as faults
use Rattle.zk_directory_state.specs.Histories.{Holds}
use Rattle.zk_directory_state.specs.Notices.{OutputsNoticed, notices_of}
use Rattle.zk_directory_state.specs.declared.notices.Noticed.{Noticed}
use Rattle.zk_directory_state.specs.declared.upto.Upto.{Upto}
use Rattle.zk_directory_state.specs.declared.history.Broken.{Broken}
use Rattle.zk_directory_state.specs.declared.history.Origin.{Origin}
use Rattle.zk_directory_state.specs.declared.history.Shown.{Shown}
use Rattle.zk_json.specs.Json.{Fields, IsLineOf, id_of, object_of}
use Rattle.zk_json_commands.specs.Lines.{AreLines}
use Rattle.zk_json_commands.specs.Nodes.{AreNodeLines}
use Rattle.zk_json_commands.specs.Verifications.{end_of, id_or_null, torn_of}
use Rattle.zk_log.specs.declared.loaded.Ending.{Ending}
use Rattle.zk_path.specs.declared.memory.NoMemory.{NoMemory}
use Rattle.zk_records.specs.declared.sink.Sink.{Sink}
use Rattle.zk_replay.specs.declared.count.DigestCount.{DigestCount}
use Rattle.zk_replay.specs.declared.exact.Exact.{Exact}
use Rattle.zk_table.specs.States.{State}

-- ---- the tree

-- the last transaction
abbrev pub zxid_fields : ℤ → Fields
zxid_fields zxid = (codes "zxid", id_of zxid) ∷ []

-- milliseconds; one below 0, which no server grants, is a text
abbrev pub timeout_of : ℤ → Json
timeout_of (pos number') = number (decimal number')
timeout_of (negsuc number') = string (signed_decimal (negsuc number'))

-- an open session
abbrev pub session_fields : ℕ × ℤ → Fields
session_fields session = (codes "session", id_of (cast_signed w64 session.0)) ∷ (codes "timeout", timeout_of session.1) ∷ []

abbrev pub IsSessionLine : ℕ × ℤ → List ℕ → Type 0
IsSessionLine session line = IsLineOf (object_of (session_fields session)) line

-- the last transaction, the open sessions, and the nodes
pub record AreTreeLines (state : State) (text : List ℕ) : Type 0 where
  pub head : List ℕ
  pub is_head : IsLineOf (object_of (zxid_fields state.last)) head
  pub sessions : List ℕ
  pub are_sessions : AreLines IsSessionLine (entries state.sessions) sessions
  pub nodes : List ℕ
  pub are_nodes : AreNodeLines state.nodes nodes
  pub is : text ≡ head ++ sessions ++ nodes

-- ---- how it was found

-- the snapshot that it begins at, and the zxid from which on it is exact; null for the empty tree
abbrev pub base_fields : Json → Exact → Fields
base_fields name exact = (codes "base", name) ∷ (codes "exact", id_of exact.zxid) ∷ (codes "orLater", boolean (not exact.is_told)) ∷ []

abbrev pub origin_fields : Option Origin → Fields
origin_fields None = (codes "base", null) ∷ []
origin_fields (Some origin) = base_fields (string (snapshot_name origin.zxid)) origin.exact

-- a snapshot that was passed over
abbrev pub passed_fields : Json → List ℕ → Fields
passed_fields name fault = (codes "passed", name) ∷ (codes "fault", string fault) ∷ []

abbrev pub IsPassedLine : Broken → List ℕ → Type 0
IsPassedLine broken line = IsLineOf (object_of (passed_fields (string (snapshot_name broken.zxid)) (passed_word broken.fault))) line

-- how many digests of records are those of the trees after them, how many are not, and the first of these
abbrev pub digest_fields : DigestCount → Fields
digest_fields count = (codes "digest", number (decimal count.equal)) ∷ (codes "otherDigest", number (decimal count.other)) ∷ (codes "otherFrom", id_or_null count.first) ∷ []

-- how the last log ends
abbrev pub ending_fields : Option Ending → Fields
ending_fields ending = (codes "end", end_of ending) ∷ (codes "tornAt", torn_of ending) ∷ []

pub record AreStateLines (shown : Shown) (text : List ℕ) : Type 0 where
  pub tree : List ℕ
  pub is_tree : AreTreeLines shown.restored.table.state tree
  pub base : List ℕ
  pub is_base : IsLineOf (object_of (origin_fields shown.origin)) base
  pub passed : List ℕ
  pub are_passed : AreLines IsPassedLine shown.broken.items passed
  pub digests : List ℕ
  pub are_digests : IsLineOf (object_of (digest_fields shown.restored.digests)) digests
  pub ending : List ℕ
  pub is_ending : IsLineOf (object_of (ending_fields shown.restored.ending)) ending
  pub is : text ≡ tree ++ base ++ passed ++ digests ++ ending

-- of the state that a directory holds, with the notices that `zk show` writes
pub record IsNoticedState (snapshots : Option (List (List ℕ))) (snapshot_bytes : List ℕ → Option (List ℕ)) (logs : Option (List (List ℕ))) (log_bytes : List ℕ → Option (List ℕ)) (upto : Upto) (text notices : List ℕ) : Type 0 where
  pub shown : Shown
  pub holds : Holds snapshots snapshot_bytes logs log_bytes upto (Ok shown)
  pub are : AreStateLines shown text
  pub are_notices : notices ≡ notices_of upto shown.restored

abbrev pub FindsState : Option (List (List ℕ)) → (List ℕ → Option (List ℕ)) → Option (List (List ℕ)) → (List ℕ → Option (List ℕ)) → Upto → Result Noticed HistoryFault → Type 0
FindsState snapshots snapshot_bytes logs log_bytes upto (Ok noticed) = IsNoticedState snapshots snapshot_bytes logs log_bytes upto (string_bytes noticed.text) (string_bytes noticed.notices)
FindsState snapshots snapshot_bytes logs log_bytes upto (Err faults.NoMemory) = Unit {0}
FindsState snapshots snapshot_bytes logs log_bytes upto (Err fault) = Holds snapshots snapshot_bytes logs log_bytes upto (Err fault)

-- the state that a directory holds is written, and its notices, or why there is none
pub record TellsState {O E : Type 0} (written : O → Option (List ℕ)) (told : E → Option (List ℕ)) (snapshots : Option (List (List ℕ))) (snapshot_bytes : List ℕ → Option (List ℕ)) (logs : Option (List (List ℕ))) (log_bytes : List ℕ → Option (List ℕ)) (upto : Upto) (output output' : Sink O) (faults faults' : Sink E) (result : Result ℕ NoMemory) : Type 0 where
  pub answer : Result Noticed HistoryFault
  pub finds : FindsState snapshots snapshot_bytes logs log_bytes upto answer
  pub outputs : OutputsNoticed written told answer output output' faults faults' result

-- ---- calls within

abbrev pub AppendsTree : State → List ℕ → List ℕ → Type 0
AppendsTree state old new = (text : List ℕ) × AreTreeLines state text × (new ≡ old ++ text)

abbrev pub timeout_by : ℤ → List ℕ → Json
timeout_by (pos number') text = number (decimal number')
timeout_by (negsuc number') text = string text

abbrev pub AppendsPassed : Broken → List ℕ → List ℕ → Type 0
AppendsPassed broken old new = (line : List ℕ) × IsPassedLine broken line × (new ≡ old ++ line)
