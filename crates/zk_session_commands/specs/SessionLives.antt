-- What a session did: its line, and one for each of its transactions.
use Rattle.std.specs.Prelude.{◌≡◌, ℕ, ℤ, Bool, true, false, List, [], ◌∷◌, Option, Some, None}
use Rattle.std.specs.Ordering.{int_eq}
use Rattle.std.specs.String.{string_bytes}
use Rattle.zk_incidents.specs.Histories.{is_expiry, op_word}
use Rattle.zk_incidents.specs.Owners.{touched}
use Rattle.zk_json.specs.Incidents.{IsHistoryLine}
use Rattle.zk_newer_records.specs.declared.newer_record.NewerRecord.{NewerRecord}
use Rattle.zk_session_commands.specs.declared.session_life.SessionLife.{SessionLife}
use Rattle.zk_session_lines.specs.Appending.{Appends, Is, Then}
use Rattle.zk_session_lines.specs.RecordLines.{IsRecordLine}
use Rattle.zk_session_lines.specs.Rows.{IsFormedRow}
use Rattle.zk_session_lines.specs.declared.line_form.LineForm.{LineForm}
use Rattle.zk_session_lines.specs.declared.line_form.LineForm.TheVariants.{Text, Json}
use Rattle.zk_sessions.specs.Ephemerals.{Owned}
use Rattle.zk_sessions.specs.Known.{after}
use Rattle.zk_sessions.specs.declared.known.Known.{Known}
use Rattle.zk_sessions.specs.declared.session.Session.{Session}
use Rattle.zk_table.specs.declared.txn.Txn.{Txn}

-- ---- transactions

-- by the word of the operation, and whether it ends an expired session
abbrev pub IsLineBy : LineForm → List (List ℕ) → List ℕ → Bool → Txn → List ℕ → Type 0
IsLineBy Text paths kind expired txn line = IsRecordLine paths kind expired txn line
IsLineBy Json paths kind expired txn line = IsHistoryLine paths kind expired txn line

-- of a record that touches the nodes at these paths
abbrev pub IsFormedLine : LineForm → List (List ℕ) → NewerRecord → List ℕ → Type 0
IsFormedLine form paths newer line = IsLineBy form paths (op_word newer.txn.op newer.form) (is_expiry newer.txn.cxid newer.txn.op) newer.txn line

abbrev pub IsLineIf : Bool → LineForm → List (List ℕ) → NewerRecord → List ℕ → Type 0
IsLineIf true form paths newer line = IsFormedLine form paths newer line
IsLineIf false form paths newer line = line ≡ []

-- a record is a transaction of a session
abbrev pub is_of : ℤ → NewerRecord → Bool
is_of session newer = int_eq newer.txn.session session

abbrev pub IsLifeLine : LineForm → ℤ → Owned → NewerRecord → List ℕ → Type 0
IsLifeLine form session owned newer line = IsLineIf (is_of session newer) form (touched owned newer) newer line

-- of records in order
abbrev pub IsLifeFrom : LineForm → ℤ → Known → List NewerRecord → List ℕ → Type 0
IsLifeFrom form session known [] text = text ≡ []
IsLifeFrom form session known (newer ∷ records) text = Then (IsLifeLine form session known.owners newer) (IsLifeFrom form session (after known newer) records) text

-- ---- the session

-- its line, and the lines of its transactions; empty if no file has the session
abbrev pub IsSessionText : LineForm → ℤ → Option Session → List ℕ → List ℕ → Type 0
IsSessionText form session None lines text = text ≡ []
IsSessionText form session (Some life) lines text = Then (IsFormedRow form (session, life)) (Is lines) text

-- ---- calls within

pub record Follows (old : SessionLife) (newer : NewerRecord) (new : SessionLife) : Type 0 where
  pub asked : new.asked ≡ old.asked
  pub known : new.known ≡ after old.known newer
  pub line : Appends (IsLifeLine old.asked.form old.asked.session old.known.owners newer) (string_bytes old.text) (string_bytes new.text)
