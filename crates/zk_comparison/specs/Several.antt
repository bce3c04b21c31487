-- Several directories: each further one is compared with the first, as `diff --from-file` does.
use Rattle.std.specs.Prelude.{◌≡◌, ℕ, Bool, true, false, ◌||◌, List, [], ◌∷◌, ◌++◌, Option, Result, Ok, Err, if◌then◌else◌, codes}
use Rattle.std.specs.List.{list_any}
use Rattle.std.specs.String.{string_bytes}
use Rattle.json.specs.Json.{string}
use Rattle.zk_comparison.specs.Findings.{is_disagreement}
use Rattle.zk_comparison.specs.Lines.{AreLines, IsFindingText}
use Rattle.zk_comparison.specs.Objects.{IsFindingLine}
use Rattle.zk_comparison.specs.Reports.{FindsComparison, TellsComparison}
use Rattle.zk_comparison.specs.Sources.{NamedSource}
use Rattle.zk_comparison.specs.declared.comparison.Report.{Report}
use Rattle.zk_comparison.specs.declared.finding.Finding.{Finding}
use Rattle.zk_comparison.specs.declared.report_form.ReportForm.{ReportForm}
use Rattle.zk_comparison.specs.declared.report_form.ReportForm.TheVariants.{Lines, Objects}
use Rattle.zk_directory_state.specs.FaultLines.{fault_line}
use Rattle.zk_directory_state.specs.Notices.{OutputsWith}
use Rattle.zk_directory_state.specs.declared.fault.HistoryFault.{HistoryFault}
use Rattle.zk_directory_state.specs.declared.fault.HistoryFault.TheVariants as faults
use Rattle.zk_format.specs.Spelling.{quoted}
use Rattle.zk_json.specs.Json.{Fields, IsLineOf, object_of}
use Rattle.zk_log_commands.specs.Writing.{LeavesSink}
use Rattle.zk_path.specs.declared.memory.NoMemory.{NoMemory}
use Rattle.zk_records.specs.declared.sink.Sink.{Sink}

-- ---- the line of the two that a report is about

unfoldable pub pair_text : List ℕ → List ℕ → List ℕ
pair_text first second = codes "compare " ++ quoted first ++ codes " " ++ quoted second ++ codes "\n"

abbrev pub pair_fields : List ℕ → List ℕ → Fields
pair_fields first second = (codes "kind", string (codes "compare")) ∷ (codes "first", string first) ∷ (codes "second", string second) ∷ []

abbrev pub IsPairLine : ReportForm → List ℕ → List ℕ → List ℕ → Type 0
IsPairLine Lines first second line = line ≡ pair_text first second
IsPairLine Objects first second line = IsLineOf (object_of (pair_fields first second)) line

-- notices come after that line, if there are any
abbrev pub with_pair : List ℕ → List ℕ → List ℕ → List ℕ
with_pair first second [] = []
with_pair first second (code ∷ notices) = codes "zk: " ++ pair_text first second ++ (code ∷ notices)

-- ---- a report

abbrev pub AreFindingsIn : ReportForm → List Finding → List ℕ → Type 0
AreFindingsIn Lines = AreLines IsFindingText
AreFindingsIn Objects = AreLines IsFindingLine

abbrev pub IsToldLine : HistoryFault → List ℕ → Type 0
IsToldLine faults.NoMemory line = ⊥
IsToldLine fault line = line ≡ fault_line fault

-- the text, the notices, and whether the two differ; or the line of the fault as a notice
abbrev pub IsReportBody : ReportForm → Result Report HistoryFault → List ℕ → List ℕ → Bool → Type 0
IsReportBody form (Ok compared) body noted differ = AreFindingsIn form compared.findings.items body × (noted ≡ string_bytes compared.notices) × (differ ≡ list_any is_disagreement compared.findings.items)
IsReportBody form (Err fault) body noted differ = (body ≡ []) × IsToldLine fault noted × (differ ≡ true)

-- both after the line of the two
pub record IsReportWith (form : ReportForm) (first second body noted text notices : List ℕ) : Type 0 where
  pub line : List ℕ
  pub is_line : IsPairLine form first second line
  pub is_text : text ≡ line ++ body
  pub are_notices : notices ≡ with_pair first second noted

pub record IsPairReport (form : ReportForm) (first second : NamedSource) (text notices : List ℕ) (differ : Bool) : Type 0 where
  pub answer : Result Report HistoryFault
  pub body : List ℕ
  pub noted : List ℕ
  pub finds : FindsComparison first.source second.source answer
  pub is_body : IsReportBody form answer body noted differ
  pub is : IsReportWith form first.name second.name body noted text notices

-- ---- all reports

-- one after another
abbrev pub AreReports : ReportForm → NamedSource → List NamedSource → List ℕ → List ℕ → Bool → Type 0
AreReports form first [] text notices differ = (text ≡ []) × (notices ≡ []) × (differ ≡ false)
AreReports form first (second ∷ others) text notices differ =
    (text' : List ℕ) × (notices' : List ℕ) × (differ' : Bool) × (rest : List ℕ) × (noted : List ℕ) × (differs : Bool)
    × IsPairReport form first second text' notices' differ' × AreReports form first others rest noted differs
    × (text ≡ text' ++ rest) × (notices ≡ notices' ++ noted) × (differ ≡ (differ' || differs))

-- a text and the notices. The status is 1 if two differ, if a directory cannot be compared, or if a write
-- failed
abbrev pub PutsBy : {O E : Type 0} → (O → Option (List ℕ)) → (E → Option (List ℕ)) → List ℕ → List ℕ → Bool → Sink O → Sink O → Sink E → Sink E → ℕ → Type 0
PutsBy written told text notices differ output output' faults faults' status =
    (put : ℕ) × OutputsWith written told text notices output output' faults faults' (Ok put) × (status ≡ (if differ then 1 else put))

pub record PutsReports {O E : Type 0} (form : ReportForm) (written : O → Option (List ℕ)) (told : E → Option (List ℕ)) (first : NamedSource) (others : List NamedSource) (output output' : Sink O) (faults faults' : Sink E) (status : ℕ) : Type 0 where
  pub text : List ℕ
  pub notices : List ℕ
  pub differ : Bool
  pub are_reports : AreReports form first others text notices differ
  pub puts : PutsBy written told text notices differ output output' faults faults' status

-- an allocation failure comes before anything is written
abbrev pub OutputsReports : {O E : Type 0} → ReportForm → (O → Option (List ℕ)) → (E → Option (List ℕ)) → NamedSource → List NamedSource → Sink O → Sink O → Sink E → Sink E → Result ℕ NoMemory → Type 0
OutputsReports form written told first others output output' faults faults' (Ok status) = PutsReports form written told first others output output' faults faults' status
OutputsReports form written told first others output output' faults faults' (Err failed) = LeavesSink written output output' × LeavesSink told faults faults'

-- a report of two directories has no line of its own
abbrev pub TellsReports : {O E : Type 0} → ReportForm → (O → Option (List ℕ)) → (E → Option (List ℕ)) → NamedSource → List NamedSource → Sink O → Sink O → Sink E → Sink E → Result ℕ NoMemory → Type 0
TellsReports form written told first (second ∷ []) output output' faults faults' result = TellsComparison (AreFindingsIn form) written told first.source second.source output output' faults faults' result
TellsReports form written told first others output output' faults faults' result = OutputsReports form written told first others output output' faults faults' result

-- ---- calls within

abbrev pub AppendsPair : ReportForm → List ℕ → List ℕ → List ℕ → List ℕ → Type 0
AppendsPair form first second old new = (line : List ℕ) × IsPairLine form first second line × (new ≡ old ++ line)

-- by what was found of the two
abbrev pub IsReportBy : ReportForm → List ℕ → List ℕ → Result Report HistoryFault → List ℕ → List ℕ → Bool → Type 0
IsReportBy form first second answer text notices differ =
    (body : List ℕ) × (noted : List ℕ) × IsReportBody form answer body noted differ × IsReportWith form first second body noted text notices
