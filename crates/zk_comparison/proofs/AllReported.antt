-- Several directories.
use Rattle.std.proofs.Common.{◌≡◌, ◌≢◌, ◌≤◌, ◌<◌, ◌+◌, ℕ, suc, Bool, true, false, ◌||◌, List, [], ◌∷◌, ◌++◌, length, map, take, get_or, Option, Result, Ok, Err, refl, sym, ap, ◌∙◌, subst, append_assoc, append-nil, arith}
use Rattle.std.proofs.Math.Seq.{take-suc}
use Rattle.std.proofs.lemmas.List.{take_all}
use Rattle.std.specs.List.{list_any}
use Rattle.std.specs.String.{string_bytes}
use Rattle.zk_comparison.specs.Findings.{is_disagreement}
use Rattle.zk_comparison.specs.Reports.{FindsComparison}
use Rattle.zk_comparison.specs.Several.{AppendsPair, AreFindingsIn, AreReports, IsPairReport, IsReportBy, IsReportWith, IsToldLine, OutputsReports, PutsBy, TellsReports, pair_text, with_pair}
use Rattle.zk_comparison.specs.Sources.{NamedSource}
use Rattle.zk_comparison.specs.declared.comparison.Report.{Report}
use Rattle.zk_comparison.specs.declared.report_form.ReportForm.{ReportForm}
use Rattle.zk_comparison.specs.declared.report_form.ReportForm.TheVariants.{Lines}
use Rattle.zk_directory_state.specs.declared.fault.HistoryFault.{HistoryFault}
use Rattle.zk_path.specs.declared.memory.NoMemory.{NoMemory}
use Rattle.zk_records.specs.declared.sink.Sink.{Sink}

-- ---- the line of two

pub pair_appended : (first second old new : List ℕ) → new ≡ old ++ pair_text first second → AppendsPair Lines first second old new
pair_appended first second old new e = (pair_text first second, refl, e)

-- ---- a report

pub both_after : (form : ReportForm) (first second body noted start mid text notices : List ℕ) → start ≡ [] → AppendsPair form first second start mid → text ≡ mid ++ body → notices ≡ with_pair first second noted → IsReportWith form first second body noted text notices
both_after form first second body noted start mid text notices none line e n = record {
  line = line.0;
  is_line = line.1;
  is_text = e ∙ ap (λ (l : List ℕ). l ++ body) (line.2 ∙ ap (λ (l : List ℕ). l ++ line.0) none);
  are_notices = n;
}

pub report_found : (form : ReportForm) (first second : List ℕ) (report : Report) (body text notices : List ℕ) (differ : Bool) → AreFindingsIn form report.findings.items body → differ ≡ list_any is_disagreement report.findings.items → IsReportWith form first second body (string_bytes report.notices) text notices → IsReportBy form first second (Ok report) text notices differ
report_found form first second report body text notices differ are d w = (body, string_bytes report.notices, (are, refl, d), w)

pub report_missed : (form : ReportForm) (first second : List ℕ) (fault : HistoryFault) (line text notices : List ℕ) (differ : Bool) → IsToldLine fault line → differ ≡ true → IsReportWith form first second [] line text notices → IsReportBy form first second (Err fault) text notices differ
report_missed form first second fault line text notices differ is d w = ([], line, (refl, is, d), w)

pub pair_reported : (form : ReportForm) (first second : NamedSource) (answer : Result Report HistoryFault) (text notices : List ℕ) (differ : Bool) → FindsComparison first.source second.source answer → IsReportBy form first.name second.name answer text notices differ → IsPairReport form first second text notices differ
pair_reported form first second answer text notices differ finds r = record { answer = answer; body = r.0; noted = r.1; finds = finds; is_body = r.2; is = r.3 }

-- ---- all reports

or_false : (a : Bool) → a ≡ (a || false)
or_false true = refl
or_false false = refl

or_assoc : (a b c : Bool) → ((a || b) || c) ≡ (a || (b || c))
or_assoc true b c = refl
or_assoc false b c = refl

-- one more at the end
reports_more : (form : ReportForm) (first : NamedSource) (xs : List NamedSource) (x : NamedSource) (text notices text' notices' : List ℕ) (differ differ' : Bool) → AreReports form first xs text notices differ → IsPairReport form first x text' notices' differ' → AreReports form first (xs ++ x ∷ []) (text ++ text') (notices ++ notices') (differ || differ')
reports_more form first [] x text notices text' notices' differ differ' are one =
    subst (λ (l : List ℕ). AreReports form first (x ∷ []) (l ++ text') (notices ++ notices') (differ || differ')) (sym are.0)
    (subst (λ (l : List ℕ). AreReports form first (x ∷ []) text' (l ++ notices') (differ || differ')) (sym are.1)
    (subst (λ (b : Bool). AreReports form first (x ∷ []) text' notices' (b || differ')) (sym are.2)
    (text', notices', differ', [], [], false, one, (refl, refl, refl), sym (append-nil text'), sym (append-nil notices'), or_false differ')))
reports_more form first (y ∷ xs) x text notices text' notices' differ differ' are one = (
  are.0,
  are.1,
  are.2,
  are.3 ++ text',
  are.4 ++ notices',
  are.5 || differ',
  are.6,
  reports_more form first xs x are.3 are.4 text' notices' are.5 differ' are.7 one,
  ap (λ (l : List ℕ). l ++ text') are.8 ∙ append_assoc are.0 are.3 text',
  ap (λ (l : List ℕ). l ++ notices') are.9 ∙ append_assoc are.1 are.4 notices',
  ap (λ (b : Bool). b || differ') are.10 ∙ or_assoc are.2 are.5 differ',
)

map_more : {A B : Type 0} (f : A → B) (xs : List A) (x : A) → map f (xs ++ x ∷ []) ≡ map f xs ++ f x ∷ []
map_more f [] x = refl
map_more f (y ∷ xs) x = ap (λ l. f y ∷ l) (map_more f xs x)

-- those of the first directories
pub next_report : {A : Type 0} (f : A → NamedSource) (form : ReportForm) (first : NamedSource) (all : List A) (count : ℕ) (x : A) (text notices text' notices' new_text new_notices : List ℕ) (differ differ' new_differ : Bool) → count < length all → x ≡ get_or all count x
    → AreReports form first (map f (take count all)) text notices differ → IsPairReport form first (f x) text' notices' differ' → new_text ≡ text ++ text' → new_notices ≡ notices ++ notices' → new_differ ≡ (differ || differ') → AreReports form first (map f (take (count + 1) all)) new_text new_notices new_differ
next_report {A} f form first all count x text notices text' notices' new_text new_notices differ differ' new_differ lt is so_far one e g h =
    let one_more : count + 1 ≡ suc count = omega arith in
    let more : take count all ++ x ∷ [] ≡ take (count + 1) all = ap (λ (y : A). take count all ++ y ∷ []) is ∙ sym (take-suc all count x lt) ∙ ap (λ n. take n all) (sym one_more) in
    let all_more : map f (take count all) ++ f x ∷ [] ≡ map f (take (count + 1) all) = sym (map_more f (take count all) x) ∙ ap (map f) more in
    subst (λ (xs : List NamedSource). AreReports form first xs new_text new_notices new_differ) all_more
    (subst (λ (l : List ℕ). AreReports form first (map f (take count all) ++ f x ∷ []) l new_notices new_differ) (sym e)
    (subst (λ (l : List ℕ). AreReports form first (map f (take count all) ++ f x ∷ []) (text ++ text') l new_differ) (sym g)
    (subst (λ (b : Bool). AreReports form first (map f (take count all) ++ f x ∷ []) (text ++ text') (notices ++ notices') b) (sym h)
    (reports_more form first (map f (take count all)) (f x) text notices text' notices' differ differ' so_far one))))

pub all_reports : {A : Type 0} (f : A → NamedSource) (form : ReportForm) (first : NamedSource) (all : List A) (count : ℕ) (text notices : List ℕ) (differ : Bool) → length all ≤ count → AreReports form first (map f (take count all)) text notices differ → AreReports form first (map f all) text notices differ
all_reports {A} f form first all count text notices differ le h = subst (λ (xs : List A). AreReports form first (map f xs) text notices differ) (take_all count all le) h

-- ---- what is written

pub reports_put : {O E : Type 0} (form : ReportForm) (written : O → Option (List ℕ)) (told : E → Option (List ℕ)) (first : NamedSource) (others : List NamedSource) (output output' : Sink O) (faults faults' : Sink E) (text notices : List ℕ) (differ : Bool) (status : ℕ) → AreReports form first others text notices differ → PutsBy written told text notices differ output output' faults faults' status → OutputsReports form written told first others output output' faults faults' (Ok status)
reports_put form written told first others output output' faults faults' text notices differ status are puts = record { text = text; notices = notices; differ = differ; are_reports = are; puts = puts }

-- of two directories the report has no line of its own
pub more_than_one : {A O E : Type 0} (f : A → NamedSource) (form : ReportForm) (written : O → Option (List ℕ)) (told : E → Option (List ℕ)) (first : NamedSource) (others : List A) (output output' : Sink O) (faults faults' : Sink E) (result : Result ℕ NoMemory) → length others ≢ 1 → OutputsReports form written told first (map f others) output output' faults faults' result → TellsReports form written told first (map f others) output output' faults faults' result
more_than_one {A} {O} {E} f form written told first [] output output' faults faults' result ne o = o
more_than_one {A} {O} {E} f form written told first (second ∷ []) output output' faults faults' result ne o = absurd (ne refl)
more_than_one {A} {O} {E} f form written told first (second ∷ third ∷ others) output output' faults faults' result ne o = o
