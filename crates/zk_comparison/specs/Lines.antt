-- The lines of `zk compare`.
use Rattle.std.specs.Prelude.{◌≡◌, ℕ, ℤ, List, [], ◌∷◌, ◌++◌, Option, Some, None, codes}
use Rattle.std.specs.Fmt.{decimal}
use Rattle.zk_comparison.specs.declared.finding.Directory.{Directory}
use Rattle.zk_comparison.specs.declared.finding.Directory.TheVariants.{First, Second}
use Rattle.zk_comparison.specs.declared.finding.Finding.{Finding}
use Rattle.zk_comparison.specs.declared.finding.Finding.TheVariants as findings
use Rattle.zk_comparison.specs.declared.finding.Occurrence.{Occurrence}
use Rattle.zk_comparison.specs.declared.finding.Stretch.{Stretch}
use Rattle.zk_format.specs.Spelling.{id_digits, quoted}
use Rattle.zk_incidents.specs.Histories.{op_word}
use Rattle.zk_json.specs.Times.{IsTimeText}
use Rattle.zk_newer_records.specs.declared.newer_record.NewerRecord.{NewerRecord}
use Rattle.zk_verification.specs.Findings.{path_of}

-- ---- lines, one after another

abbrev pub AreLines : {A : Type 0} → (A → List ℕ → Type 0) → List A → List ℕ → Type 0
AreLines is_line [] text = text ≡ []
AreLines is_line (x ∷ xs) text = (line : List ℕ) × (rest : List ℕ) × is_line x line × AreLines is_line xs rest × (text ≡ line ++ rest)

-- ---- transactions in a row

abbrev pub directory_word : Directory → List ℕ
directory_word First = codes "first"
directory_word Second = codes "second"

abbrev pub IsTimeBy : Option ℤ → List ℕ → Type 0
IsTimeBy None text = text ≡ codes "-"
IsTimeBy (Some time) text = IsTimeText time text

-- the zxids of the first and the last one, and their times
unfoldable pub span_text : ℤ → ℤ → List ℕ → List ℕ → List ℕ
span_text from to time time' = codes " " ++ id_digits from ++ codes " " ++ id_digits to ++ codes " " ++ time ++ codes " " ++ time'

abbrev pub IsSpanText : Option (Occurrence × Occurrence) → List ℕ → Type 0
IsSpanText None text = text ≡ []
IsSpanText (Some span) text = (time : List ℕ) × (time' : List ℕ) × IsTimeBy span.0.time time × IsTimeBy span.1.time time' × (text ≡ span_text span.0.zxid span.1.zxid time time')

unfoldable pub stretch_text : List ℕ → ℕ → List ℕ → List ℕ
stretch_text word count span = word ++ codes " " ++ decimal count ++ span ++ codes "\n"

abbrev pub IsStretchText : List ℕ → Stretch → List ℕ → Type 0
IsStretchText word stretch text = (span : List ℕ) × IsSpanText stretch.span span × (text ≡ stretch_text word stretch.count span)

-- ---- a difference

abbrev pub path_text : Option (List ℕ) → List ℕ
path_text None = codes "-"
path_text (Some path) = quoted path

-- what a directory has: the time, the operation, the session, and the path that it names first
unfoldable pub side_text : NewerRecord → List ℕ → List ℕ
side_text newer time = codes " " ++ time ++ codes " " ++ op_word newer.txn.op newer.form ++ codes " " ++ id_digits newer.txn.session ++ codes " " ++ path_text (path_of newer.txn.op)

abbrev pub IsSideText : Option NewerRecord → List ℕ → Type 0
IsSideText None text = text ≡ codes " - - - -"
IsSideText (Some newer) text = (time : List ℕ) × IsTimeText newer.txn.time time × (text ≡ side_text newer time)

unfoldable pub differing_text : ℤ → List ℕ → List ℕ → List ℕ
differing_text zxid first second = codes "differ " ++ id_digits zxid ++ first ++ second ++ codes "\n"

-- ---- the trees

-- the directory that alone has a node
abbrev pub holder_word : Option Directory → List ℕ
holder_word None = codes "both"
holder_word (Some directory) = directory_word directory

unfoldable pub node_text : List ℕ → List ℕ → List ℕ
node_text holder path = codes "node " ++ holder ++ codes " " ++ quoted path ++ codes "\n"

unfoldable pub tree_text : ℤ → ℕ → List ℕ
tree_text zxid count = codes "tree " ++ id_digits zxid ++ codes " " ++ decimal count ++ codes "\n"

-- ---- any finding

unfoldable pub count_text : List ℕ → ℕ → List ℕ
count_text word count = word ++ codes " " ++ decimal count ++ codes "\n"

abbrev pub IsFindingText : Finding → List ℕ → Type 0
IsFindingText (findings.Before directory stretch) text = IsStretchText (codes "before " ++ directory_word directory) stretch text
IsFindingText (findings.Same stretch) text = IsStretchText (codes "same") stretch text
IsFindingText (findings.Lost count) text = text ≡ count_text (codes "lost") count
IsFindingText (findings.Differing zxid first second) text =
    (ours : List ℕ) × (theirs : List ℕ) × IsSideText first ours × IsSideText second theirs × (text ≡ differing_text zxid ours theirs)
IsFindingText (findings.Differences count) text = text ≡ count_text (codes "differences") count
IsFindingText (findings.After directory stretch) text = IsStretchText (codes "after " ++ directory_word directory) stretch text
IsFindingText (findings.Node path directory) text = text ≡ node_text (holder_word directory) path
IsFindingText (findings.Tree zxid count) text = text ≡ tree_text zxid count

-- ---- calls within

abbrev pub AppendsFinding : Finding → List ℕ → List ℕ → Type 0
AppendsFinding finding old new = (text : List ℕ) × IsFindingText finding text × (new ≡ old ++ text)

abbrev pub AppendsFindings : List Finding → List ℕ → List ℕ → Type 0
AppendsFindings all old new = (text : List ℕ) × AreLines IsFindingText all text × (new ≡ old ++ text)

abbrev pub AppendsStretch : List ℕ → Stretch → List ℕ → List ℕ → Type 0
AppendsStretch word stretch old new = (text : List ℕ) × IsStretchText word stretch text × (new ≡ old ++ text)
