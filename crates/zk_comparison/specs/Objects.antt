-- The lines of `zk compare --json`: objects of RFC 8259. They have all that the lines of text have.
use Rattle.std.specs.Prelude.{◌≡◌, ℕ, ℤ, List, [], ◌∷◌, ◌++◌, Option, Some, None, String, codes}
use Rattle.std.specs.Fmt.{decimal}
use Rattle.std.specs.Global.{Global}
use Rattle.std.specs.String.{string_bytes}
use Rattle.json.specs.Json.{Json, null, number, string}
use Rattle.zk_comparison.specs.Lines.{AreLines, directory_word}
use Rattle.zk_comparison.specs.declared.finding.Directory.{Directory}
use Rattle.zk_comparison.specs.declared.finding.Finding.{Finding}
use Rattle.zk_comparison.specs.declared.finding.Finding.TheVariants as findings
use Rattle.zk_comparison.specs.declared.finding.Occurrence.{Occurrence}
use Rattle.zk_comparison.specs.declared.finding.Stretch.{Stretch}
use Rattle.zk_comparison.specs.declared.objects.Side.{Side}
use Rattle.zk_incidents.specs.Histories.{op_word}
use Rattle.zk_json.specs.Json.{Fields, IsLineOf, id_of, object_of}
use Rattle.zk_json.specs.Objects.{value_of}
use Rattle.zk_json.specs.Times.{IsTimeText}
use Rattle.zk_newer_records.specs.declared.newer_record.NewerRecord.{NewerRecord}
use Rattle.zk_verification.specs.Findings.{path_of}

-- ---- times

abbrev pub IsTimeOf : Option ℤ → Json → Type 0
IsTimeOf None json = json ≡ null
IsTimeOf (Some time) json = (text : List ℕ) × IsTimeText time text × (json ≡ string text)

-- ---- transactions in a row

abbrev pub from_of : Option (Occurrence × Occurrence) → Json
from_of None = null
from_of (Some span) = id_of span.0.zxid

abbrev pub to_of : Option (Occurrence × Occurrence) → Json
to_of None = null
to_of (Some span) = id_of span.1.zxid

abbrev pub first_time : Option (Occurrence × Occurrence) → Option ℤ
first_time None = None
first_time (Some span) = span.0.time

abbrev pub last_time : Option (Occurrence × Occurrence) → Option ℤ
last_time None = None
last_time (Some span) = span.1.time

-- their kind and the directory that has them, their number, the first and the last one, and the times of both
abbrev pub stretch_fields : List ℕ → Json → ℕ → Json → Json → Json → Json → Fields
stretch_fields kind directory count from to time time' =
    (codes "kind", string kind) ∷ (codes "directory", directory) ∷ (codes "count", number (decimal count)) ∷ (codes "from", from) ∷ (codes "to", to)
    ∷ (codes "fromTime", time) ∷ (codes "toTime", time') ∷ []

abbrev pub IsStretchLine : List ℕ → Json → Stretch → List ℕ → Type 0
IsStretchLine kind directory stretch line =
    (time : Json) × (time' : Json) × IsTimeOf (first_time stretch.span) time × IsTimeOf (last_time stretch.span) time'
    × IsLineOf (object_of (stretch_fields kind directory stretch.count (from_of stretch.span) (to_of stretch.span) time time')) line

-- ---- a difference

abbrev pub path_or_null : Option (List ℕ) → Json
path_or_null None = null
path_or_null (Some path) = string path

-- what a directory has: the time, the operation, the session, and the path that it names first
pub record Values : Type 0 where
  pub time : Json
  pub kind : Json
  pub session : Json
  pub path : Json

abbrev pub time_in : Option NewerRecord → Option ℤ
time_in None = None
time_in (Some newer) = Some newer.txn.time

abbrev pub side_with : Option NewerRecord → Json → Values
side_with None time = record { time = null; kind = null; session = null; path = null }
side_with (Some newer) time = record { time = time; kind = string (op_word newer.txn.op newer.form); session = id_of newer.txn.session; path = path_or_null (path_of newer.txn.op) }

abbrev pub differing_fields : ℤ → Values → Values → Fields
differing_fields zxid first second =
    (codes "kind", string (codes "differ")) ∷ (codes "zxid", id_of zxid)
    ∷ (codes "firstTime", first.time) ∷ (codes "firstType", first.kind) ∷ (codes "firstSession", first.session) ∷ (codes "firstPath", first.path)
    ∷ (codes "secondTime", second.time) ∷ (codes "secondType", second.kind) ∷ (codes "secondSession", second.session) ∷ (codes "secondPath", second.path) ∷ []

abbrev pub IsDifferingLine : ℤ → Option NewerRecord → Option NewerRecord → List ℕ → Type 0
IsDifferingLine zxid first second line =
    (time : Json) × (time' : Json) × IsTimeOf (time_in first) time × IsTimeOf (time_in second) time'
    × IsLineOf (object_of (differing_fields zxid (side_with first time) (side_with second time'))) line

-- ---- the trees

abbrev pub holder_of : Option Directory → Json
holder_of None = null
holder_of (Some directory) = string (directory_word directory)

abbrev pub node_fields : Json → List ℕ → Fields
node_fields directory path = (codes "kind", string (codes "node")) ∷ (codes "directory", directory) ∷ (codes "path", string path) ∷ []

abbrev pub tree_fields : ℤ → ℕ → Fields
tree_fields zxid count = (codes "kind", string (codes "tree")) ∷ (codes "zxid", id_of zxid) ∷ (codes "count", number (decimal count)) ∷ []

-- ---- any finding

abbrev pub count_fields : List ℕ → ℕ → Fields
count_fields kind count = (codes "kind", string kind) ∷ (codes "count", number (decimal count)) ∷ []

abbrev pub IsFindingLine : Finding → List ℕ → Type 0
IsFindingLine (findings.Before directory stretch) line = IsStretchLine (codes "before") (string (directory_word directory)) stretch line
IsFindingLine (findings.Same stretch) line = IsStretchLine (codes "same") null stretch line
IsFindingLine (findings.Lost count) line = IsLineOf (object_of (count_fields (codes "lost") count)) line
IsFindingLine (findings.Differing zxid first second) line = IsDifferingLine zxid first second line
IsFindingLine (findings.Differences count) line = IsLineOf (object_of (count_fields (codes "differences") count)) line
IsFindingLine (findings.After directory stretch) line = IsStretchLine (codes "after") (string (directory_word directory)) stretch line
IsFindingLine (findings.Node path directory) line = IsLineOf (object_of (node_fields (holder_of directory) path)) line
IsFindingLine (findings.Tree zxid count) line = IsLineOf (object_of (tree_fields zxid count)) line

-- ---- calls within

abbrev pub AppendsFinding : Finding → List ℕ → List ℕ → Type 0
AppendsFinding finding old new = (line : List ℕ) × IsFindingLine finding line × (new ≡ old ++ line)

abbrev pub AppendsFindings : List Finding → List ℕ → List ℕ → Type 0
AppendsFindings all old new = (text : List ℕ) × AreLines IsFindingLine all text × (new ≡ old ++ text)

abbrev pub AppendsStretch : List ℕ → Json → Stretch → List ℕ → List ℕ → Type 0
AppendsStretch kind directory stretch old new = (line : List ℕ) × IsStretchLine kind directory stretch line × (new ≡ old ++ line)

-- a text, if there is one
abbrev pub text_by : Option (String Global) → Json
text_by None = null
text_by (Some text) = string (string_bytes text)

abbrev pub values_of : Side → Values
values_of side = record { time = value_of side.time; kind = value_of side.kind; session = value_of side.session; path = value_of side.path }
