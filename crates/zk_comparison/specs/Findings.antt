-- What is said of two directories, in the order of its lines.
use Rattle.std.specs.Prelude.{ℕ, ℤ, Bool, false, nat_eq, nat_lt, List, [], ◌∷◌, ◌++◌, length, map, take, Option, Some, None, if◌then◌else◌}
use Rattle.zk_comparison.specs.Comparisons.{of_kind}
use Rattle.zk_comparison.specs.Meanings.{record_of}
use Rattle.zk_comparison.specs.Pairs.{Both, zxid_of}
use Rattle.zk_comparison.specs.declared.finding.Directory.{Directory}
use Rattle.zk_comparison.specs.declared.finding.Directory.TheVariants.{First, Second}
use Rattle.zk_comparison.specs.declared.finding.Finding.{Finding}
use Rattle.zk_comparison.specs.declared.finding.Finding.TheVariants as findings
use Rattle.zk_comparison.specs.declared.finding.Occurrence.{Occurrence}
use Rattle.zk_comparison.specs.declared.finding.Stretch.{Stretch}
use Rattle.zk_comparison.specs.declared.judgement.Kind.{Kind}
use Rattle.zk_comparison.specs.declared.judgement.Kind.TheVariants as kinds
use Rattle.zk_directory.specs.Chains.{Told}
use Rattle.zk_newer_records.specs.declared.newer_record.NewerRecord.{NewerRecord}

-- ---- a transaction

abbrev pub record_in : Option Told → Option NewerRecord
record_in None = None
record_in (Some entry) = record_of entry.1

abbrev pub either_record : Option NewerRecord → Option NewerRecord → Option NewerRecord
either_record (Some newer) other = Some newer
either_record None other = other

abbrev pub time_by : Option NewerRecord → Option ℤ
time_by None = None
time_by (Some newer) = Some newer.txn.time

-- the zxid, and the time in the record of the first directory that has one
abbrev pub occurrence_of : Both → Occurrence
occurrence_of both = record { zxid = zxid_of both; time = time_by (either_record (record_in both.0) (record_in both.1)) }

-- ---- transactions in a row

-- the last of these after one
abbrev pub last_after : Both → List Both → Both
last_after both [] = both
last_after both (other ∷ all) = last_after other all

-- the first and the last one
abbrev pub span_of : List Both → Option (Occurrence × Occurrence)
span_of [] = None
span_of (both ∷ all) = Some (occurrence_of both, occurrence_of (last_after both all))

abbrev pub stretch_of : List Both → Stretch
stretch_of all = record { count = length all; span = span_of all }

abbrev pub directory_by : Option Told → Directory
directory_by (Some entry) = First
directory_by None = Second

-- the directory that has the first of these, and all of them: the other begins later, or ends earlier
abbrev pub alone_of : List Both → Option (Directory × Stretch)
alone_of [] = None
alone_of (both ∷ all) = Some (directory_by both.0, stretch_of (both ∷ all))

-- ---- the findings

abbrev pub before_by : Option (Directory × Stretch) → List Finding
before_by None = []
before_by (Some alone) = findings.Before alone.0 alone.1 ∷ []

abbrev pub after_by : Option (Directory × Stretch) → List Finding
after_by None = []
after_by (Some alone) = findings.After alone.0 alone.1 ∷ []

abbrev pub lost_by : ℕ → List Finding
lost_by count = if nat_eq count 0 then [] else findings.Lost count ∷ []

abbrev pub differing_of : Both → Finding
differing_of both = findings.Differing (zxid_of both) (record_in both.0) (record_in both.1)

-- of those that differ, the first thousand
abbrev pub most_differing : ℕ
most_differing = 1000

abbrev pub findings_of : List (Kind × Both) → List Finding
findings_of all =
    before_by (alone_of (of_kind kinds.Before all))
    ++ findings.Same (stretch_of (of_kind kinds.Same all)) ∷ []
    ++ lost_by (length (of_kind kinds.Lost all))
    ++ map differing_of (take most_differing (of_kind kinds.Differing all))
    ++ findings.Differences (length (of_kind kinds.Differing all)) ∷ []
    ++ after_by (alone_of (of_kind kinds.After all))

-- ---- whether the directories agree

-- a difference, of transactions or of the trees, or no transaction that both have
abbrev pub is_disagreement : Finding → Bool
is_disagreement (findings.Same stretch) = nat_eq stretch.count 0
is_disagreement (findings.Differences count) = nat_lt 0 count
is_disagreement (findings.Tree zxid count) = nat_lt 0 count
is_disagreement finding = false
