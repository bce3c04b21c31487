-- The report on a data directory: definitions of this project.
use Rattle.std.specs.Prelude.{◌≡◌, ℕ, ℤ, nat_eq, Bool, true, false, List, [], ◌∷◌, ◌++◌, Option, Some, None, Result, Ok, Err, codes, if◌then◌else◌}
use Rattle.std.specs.Fmt.{decimal}
use Rattle.std.specs.List.{flat_map}
use Rattle.zk_replay.specs.declared.exact.Exact.{Exact}
use Rattle.zk_replay.specs.declared.count.DigestCount.{DigestCount}
use Rattle.zk_directory_state.specs.Files.{exact_text}
use Rattle.zk_directory_state.specs.Names.{log_name, snapshot_name}
use Rattle.zk_directory_state.specs.FaultLines.{fault_line}
use Rattle.zk_directory.specs.declared.file.LogFileFault.{LogFileFault}
use Rattle.zk_directory.specs.declared.file.LogFileFault.TheVariants as log_faults
use Rattle.zk_directory.specs.declared.joint.Joint.{Joint}
use Rattle.zk_format.specs.Spelling.{id_digits, quoted}
use Rattle.zk_json.specs.Times.{IsTimeText}
use Rattle.zk_log.specs.declared.loaded.Ending.{Ending}
use Rattle.zk_log.specs.declared.loaded.Ending.TheVariants.{Whole, Padding, Torn}
use Rattle.zk_verification.specs.Helps.{has_kind, help_line, kinds}
use Rattle.zk_verification.specs.Marks.{wrong_in}
use Rattle.zk_verification.specs.declared.help.Kind.{Kind}
use Rattle.zk_verification.specs.declared.mark.Damage.{Damage}
use Rattle.zk_verification.specs.declared.mark.Facts.{Facts}
use Rattle.zk_verification.specs.declared.mark.Mark.{Mark}
use Rattle.zk_verification.specs.declared.mark.Mark.TheVariants as marks
use Rattle.zk_verification.specs.declared.mark.Mismatch.{Mismatch}
use Rattle.zk_verification.specs.declared.mark.Moment.{Moment}

-- ---- a log

abbrev pub span_text : Option (ℤ × ℤ) → List ℕ
span_text None = []
span_text (Some span) = codes " " ++ id_digits span.0 ++ codes " " ++ id_digits span.1

abbrev pub ending_text : Option Ending → List ℕ
ending_text None = []
ending_text (Some Whole) = codes " end whole"
ending_text (Some Padding) = codes " end padding"
ending_text (Some (Torn at)) = codes " end torn " ++ decimal at

unfoldable pub log_text : ℤ → ℕ → Option (ℤ × ℤ) → Option Ending → List ℕ
log_text zxid records span ending = log_name zxid ++ codes " records " ++ decimal records ++ span_text span ++ ending_text ending ++ codes "\n"

-- ---- states

-- the snapshot that they begin at, or the empty tree
abbrev pub base_text : Option ℤ → List ℕ
base_text None = codes "empty"
base_text (Some zxid) = snapshot_name zxid

-- how many digests are not those of the trees, if any is not
abbrev pub other_text : ℕ → Option ℤ → List ℕ
other_text other None = []
other_text other (Some first) = codes " otherDigest " ++ decimal other

-- up to which zxid, how many digests are those of the trees, and from which zxid on it is exact
unfoldable pub states_text : Option ℤ → Exact → ℤ → DigestCount → List ℕ
states_text snapshot exact last digests =
    base_text snapshot ++ codes " to " ++ id_digits last ++ codes " digest " ++ decimal digests.equal ++ other_text digests.other digests.first ++ codes " exact " ++ exact_text exact

unfoldable pub stopped_text : Option ℤ → List ℕ
stopped_text snapshot = base_text snapshot ++ codes " to none\n"

-- ---- transactions that are lost

-- where one is known
abbrev pub zxid_text : Option Moment → List ℕ
zxid_text None = codes "-"
zxid_text (Some moment) = id_digits moment.zxid

abbrev pub IsTimeBy : Option Moment → List ℕ → Type 0
IsTimeBy None text = text ≡ codes "-"
IsTimeBy (Some moment) text = IsTimeText moment.time text

-- the transactions before and after those that are lost, and the times of both
unfoldable pub range_text : Option Moment → Moment → List ℕ → List ℕ → List ℕ
range_text before after time time' = zxid_text before ++ codes " " ++ id_digits after.zxid ++ codes " " ++ time ++ codes " " ++ time' ++ codes "\n"

abbrev pub IsRangeText : Option Moment → Moment → List ℕ → Type 0
IsRangeText before after text = (time : List ℕ) × (time' : List ℕ) × IsTimeBy before time × IsTimeText after.time time' × (text ≡ range_text before after time time')

-- why a server reads no further
abbrev pub stop_word : Result Ending LogFileFault → List ℕ
stop_word (Ok Whole) = codes "whole"
stop_word (Ok Padding) = codes "padding"
stop_word (Ok (Torn at)) = codes "torn"
stop_word (Err log_faults.Header) = codes "G1"
stop_word (Err (log_faults.Checksum at)) = codes "G2"
stop_word (Err (log_faults.Record at)) = codes "G3"
stop_word (Err (log_faults.Order at)) = codes "G4"
stop_word (Err (log_faults.TooLong at)) = codes "G5"

-- the log, why a server stops there, and the bytes that hold no entry
unfoldable pub place_text : Damage → List ℕ
place_text damage = codes "lost " ++ log_name damage.log ++ codes " " ++ stop_word damage.stop ++ codes " " ++ decimal damage.at ++ codes " " ++ decimal damage.to ++ codes " "

-- ---- what digests show

-- the last transaction of an epoch that the logs have, and the first of the next one
abbrev pub joint_word : Bool → List ℕ
joint_word true = codes "missing "
joint_word false = codes "unproved "

unfoldable pub epoch_text : Joint → List ℕ
epoch_text joint = id_digits joint.last ++ codes " " ++ id_digits joint.next ++ codes "\n"

abbrev pub joint_text : Joint → Bool → List ℕ
joint_text joint missing = joint_word missing ++ epoch_text joint

abbrev pub path_text : Option (List ℕ) → List ℕ
path_text None = []
path_text (Some path) = codes " " ++ quoted path

unfoldable pub facts_text : Facts → List ℕ → List ℕ
facts_text facts time = codes " " ++ time ++ codes " " ++ id_digits facts.session ++ path_text facts.path

abbrev pub IsFactsText : Option Facts → List ℕ → Type 0
IsFactsText None text = text ≡ []
IsFactsText (Some facts) text = (time : List ℕ) × IsTimeText facts.time time × (text ≡ facts_text facts time)

unfoldable pub mismatch_text : ℤ → List ℕ → List ℕ
mismatch_text zxid facts = codes "otherDigest " ++ id_digits zxid ++ facts ++ codes "\n"

-- ---- all marks

-- a fault has the line of other commands
abbrev pub IsMarkText : Mark → List ℕ → Type 0
IsMarkText (marks.Log zxid records span ending) text = text ≡ log_text zxid records span ending
IsMarkText (marks.States snapshot exact last digests) text = text ≡ states_text snapshot exact last digests
IsMarkText (marks.Stopped snapshot) text = text ≡ stopped_text snapshot
IsMarkText (marks.Joint joint missing) text = text ≡ joint_text joint missing
IsMarkText (marks.Lost damage) text = (range : List ℕ) × IsRangeText damage.before damage.after range × (text ≡ place_text damage ++ range)
IsMarkText (marks.Gap before after) text = (range : List ℕ) × IsRangeText before after range × (text ≡ codes "zk: D3 " ++ range)
IsMarkText (marks.Digest mismatch) text = (facts : List ℕ) × IsFactsText mismatch.facts facts × (text ≡ mismatch_text mismatch.zxid facts)
IsMarkText (marks.Wrong fault) text = text ≡ fault_line fault

-- their lines, in order
abbrev pub AreMarkTexts : List Mark → List ℕ → Type 0
AreMarkTexts [] text = text ≡ []
AreMarkTexts (mark ∷ all) text = (line : List ℕ) × (rest : List ℕ) × IsMarkText mark line × AreMarkTexts all rest × (text ≡ line ++ rest)

abbrev pub help_text : List Mark → Kind → List ℕ
help_text all kind = if has_kind kind all then help_line kind else []

-- nothing is wrong, or n things are
unfoldable pub verdict_text : ℕ → List ℕ
verdict_text wrong = if nat_eq wrong 0 then codes "well\n" else codes "wrong " ++ decimal wrong ++ codes "\n"

pub record IsReport (all : List Mark) (text : List ℕ) : Type 0 where
  pub marked : List ℕ
  pub are_marks : AreMarkTexts all marked
  pub is : text ≡ marked ++ flat_map (help_text all) kinds ++ verdict_text (wrong_in all)

-- ---- calls within

abbrev pub AppendsMark : Mark → List ℕ → List ℕ → Type 0
AppendsMark mark old new = (text : List ℕ) × IsMarkText mark text × (new ≡ old ++ text)

abbrev pub AppendsMarks : List Mark → List ℕ → List ℕ → Type 0
AppendsMarks all old new = (text : List ℕ) × AreMarkTexts all text × (new ≡ old ++ text)

abbrev pub AppendsRange : Option Moment → Moment → List ℕ → List ℕ → Type 0
AppendsRange before after old new = (range : List ℕ) × IsRangeText before after range × (new ≡ old ++ range)
