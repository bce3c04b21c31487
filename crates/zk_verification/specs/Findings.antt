-- What the digests of records say of the logs. A digest that is not that of its tree has one of two
-- causes: transactions at the end of an epoch are in no log, or the server's tree is not its leader's.
-- Only digests show that the end of an epoch is missing: servers leave no other trace of it.
use Rattle.std.specs.Prelude.{◌≡◌, ℕ, ℤ, Bool, true, false, ◌&&◌, not, int_le, int_lt, List, [], ◌∷◌, ◌++◌, filter, find, fold, map, Option, Some, None, if◌then◌else◌}
use Rattle.std.specs.List.{list_any}
use Rattle.std.specs.Ordering.{int_eq}
use Rattle.zk_directory.specs.Chains.{History, Told, is_zxid}
use Rattle.zk_directory.specs.Joints.{is_proved, joints_of}
use Rattle.zk_directory.specs.declared.joint.Joint.{Joint}
use Rattle.zk_newer_records.specs.NewerRecords.{IsNewer}
use Rattle.zk_newer_records.specs.declared.newer_record.NewerRecord.{NewerRecord}
use Rattle.zk_table.specs.Parts.{path_of as part_path}
use Rattle.zk_table.specs.declared.sub.Sub.{Sub}
use Rattle.zk_table.specs.declared.txn.Op.{Op}
use Rattle.zk_table.specs.declared.txn.Op.TheVariants as ops
use Rattle.zk_table.specs.declared.txn.Txn.{Txn}
use Rattle.zk_verification.specs.declared.findings.Doubt.{Doubt}
use Rattle.zk_verification.specs.declared.mark.Mark.{Mark}
use Rattle.zk_verification.specs.declared.mark.Mark.TheVariants as marks
use Rattle.zk_verification.specs.declared.mark.Facts.{Facts}
use Rattle.zk_verification.specs.declared.mark.Mismatch.{Mismatch}

-- ---- the first digest that is not that of its tree

-- up to where the digests are those of the trees: the last such record before the first other one, or
-- else the snapshot
abbrev pub known_before : Option ℤ → ℤ → Option ℤ → Option ℤ
known_before snapshot first None = snapshot
known_before snapshot first (Some proved) = if int_lt proved first then Some proved else snapshot

abbrev pub doubt_by : Option ℤ → Option ℤ → Option ℤ → Option Doubt
doubt_by snapshot None proved = None
doubt_by snapshot (Some first) proved = Some (record { known = known_before snapshot first proved; zxid = first })

abbrev pub doubt_of : Mark → Option Doubt
doubt_of (marks.States snapshot exact last digests) = doubt_by snapshot digests.first digests.last
doubt_of mark = None

abbrev pub earlier_doubt : Option Doubt → Option Doubt → Option Doubt
earlier_doubt None other = other
earlier_doubt (Some doubt) None = Some doubt
earlier_doubt (Some doubt) (Some other) = if int_lt other.zxid doubt.zxid then Some other else Some doubt

abbrev pub doubt_after : Option Doubt → Mark → Option Doubt
doubt_after doubt mark = earlier_doubt doubt (doubt_of mark)

-- the first of all states
abbrev pub first_doubt : List Mark → Option Doubt
first_doubt states = fold doubt_after None states

-- ---- where an epoch follows another

abbrev pub is_above : Option ℤ → ℤ → Bool
is_above None zxid = true
is_above (Some before) zxid = int_lt before zxid

-- states lead from an epoch to the next
abbrev pub covers : Joint → Mark → Bool
covers joint (marks.States snapshot exact last digests) = is_above snapshot joint.next && int_le joint.next last
covers joint mark = false

-- a digest after it is that of its tree, and so is the first one if there is one
abbrev pub proves : Joint → Mark → Bool
proves joint (marks.States snapshot exact last digests) = covers joint (marks.States snapshot exact last digests) && is_proved digests.last joint.next && not (is_zxid digests.first joint.next)
proves joint mark = false

abbrev pub is_open : List Mark → Joint → Bool
is_open states joint = list_any (covers joint) states && not (list_any (proves joint) states)

-- the digests are those of the trees up to some place before it, and no more after it
abbrev pub explains : Doubt → Joint → Bool
explains doubt joint = is_above doubt.known joint.next && int_le joint.next doubt.zxid

abbrev pub cause_of : Option Doubt → List Joint → Option Joint
cause_of None joints = None
cause_of (Some doubt) joints = find (explains doubt) joints

abbrev pub is_cause : Option Joint → Joint → Bool
is_cause None joint = false
is_cause (Some cause) joint = int_eq cause.next joint.next

abbrev pub joint_mark : Option Joint → Joint → Mark
joint_mark cause joint = marks.Joint joint (is_cause cause joint)

-- ---- the record

-- of a multi, the first part's
abbrev pub first_path : List Sub → Option (List ℕ)
first_path [] = None
first_path (part ∷ parts) = part_path part

-- the path that an operation names
abbrev pub path_of : Op → Option (List ℕ)
path_of (ops.Create path content acl ephemeral count) = Some path
path_of (ops.CreateOld path content acl ephemeral) = Some path
path_of (ops.Delete path) = Some path
path_of (ops.SetData path content version) = Some path
path_of (ops.SetAcl path acl version) = Some path
path_of (ops.OpenSession timeout) = None
path_of ops.CloseSession = None
path_of (ops.Multi parts) = first_path parts
path_of (ops.Error code) = None

abbrev pub facts_of : Txn → Facts
facts_of txn = record { time = txn.time; session = txn.session; path = path_of txn.op }

abbrev pub has_zxid : ℤ → Told → Bool
has_zxid zxid entry = int_eq entry.0 zxid

-- what the entry's record says
abbrev pub AreFactsOf : Option Told → Option Facts → Type 0
AreFactsOf None facts = facts ≡ None
AreFactsOf (Some entry) (Some facts) = (newer : NewerRecord) × IsNewer entry.1 newer × (facts ≡ facts_of newer.txn)
AreFactsOf (Some entry) None = (newer : NewerRecord) → ¬ IsNewer entry.1 newer

abbrev pub AreFactsAt : History → ℤ → Option Facts → Type 0
AreFactsAt history zxid facts = AreFactsOf (find (has_zxid zxid) history.taken) facts

-- ---- all

-- a digest that no joint explains is one of another tree
abbrev pub IsOtherTree : History → Option Doubt → Option Joint → List Mark → Type 0
IsOtherTree history None cause found = found ≡ []
IsOtherTree history (Some doubt) (Some cause) found = found ≡ []
IsOtherTree history (Some doubt) None found =
    (facts : Option Facts) × AreFactsAt history doubt.zxid facts × (found ≡ marks.Digest (record { zxid = doubt.zxid; facts = facts }) ∷ [])

abbrev pub open_in : History → List Mark → List Joint
open_in history states = filter (is_open states) (joints_of history None)

abbrev pub cause_in : History → List Mark → Option Joint
cause_in history states = cause_of (first_doubt states) (open_in history states)

-- each place at which the end of an epoch may be missing, or is; and the tree, if it is another
abbrev pub AreFound : History → List Mark → List Mark → Type 0
AreFound history states found =
    (tree : List Mark) × IsOtherTree history (first_doubt states) (cause_in history states) tree × (found ≡ map (joint_mark (cause_in history states)) (open_in history states) ++ tree)

-- ---- calls within

abbrev pub AddsTree : History → Option Doubt → Option Joint → List Mark → List Mark → Type 0
AddsTree history doubt cause old new = (tree : List Mark) × IsOtherTree history doubt cause tree × (new ≡ old ++ tree)
