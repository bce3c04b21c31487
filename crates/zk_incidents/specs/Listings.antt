-- The lines of `zk history -r /`: one for each transaction that changes the tree.
use Rattle.std.specs.Prelude.{◌≡◌, ◌≢◌, ℕ, true, nat_eq, List, [], ◌∷◌, ◌++◌, codes}
use Rattle.std.specs.List.{AllByRecursion, starts_with}
use Rattle.zk_incidents.specs.Histories.{IsHistoryFrom, IsLineBy}
use Rattle.zk_incidents.specs.Owners.{Owned, closed, owned_after, touched}
use Rattle.zk_newer_records.specs.declared.newer_record.NewerRecord.{NewerRecord}
use Rattle.zk_table.specs.States.{State, owned_by}
use Rattle.zk_table.specs.Steps.{step}
use Rattle.zk_table.specs.declared.txn.Op.{Op}
use Rattle.zk_table.specs.declared.txn.Op.TheVariants as ops

abbrev pub after : State → NewerRecord → State
after state newer = (step state newer.txn).0

-- there is another tree after it
abbrev pub Changes : State → NewerRecord → Type 0
Changes state newer = (after state newer).nodes ≢ state.nodes

-- the line of a record: its time, zxid, operation and session, and one path or more
abbrev pub IsLineOf : NewerRecord → List ℕ → Type 0
IsLineOf newer line = (path : List ℕ) × (paths : List (List ℕ)) × IsLineBy true newer (path ∷ paths) line

-- a line for each record, in order; that of one that changes the tree is not empty
abbrev pub ListsChanges : State → List NewerRecord → List ℕ → Type 0
ListsChanges state [] text = text ≡ []
ListsChanges state (newer ∷ records) text =
    (line : List ℕ) × (rest : List ℕ) × (Changes state newer → IsLineOf newer line) × ListsChanges (after state newer) records rest × (text ≡ line ++ rest)

-- ---- what is assumed of records

abbrev pub begins_with_slash : List ℕ → Type 0
begins_with_slash path = starts_with nat_eq path (codes "/") ≡ true

-- the end of a session is known to delete the nodes that the session owns
abbrev pub KnowsOwners : State → Owned → NewerRecord → Op → Type 0
KnowsOwners state owned newer ops.CloseSession = closed owned newer ≡ owned_by state.nodes newer.txn.session
KnowsOwners state owned newer op = Unit {0}

abbrev pub AreKnown : State → Owned → List NewerRecord → Type 0
AreKnown state owned [] = Unit {0}
AreKnown state owned (newer ∷ records) =
    AllByRecursion begins_with_slash (touched owned newer) × KnowsOwners state owned newer newer.txn.op × AreKnown (after state newer) (owned_after owned newer) records

-- ---- the law

abbrev pub EachChangeHasALine : Type 0
EachChangeHasALine = (state : State) (owned : Owned) (records : List NewerRecord) (text : List ℕ) → AreKnown state owned records → IsHistoryFrom (codes "/") true owned records text → ListsChanges state records text
