-- A snapshot that was written while transactions went on, and what its replay gives.
use Rattle.std.specs.Prelude.{◌≡◌, ◌⊎◌, ℕ, ℤ, pos, List, [], ◌∷◌, ◌++◌, map, take, true, Option, Some, None}
use Rattle.std.specs.FinMap.{get}
use Rattle.std.specs.Option.{option_map}
use Rattle.zk_acl.specs.declared.acl.Acl.{Acl}
use Rattle.zk_path.specs.Paths.{fault_of}
use Rattle.zk_table.specs.declared.node.Node.{Node}
use Rattle.zk_table.specs.declared.txn.Txn.{Txn}
use Rattle.zk_table.specs.Histories.{state_after, tree_of}
use Rattle.zk_table.specs.States.{State, start_state}
use Rattle.zk_newer_records.specs.declared.newer_record.NewerRecord.{NewerRecord}
use Rattle.zk_snapshot.specs.declared.snapshot.Contents.{Contents}
use Rattle.zk_snapshot.specs.declared.snapshot.Stored.{Stored}
use Rattle.zk_replay.specs.declared.draft.Draft.{Draft}
use Rattle.zk_replay.specs.declared.draft_node.DraftNode.{DraftNode}
use Rattle.zk_replay.specs.Bases.{IsDraftOf, snapshot_fault}
use Rattle.zk_replay.specs.Drafts.{DraftMap}
use Rattle.zk_directory_state.specs.States.{IsStateFrom, in_window, txn_of}
use Rattle.zk_replay_laws.specs.Histories.{Closings, Listed, Unlisted, AreInWindow, AreLogged, AreRising}

-- ---- the fields of a node

pub data Field : Type 0 where
  Content : Field
  Acls : Field
  Czxid : Field
  Mzxid : Field
  Pzxid : Field
  Ctime : Field
  Mtime : Field
  Version : Field
  Creates : Field
  Aversion : Field
  Owner : Field

abbrev pub Value : Field → Type 0
Value Content = Option (List ℕ)
Value Acls = List Acl
Value _ = ℤ

abbrev pub value : (field : Field) → Node → Value field
value Content node = node.content
value Acls node = node.acl
value Czxid node = node.czxid
value Mzxid node = node.mzxid
value Pzxid node = node.pzxid
value Ctime node = node.ctime
value Mtime node = node.mtime
value Version node = node.version
value Creates node = node.creates
value Aversion node = node.aversion
value Owner node = node.owner

-- a field of the node at a path, if there is one
abbrev pub cell : (field : Field) → Option Node → Option (Value field)
cell field node = option_map (value field) node

abbrev pub draft_cell : (field : Field) → Option DraftNode → Option (Value field)
draft_cell field draft = option_map (λ d. value field d.node) draft

-- ---- what a snapshot sees

-- the file lacks the access control list that the node refers to
abbrev pub LacksList : Field → DraftMap → List ℕ → Type 0
LacksList Acls drafts path = (draft : DraftNode) × ((get drafts path ≡ Some draft) × (draft.lacks_acl ≡ true))
LacksList _ drafts path = ⊥

-- Each field of each node, and each session, is as after some of the window's transactions. That a
-- node is absent counts as the value of each of its fields.
pub record IsSeenWithin (base : State) (window : List Txn) (draft : Draft) : Type 0 where
  pub nodes : (path : List ℕ) (field : Field) →
      LacksList field draft.nodes path
      ⊎ ((moment : ℕ) × (draft_cell field (get draft.nodes path) ≡ cell field (get (state_after base (take moment window)).nodes path)))
  pub sessions : (session : ℕ) → (moment : ℕ) × (get draft.sessions session ≡ get (state_after base (take moment window)).sessions session)

abbrev pub ArePaths : List Stored → Type 0
ArePaths [] = Unit {0}
ArePaths (stored ∷ more) = (fault_of stored.path ≡ None) × ArePaths more

-- ---- the law

-- A snapshot that was begun after some transactions, and is exact from the end of its window on.
pub record IsTakenWithin (closings : Closings) (earlier : List Txn) (records : List NewerRecord) (exact : ℤ) (contents : Contents) (draft : Draft) : Type 0 where
  pub rising : AreRising (pos 0) (earlier ++ map txn_of (in_window exact records))
  pub logged : AreLogged start_state earlier
  pub window : AreInWindow closings (tree_of earlier) (in_window exact records)
  pub paths : ArePaths contents.nodes
  pub whole : snapshot_fault contents ≡ None
  pub draft_of : IsDraftOf contents draft
  pub seen : IsSeenWithin (tree_of earlier) (map txn_of (in_window exact records)) draft

-- the state that a replay restores is the one after all transactions, if sessions that end list their nodes
abbrev pub ReplayIsExact : Type 0
ReplayIsExact = (earlier : List Txn) (records : List NewerRecord) (exact : ℤ) (contents : Contents) (draft : Draft) (state : State)
    → IsTakenWithin Listed earlier records exact contents draft
    → IsStateFrom draft (tree_of earlier).last exact records state
    → state ≡ tree_of (earlier ++ map txn_of records)

-- but for each node's zxid of children
pub record IsAlike (one other : State) : Type 0 where
  pub nodes : (path : List ℕ) (field : Field) → (field ≡ Pzxid → ⊥) → cell field (get one.nodes path) ≡ cell field (get other.nodes path)
  pub sessions : one.sessions ≡ other.sessions
  pub last : one.last ≡ other.last

-- Without lists, all is exact but the zxids of children: where the snapshot already lacks a child, the
-- end of its session leaves the parent as it is (ZOOKEEPER-3145).
abbrev pub ReplayIsExactButPzxids : Type 0
ReplayIsExactButPzxids = (earlier : List Txn) (records : List NewerRecord) (exact : ℤ) (contents : Contents) (draft : Draft) (state : State)
    → IsTakenWithin Unlisted earlier records exact contents draft
    → IsStateFrom draft (tree_of earlier).last exact records state
    → IsAlike state (tree_of (earlier ++ map txn_of records))
