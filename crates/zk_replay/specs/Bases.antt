-- The state that a snapshot holds: the draft of its nodes, and the table that the draft settles to.
use Rattle.std.specs.Prelude.{◌≡◌, ◌||◌, ◌&&◌, int_le, int_lt, ℕ, ℤ, pos, negsuc, List, [], ◌∷◌, Bool, true, false, Option, Some, None, Result, Ok, Err, if◌then◌else◌}
use Rattle.std.specs.FinMap.{entries, insert, empty, contains_key}
use Rattle.std.specs.Int.{w64, cast_unsigned}
use Rattle.std.specs.Option.{option_or}
use Rattle.std.specs.Ordering.{int_eq}
use Rattle.std.specs.Str.{bytes_eq}
use Rattle.zk_acl.specs.declared.acl.Acl.{Acl}
use Rattle.zk_path.specs.Paths.{parent_of}
use Rattle.zk_table.specs.declared.node.Node.{Node}
use Rattle.zk_table.specs.Nodes.{open_to_all}
use Rattle.zk_table.specs.States.{NodeMap, SessionMap, State}
use Rattle.zk_fold.specs.NodeIndexes.{can_insert}
use Rattle.zk_snapshot.specs.declared.snapshot.Access.{Access}
use Rattle.zk_snapshot.specs.declared.snapshot.Claim.{Claim}
use Rattle.zk_snapshot.specs.declared.snapshot.Contents.{Contents}
use Rattle.zk_snapshot.specs.declared.snapshot.Lease.{Lease}
use Rattle.zk_snapshot.specs.declared.snapshot.Snapshot.{Snapshot}
use Rattle.zk_snapshot.specs.declared.snapshot.Stored.{Stored}
use Rattle.zk_replay.specs.declared.draft.Draft.{Draft}
use Rattle.zk_replay.specs.declared.draft_node.DraftNode.{DraftNode}
use Rattle.zk_replay.specs.declared.exact.Exact.{Exact}
use Rattle.zk_replay.specs.declared.fault.BaseFault.{BaseFault}
use Rattle.zk_replay.specs.declared.fault.BaseFault.TheVariants as faults
use Rattle.zk_snapshot.specs.Snapshots.{slash}
use Rattle.zk_replay.specs.Drafts.{DraftMap, later, as_parent, changed}

-- ---- nodes

-- the first list with this number
unfoldable pub listed : List Access → ℤ → Option (List Acl)
listed [] number = None
listed (access ∷ accesses) number = if int_eq access.number number then Some access.acl else listed accesses number

-- the list of a number; -1 is open to all
abbrev pub acl_of : List Access → ℤ → Option (List Acl)
acl_of accesses number = if int_eq number (negsuc 0) then Some open_to_all else listed accesses number

-- a container has the owner -2^63, a node with a time to live one from -2^56 to -1: clients see
-- none
abbrev pub shown_owner : ℤ → ℤ
shown_owner owner = if int_eq owner (negsuc 9223372036854775807) || (int_le (negsuc 72057594037927935) owner && int_lt owner (pos 0)) then pos 0 else owner

-- `cversion` is stored as the number of creates
abbrev pub node_with : Stored → List Acl → Node
node_with s acl = record { content = s.kept.content; acl = acl; czxid = s.kept.moments.czxid; mzxid = s.kept.moments.mzxid; pzxid = s.kept.pzxid; ctime = s.kept.moments.ctime; mtime = s.kept.moments.mtime; version = s.kept.versions.version; creates = s.kept.versions.creates; aversion = s.kept.versions.aversion; owner = shown_owner s.kept.owner }

abbrev pub draft_with : Stored → List Acl → Bool → DraftNode
draft_with s acl lacks_acl = record { path = s.path; node = node_with s acl; raw_owner = s.kept.owner; lacks_acl = lacks_acl; had_children = false }

abbrev pub draft_found : Stored → Option (List Acl) → DraftNode
draft_found s None = draft_with s [] true
draft_found s (Some acl) = draft_with s acl false

-- a stored node; its list may come with a later transaction
abbrev pub draft_of : List Access → Stored → DraftNode
draft_of accesses s = draft_found s (acl_of accesses s.kept.access)

abbrev pub parent_marked : DraftMap → Option (List ℕ) → DraftMap
parent_marked drafts None = drafts
parent_marked drafts (Some above) = changed drafts above as_parent

abbrev pub with_stored : List Access → DraftMap → Stored → DraftMap
with_stored accesses drafts s = insert (parent_marked drafts (parent_of s.path)) s.path (draft_of accesses s)

-- the stored nodes, each at its path
unfoldable pub drafted : List Access → DraftMap → List Stored → DraftMap
drafted accesses drafts [] = drafts
drafted accesses drafts (s ∷ stored) = drafted accesses (with_stored accesses drafts s) stored

-- ---- sessions, of which the last one counts

unfoldable pub sessions_of : SessionMap → List Lease → SessionMap
sessions_of sessions [] = sessions
sessions_of sessions (lease ∷ leases) = sessions_of (insert sessions (cast_unsigned w64 lease.session) lease.timeout) leases

-- the draft of a snapshot
pub record IsDraftOf (contents : Contents) (draft : Draft) : Type 0 where
  pub nodes : draft.nodes ≡ drafted contents.accesses empty contents.nodes
  pub sessions : draft.sessions ≡ sessions_of empty contents.leases

-- ---- what a draft settles to

-- the nodes, where each has its list of access rights
unfoldable pub settled : NodeMap → List (List ℕ × DraftNode) → Option NodeMap
settled nodes [] = Some nodes
settled nodes (e ∷ es) = if e.1.lacks_acl then None else settled (insert nodes e.1.path e.1.node) es

pub record IsSettled (draft : Draft) (last : ℤ) (state : State) : Type 0 where
  pub nodes : settled empty (entries draft.nodes) ≡ Some state.nodes
  pub sessions : state.sessions ≡ draft.sessions
  pub last_zxid : state.last ≡ last

-- ---- when there is no state

-- the fault that is returned, unless allocation fails
abbrev pub IsFault : Option BaseFault → BaseFault → Type 0
IsFault fault faults.NoMemory = Unit {0}
IsFault fault failed = fault ≡ Some failed

-- a call fails if there is a fault, and with this fault, unless allocation fails
abbrev pub FailsBy : {X : Type 0} → Option BaseFault → Result X BaseFault → Type 0
FailsBy fault (Ok x) = fault ≡ None
FailsBy fault (Err failed) = IsFault fault failed

abbrev pub parent_fault : DraftMap → Option (List ℕ) → Option BaseFault
parent_fault drafts None = None
parent_fault drafts (Some above) = if contains_key drafts above then None else Some faults.Tree

-- a path occurs twice, or before its parent
abbrev pub stored_fault : DraftMap → Stored → Option BaseFault
stored_fault drafts s = if contains_key drafts s.path then Some faults.Tree else parent_fault drafts (parent_of s.path)

-- the fault of the first stored node that has one
unfoldable pub drafted_fault : List Access → DraftMap → List Stored → Option BaseFault
drafted_fault accesses drafts [] = None
drafted_fault accesses drafts (s ∷ stored) = option_or (stored_fault drafts s) (drafted_fault accesses (with_stored accesses drafts s) stored)

-- the fault of a snapshot
abbrev pub snapshot_fault : Contents → Option BaseFault
snapshot_fault contents = drafted_fault contents.accesses empty contents.nodes

-- a node's list is not known
abbrev pub list_fault : DraftNode → Option BaseFault
list_fault draft = if draft.lacks_acl then Some faults.Access else None

-- the first node is the root, which has no owner
abbrev pub root_fault : DraftNode → Option BaseFault
root_fault draft = option_or (list_fault draft) (if bytes_eq draft.path slash && int_eq draft.node.owner (pos 0) then None else Some faults.Tree)

-- each other node is below one that takes children
abbrev pub node_fault : NodeMap → DraftNode → Option BaseFault
node_fault nodes draft = option_or (list_fault draft) (if can_insert nodes draft.path then None else Some faults.Tree)

unfoldable pub nodes_fault : NodeMap → List (List ℕ × DraftNode) → Option BaseFault
nodes_fault nodes [] = None
nodes_fault nodes (e ∷ es) = option_or (node_fault nodes e.1) (nodes_fault (insert nodes e.1.path e.1.node) es)

-- the fault of the first node, in the order of paths, that has one
abbrev pub tree_fault : List (List ℕ × DraftNode) → Option BaseFault
tree_fault [] = Some faults.Tree
tree_fault (e ∷ es) = option_or (root_fault e.1) (nodes_fault (insert empty e.1.path e.1.node) es)

-- the fault of a draft
abbrev pub draft_fault : Draft → Option BaseFault
draft_fault draft = tree_fault (entries draft.nodes)

-- ---- from which zxid on a replay of the snapshot is exact

abbrev pub latest_in : ℤ → Stored → ℤ
latest_in zxid s = later (later (later zxid s.kept.moments.czxid) s.kept.moments.mzxid) s.kept.pzxid

-- the greatest zxid of the nodes
unfoldable pub latest_of : ℤ → List Stored → ℤ
latest_of zxid [] = zxid
latest_of zxid (s ∷ stored) = latest_of (latest_in zxid s) stored

-- a server that was itself started from a snapshot may claim an older zxid than its file's name
abbrev pub exact_with : ℤ → ℤ → Option Claim → Exact
exact_with zxid latest None = record { zxid = latest; is_told = false }
exact_with zxid latest (Some claim) = if int_lt claim.zxid zxid then record { zxid = latest; is_told = false } else record { zxid = later latest claim.zxid; is_told = true }

-- of a snapshot that was begun at this zxid
abbrev pub exact_from : Snapshot → ℤ → Exact
exact_from snapshot zxid = exact_with zxid (latest_of zxid snapshot.contents.nodes) snapshot.claim
