-- The nodes of a snapshot while the snapshot's window is replayed: each was seen at some moment of
-- the window.
use Rattle.std.specs.Prelude.{ℕ, ℤ, pos, List, [], ◌∷◌, ◌++◌, Bool, true, false, Option, Some, None, nat_eq, int_lt, if◌then◌else◌}
use Rattle.std.specs.Borrow.{Bor}
use Rattle.std.specs.FinMap.{FinMap, entries, get, insert, remove}
use Rattle.std.specs.List.{starts_with}
use Rattle.std.specs.Ordering.{int_eq}
use Rattle.zk_acl.specs.declared.acl.Acl.{Acl}
use Rattle.zk_table.specs.declared.node.Node.{Node}
use Rattle.zk_table.specs.declared.txn.Txn.{Txn}
use Rattle.zk_table.specs.Nodes as nodes
use Rattle.zk_table.specs.States.{path_cmp}
use Rattle.zk_replay.specs.declared.draft_node.DraftNode.{DraftNode}

abbrev pub DraftMap : Type 0
DraftMap = FinMap path_cmp DraftNode

-- an entry, from a borrowed path and a borrowed node
abbrev pub entry_of : Bor (List ℕ) × Bor DraftNode → List ℕ × DraftNode
entry_of e = (e.0.now, e.1.now)

-- ---- one node

abbrev pub later : ℤ → ℤ → ℤ
later one other = if int_lt one other then other else one

-- a node that a transaction of the window creates
abbrev pub fresh : List ℕ → Node → DraftNode
fresh path node = record { path = path; node = node; raw_owner = node.owner; lacks_acl = false; had_children = false }

-- the parent of a created node: its count is the transaction's, and its pzxid never falls
abbrev pub with_child : ℤ → ℤ → DraftNode → DraftNode
with_child zxid count draft = record draft { node = nodes.with_child (later draft.node.pzxid zxid) count draft.node; had_children = true }

-- the parent of a deleted node: its pzxid never falls
abbrev pub without_child : ℤ → DraftNode → DraftNode
without_child zxid draft = record draft { node = nodes.without_child (later draft.node.pzxid zxid) draft.node }

abbrev pub written : Txn → Option (List ℕ) → ℤ → DraftNode → DraftNode
written txn content version draft = record draft { node = nodes.written txn content version draft.node }

abbrev pub guarded : List Acl → ℤ → DraftNode → DraftNode
guarded acl version draft = record draft { node = nodes.guarded acl version draft.node; lacks_acl = false }

abbrev pub as_parent : DraftNode → DraftNode
as_parent draft = record draft { had_children = true }

-- ---- all nodes

abbrev pub changed_found : DraftMap → List ℕ → (DraftNode → DraftNode) → Option DraftNode → DraftMap
changed_found drafts path change None = drafts
changed_found drafts path change (Some draft) = insert drafts path (change draft)

-- changes the node at a path, if there is one
abbrev pub changed : DraftMap → List ℕ → (DraftNode → DraftNode) → DraftMap
changed drafts path change = changed_found drafts path change (get drafts path)

-- the paths that begin with a prefix, in order
abbrev pub starting_in : List ℕ → List (List ℕ × DraftNode) → List (List ℕ)
starting_in prefix [] = []
starting_in prefix (e ∷ es) = if starts_with nat_eq e.1.path prefix then e.1.path ∷ starting_in prefix es else starting_in prefix es

unfoldable pub remove_all : DraftMap → List (List ℕ) → DraftMap
remove_all drafts [] = drafts
remove_all drafts (path ∷ paths) = remove_all (remove drafts path) paths

-- the nodes without those below a path
abbrev pub without_below : DraftMap → List ℕ → DraftMap
without_below drafts path = remove_all drafts (starting_in (path ++ 47 ∷ []) (entries drafts))

abbrev pub had_children : Option DraftNode → Bool
had_children None = false
had_children (Some draft) = draft.had_children

-- the node at a path is deleted, with all below it
abbrev pub removed : DraftMap → List ℕ → DraftMap
removed drafts path = if had_children (get drafts path) then without_below (remove drafts path) path else remove drafts path

abbrev pub owned_in : ℤ → List (List ℕ × DraftNode) → List (List ℕ)
owned_in session [] = []
owned_in session (e ∷ es) = if int_eq e.1.node.owner session then e.1.path ∷ owned_in session es else owned_in session es

-- the paths of the nodes that a session owns, in order; session 0 owns none
abbrev pub owned_by : DraftMap → ℤ → List (List ℕ)
owned_by drafts session = if int_eq session (pos 0) then [] else owned_in session (entries drafts)
