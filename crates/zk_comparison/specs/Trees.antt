-- The trees of two directories, after the last transaction of the range in common.
use Rattle.std.specs.Prelude.{◌≡◌, ◌⊎◌, ℕ, ℤ, Bool, true, false, List, [], ◌∷◌, ◌++◌, length, map, take, Option, Some, None, Result, Ok, Err, codes}
use Rattle.std.specs.FinMap.{get}
use Rattle.std.specs.List.{filter}
use Rattle.std.specs.String.{string_bytes}
use Rattle.zk_comparison.specs.Findings.{most_differing}
use Rattle.zk_comparison.specs.Notices.{front_of}
use Rattle.zk_comparison.specs.Sources.{Source}
use Rattle.zk_comparison.specs.declared.finding.Directory.{Directory}
use Rattle.zk_comparison.specs.declared.finding.Directory.TheVariants.{First, Second}
use Rattle.zk_comparison.specs.declared.finding.Finding.{Finding}
use Rattle.zk_comparison.specs.declared.finding.Finding.TheVariants as findings
use Rattle.zk_comparison.specs.declared.trees.Sight.{Sight}
use Rattle.zk_comparison.specs.declared.trees.Trees.{Trees}
use Rattle.zk_directory_state.specs.FaultLines.{fault_text}
use Rattle.zk_directory_state.specs.Histories.{Holds}
use Rattle.zk_directory_state.specs.Notices.{notices_of}
use Rattle.zk_directory_state.specs.declared.fault.HistoryFault.{HistoryFault}
use Rattle.zk_directory_state.specs.declared.fault.HistoryFault.TheVariants as faults
use Rattle.zk_directory_state.specs.declared.history.Shown.{Shown}
use Rattle.zk_directory_state.specs.declared.upto.Upto.TheVariants.{Zxid}
use Rattle.zk_machine.specs.Machines.{MachineView}
use Rattle.zk_table.specs.States.{NodeMap}
use Rattle.zk_table.specs.declared.node.Node.{Node}
use Rattle.zk_tree_changes.specs.Differences.{differ_at, paths_of, texts_of}

-- ---- two trees

-- the paths of what differs, in order
abbrev pub differing_paths : NodeMap → NodeMap → List (List ℕ)
differing_paths first second = filter (differ_at first second) (texts_of (paths_of first second))

-- the directory that alone has the node; none if both have it
abbrev pub alone_by : Option Node → Option Node → Option Directory
alone_by (Some node) None = Some First
alone_by None (Some node) = Some Second
alone_by first second = None

abbrev pub node_at : NodeMap → NodeMap → List ℕ → Finding
node_at first second path = findings.Node path (alone_by (get first path) (get second path))

-- the first thousand nodes that differ, and the number of all
abbrev pub tree_findings : ℤ → NodeMap → NodeMap → List Finding
tree_findings zxid first second =
    map (node_at first second) (take most_differing (differing_paths first second))
    ++ findings.Tree zxid (length (differing_paths first second)) ∷ []

-- ---- what a directory proves

-- the state after a transaction, as `zk show` prints it, or why there is none
abbrev pub Sees : Source → ℤ → Result Shown HistoryFault → Type 0
Sees source zxid answer = Holds source.snapshots source.snapshot_bytes source.logs source.bytes_in (Zxid zxid) answer

abbrev pub nodes_by : Result Shown HistoryFault → Option NodeMap
nodes_by (Ok shown) = Some shown.restored.table.state.nodes
nodes_by (Err fault) = None

-- the notices on the state, or that there is none
abbrev pub tree_notices : Directory → ℤ → Result Shown HistoryFault → List ℕ
tree_notices directory zxid (Ok shown) = notices_of (Zxid zxid) shown.restored
tree_notices directory zxid (Err fault) = front_of (codes "tree") directory ++ fault_text fault ++ codes "\n"

-- a file or a folder that the state rests on cannot be read, or allocation failed
abbrev pub is_unread : HistoryFault → Bool
is_unread (faults.Unreadable file) = true
is_unread faults.Read = true
is_unread faults.NoMemory = true
is_unread fault = false

abbrev pub IsUnseen : Source → ℤ → HistoryFault → Type 0
IsUnseen source zxid fault = (is_unread fault ≡ true) × Sees source zxid (Err fault)

-- ---- both

-- of two states; nothing is said if there is only one
abbrev pub trees_by : ℤ → Option NodeMap → Option NodeMap → List Finding
trees_by zxid (Some first) (Some second) = tree_findings zxid first second
trees_by zxid first second = []

pub record AreTrees (first second : Source) (zxid : ℤ) (said : List Finding) (notices : List ℕ) : Type 0 where
  pub ours : Result Shown HistoryFault
  pub theirs : Result Shown HistoryFault
  pub sees_ours : Sees first zxid ours
  pub sees_theirs : Sees second zxid theirs
  pub are : said ≡ trees_by zxid (nodes_by ours) (nodes_by theirs)
  pub are_notices : notices ≡ tree_notices First zxid ours ++ tree_notices Second zxid theirs

-- after the last transaction of the range in common
abbrev pub AreTreesAt : Source → Source → Option ℤ → List Finding → List ℕ → Type 0
AreTreesAt first second None said notices = (said ≡ []) × (notices ≡ [])
AreTreesAt first second (Some zxid) said notices = AreTrees first second zxid said notices

-- the fault keeps the trees there from being compared
abbrev pub AreUnseenAt : Source → Source → Option ℤ → HistoryFault → Type 0
AreUnseenAt first second None fault = ⊥
AreUnseenAt first second (Some zxid) fault = IsUnseen first zxid fault ⊎ IsUnseen second zxid fault

-- ---- calls within

abbrev pub nodes_in : Option MachineView → Option NodeMap
nodes_in None = None
nodes_in (Some machine) = Some machine.state.nodes

abbrev pub IsWhole : Option MachineView → Type 0
IsWhole None = Unit {0}
IsWhole (Some machine) = machine.failed ≡ false

pub record IsSight (directory : Directory) (zxid : ℤ) (answer : Result Shown HistoryFault) (sight : Sight) : Type 0 where
  pub are_nodes : nodes_in sight.machine ≡ nodes_by answer
  pub is_whole : IsWhole sight.machine
  pub are_notices : string_bytes sight.notices ≡ tree_notices directory zxid answer

pub record IsSightOf (source : Source) (directory : Directory) (zxid : ℤ) (sight : Sight) : Type 0 where
  pub answer : Result Shown HistoryFault
  pub sees : Sees source zxid answer
  pub is : IsSight directory zxid answer sight

-- unless a file could not be read
abbrev pub FindsSight : Source → Directory → ℤ → Result Sight HistoryFault → Type 0
FindsSight source directory zxid (Ok sight) = IsSightOf source directory zxid sight
FindsSight source directory zxid (Err fault) = IsUnseen source zxid fault

-- the same of both
abbrev pub FindsTrees : Source → Source → Option ℤ → Result Trees HistoryFault → Type 0
FindsTrees first second end (Ok trees) = AreTreesAt first second end trees.findings.items (string_bytes trees.notices)
FindsTrees first second end (Err fault) = AreUnseenAt first second end fault
