-- What `zk diff --json` writes: an object for each node that differs.
use Rattle.std.specs.Prelude.{ℕ, Bool, true, List, Option, Result, Ok, Err, option_map}
use Rattle.std.specs.FinMap.{get}
use Rattle.std.specs.String.{string_bytes}
use Rattle.zk_acl.specs.declared.stat.Stat.{Stat}
use Rattle.zk_tree_changes.specs.DifferenceReports.{AreCompared, AreNotCompared}
use Rattle.zk_tree_changes.specs.Changes.{Track, stamp_at}
use Rattle.zk_tree_changes.specs.Differences.{differ_within, differing}
use Rattle.zk_tree_changes.specs.declared.stamps.Stamp.{Stamp}
use Rattle.zk_directory_state.specs.Notices.{OutputsNoticed}
use Rattle.zk_directory_state.specs.declared.notices.Noticed.{Noticed}
use Rattle.zk_directory_state.specs.declared.upto.Upto.{Upto}
use Rattle.zk_directory_state.specs.declared.fault.HistoryFault.{HistoryFault}
use Rattle.zk_json.specs.Changes.{IsChangeLine}
use Rattle.zk_json.specs.declared.changes.LastChange.{LastChange}
use Rattle.zk_json_commands.specs.Lines.{AppendsLines, AreLines}
use Rattle.zk_path.specs.declared.memory.NoMemory.{NoMemory}
use Rattle.zk_records.specs.declared.sink.Sink.{Sink}
use Rattle.zk_table.specs.States.{NodeMap, State, stat_of}
use Rattle.zk_table.specs.declared.node.Node.{Node}
use Rattle.std.specs.List.{filter}

-- ---- a line

abbrev pub last_of : Stamp → LastChange
last_of stamp = record { zxid = stamp.zxid; time = stamp.time }

-- the node at a path with its stat, if there is one
abbrev pub side_at : NodeMap → List ℕ → Option (Node × Stat)
side_at nodes path = option_map (λ node. (node, stat_of nodes path node)) (get nodes path)

-- the node before and after, and the last transaction that changed it
abbrev pub IsDifferenceLine : Track → NodeMap → NodeMap → List ℕ → List ℕ → Type 0
IsDifferenceLine changes old new path line = IsChangeLine path (option_map last_of (stamp_at changes path)) (side_at old path) (side_at new path) line

-- ---- the difference

-- of two states of a directory, at a path and below
pub record IsDifference (snapshots : Option (List (List ℕ))) (snapshot_bytes : List ℕ → Option (List ℕ)) (logs : Option (List (List ℕ))) (log_bytes : List ℕ → Option (List ℕ)) (from to : Upto) (path text notices : List ℕ) : Type 0 where
  pub old : State
  pub new : State
  pub changes : Track
  pub compared : AreCompared snapshots snapshot_bytes logs log_bytes from to old new changes notices
  pub are : AreLines (IsDifferenceLine changes old.nodes new.nodes) (differing path true old.nodes new.nodes) text

abbrev pub FindsDifference : Option (List (List ℕ)) → (List ℕ → Option (List ℕ)) → Option (List (List ℕ)) → (List ℕ → Option (List ℕ)) → Upto → Upto → List ℕ → Result Noticed HistoryFault → Type 0
FindsDifference snapshots snapshot_bytes logs log_bytes from to path (Ok noticed) = IsDifference snapshots snapshot_bytes logs log_bytes from to path (string_bytes noticed.text) (string_bytes noticed.notices)
FindsDifference snapshots snapshot_bytes logs log_bytes from to path (Err fault) = AreNotCompared snapshots snapshot_bytes logs log_bytes from to fault

-- what differs is written, or why there is no such state
pub record TellsDifference {O E : Type 0} (written : O → Option (List ℕ)) (told : E → Option (List ℕ)) (snapshots : Option (List (List ℕ))) (snapshot_bytes : List ℕ → Option (List ℕ)) (logs : Option (List (List ℕ))) (log_bytes : List ℕ → Option (List ℕ)) (from to : Upto) (path : List ℕ) (output output' : Sink O) (faults faults' : Sink E) (result : Result ℕ NoMemory) : Type 0 where
  pub answer : Result Noticed HistoryFault
  pub finds : FindsDifference snapshots snapshot_bytes logs log_bytes from to path answer
  pub outputs : OutputsNoticed written told answer output output' faults faults' result

-- ---- calls within

-- the lines at those of these paths, in the scope, at which the trees differ
abbrev pub AppendsDifferences : List ℕ → Bool → Track → NodeMap → NodeMap → List (List ℕ) → List ℕ → List ℕ → Type 0
AppendsDifferences root below changes old new paths text text' = AppendsLines (IsDifferenceLine changes old new) (filter (differ_within root below old new) paths) text text'
