-- A 3.5 to 3.8 server's own table: that of 3.4, except that a closed session also deletes the nodes
-- that its record lists. ZooKeeper 3.6, `DataTree.killSession`.
use Rattle.std.specs.Prelude.{◌≡◌, ℕ, ℤ, pos, List, [], ◌∷◌, ◌||◌, Bool, map, filter}
use Rattle.std.specs.FinMap.{entries, remove}
use Rattle.std.specs.Int.{w64, cast_unsigned}
use Rattle.std.specs.List.{list_any}
use Rattle.std.specs.Str.{bytes_eq}
use Rattle.zk_newer_records.specs.declared.newer_record.Encoding.{Encoding}
use Rattle.zk_newer_records.specs.declared.newer_record.Encoding.TheVariants as forms
use Rattle.zk_newer_records.specs.declared.newer_record.NewerRecord.{NewerRecord}
use Rattle.zk_table.specs.Histories.{tree_of}
use Rattle.zk_table.specs.Operations.{told, without_all}
use Rattle.zk_table.specs.States.{NodeMap, State, start_state}
use Rattle.zk_table.specs.Steps.{step_by}
use Rattle.zk_table.specs.Answers.{plain_answer}
use Rattle.zk_table.specs.declared.node.Node.{Node}
use Rattle.zk_table.specs.declared.result.TxnResult.{TxnResult}
use Rattle.zk_table.specs.declared.txn.Op.{Op}
use Rattle.zk_table.specs.declared.txn.Op.TheVariants as ops
use Rattle.zk_table.specs.declared.txn.Txn.{Txn}
use Rattle.zk_mend.specs.Mending.{IsMended}
use Rattle.zk_mend.specs.NewerLogs.{owns}
use Rattle.zk_mend.specs.declared.mended.Mended.{Mended}

-- a node is deleted with a session that owns it, or whose record lists its path
abbrev pub goes_with : ℤ → List (List ℕ) → List ℕ × Node → Bool
goes_with session listed e = owns session e.1 || list_any (bytes_eq e.0) listed

abbrev pub going : NodeMap → ℤ → List (List ℕ) → List (List ℕ)
going nodes session listed = map (λ e. e.0) (filter (goes_with session listed) (entries nodes))

abbrev pub newer_close : State → Txn → List (List ℕ) → State × TxnResult
newer_close state txn listed =
    told txn (without_all txn state.nodes (going state.nodes txn.session listed)) (remove state.sessions (cast_unsigned w64 txn.session)) (plain_answer (pos 0)) []

abbrev pub newer_step_by : State → Txn → Op → Encoding → State × TxnResult
newer_step_by state txn ops.CloseSession (forms.ClosePaths listed) = newer_close state txn listed
newer_step_by state txn op form = step_by state txn op

-- the state after a 3.5 to 3.8 server's record, and its result
abbrev pub newer_step : State → NewerRecord → State × TxnResult
newer_step state newer = newer_step_by state newer.txn newer.txn.op newer.form

abbrev pub newer_state : State → List NewerRecord → State
newer_state state [] = state
newer_state state (newer ∷ newers) = newer_state (newer_step state newer).0 newers

-- The converted log and the original one, by the server's own table, lead to the same tree.
abbrev pub MendedTreeIsTheServers : Type 0
MendedTreeIsTheServers = (bytes : List ℕ) (mended : Mended) (is : IsMended bytes mended) → tree_of mended.journal ≡ newer_state start_state is.entries.newers
