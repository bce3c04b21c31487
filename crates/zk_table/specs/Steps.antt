-- The effect of each transaction on a state, and its result: `zookeeper.jute`, module
-- `org.apache.zookeeper.txn`, as the 3.4 server applies its log. A rejected transaction changes
-- nothing but the last zxid.
use Rattle.std.specs.Prelude.{ℤ, pos, negsuc, []}
use Rattle.std.specs.Int.{w64, cast_unsigned}
use Rattle.std.specs.FinMap.{insert, remove}
use Rattle.zk_table.specs.declared.result.TxnResult.{TxnResult}
use Rattle.zk_table.specs.declared.txn.Op.{Op}
use Rattle.zk_table.specs.declared.txn.Op.TheVariants.{Create, CreateOld, Delete, SetData, SetAcl, OpenSession, CloseSession, Error, Multi}
use Rattle.zk_table.specs.declared.txn.Txn.{Txn}
use Rattle.zk_table.specs.Answers.{plain_answer}
use Rattle.zk_table.specs.Multis.{multi}
use Rattle.zk_table.specs.Operations.{create, delete, set_data, set_acl, without_all, told}
use Rattle.zk_table.specs.States.{State, owned_by}
pub use Rattle.zk_table.specs.Operations.{Done}

-- an operation on nodes leaves the sessions unchanged
abbrev pub on_nodes : State → Txn → Done → State × TxnResult
on_nodes state txn d = told txn d.nodes state.sessions d.answer []

-- a session that is already open gets the new timeout
abbrev pub open_session : State → Txn → ℤ → State × TxnResult
open_session state txn timeout = told txn state.nodes (insert state.sessions (cast_unsigned w64 txn.session) timeout) (plain_answer (pos 0)) []

-- deletes the nodes that the session owns, and removes the session if it is open
abbrev pub close_session : State → Txn → State × TxnResult
close_session state txn =
    told txn (without_all txn state.nodes (owned_by state.nodes txn.session)) (remove state.sessions (cast_unsigned w64 txn.session)) (plain_answer (pos 0)) []

abbrev pub step_by : State → Txn → Op → State × TxnResult
step_by state txn (Create path content acl ephemeral count) = on_nodes state txn (create state.nodes txn path content acl ephemeral count)
step_by state txn (CreateOld path content acl ephemeral) = on_nodes state txn (create state.nodes txn path content acl ephemeral (negsuc 0))
step_by state txn (Delete path) = on_nodes state txn (delete state.nodes txn path)
step_by state txn (SetData path content version) = on_nodes state txn (set_data state.nodes txn path content version)
step_by state txn (SetAcl path acl version) = on_nodes state txn (set_acl state.nodes path acl version)
step_by state txn (OpenSession timeout) = open_session state txn timeout
step_by state txn CloseSession = close_session state txn
step_by state txn (Multi parts) = multi state txn parts
step_by state txn (Error code) = told txn state.nodes state.sessions (plain_answer code) []

-- the state after a transaction, and its result
abbrev pub step : State → Txn → State × TxnResult
step state txn = step_by state txn txn.op
