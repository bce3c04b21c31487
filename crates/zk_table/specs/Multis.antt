-- A transaction of several parts: `zookeeper.jute`, `MultiTxn`. The parts are applied in order, and
-- a rejected part changes nothing. If the server rejected a part, the log has an error in its
-- place, and no part is applied. The results of the parts in that case are this project's own rule,
-- and so is that a rejected part does not stop the others.
use Rattle.std.specs.Prelude.{ℤ, pos, List, [], ◌∷◌, None, if◌then◌else◌}
use Rattle.std.specs.List.{list_any}
use Rattle.std.specs.Ordering.{int_eq}
use Rattle.zk_table.specs.declared.result.PartResult.{PartResult}
use Rattle.zk_table.specs.declared.result.TxnResult.{TxnResult}
use Rattle.zk_table.specs.declared.sub.Sub.{Sub}
use Rattle.zk_table.specs.declared.sub.Sub.TheVariants.{Create, Delete, SetData, Check, Error}
use Rattle.zk_table.specs.declared.txn.Txn.{Txn}
use Rattle.zk_table.specs.Codes.{runtime_inconsistency}
use Rattle.zk_table.specs.Parts.{is_error, path_of, code_of}
use Rattle.zk_table.specs.Answers.{plain_answer}
use Rattle.zk_table.specs.Operations.{Done, done_unless, create, delete, set_data, told}
use Rattle.zk_table.specs.States.{NodeMap, State}

-- ---- parts that are applied

-- a part by the definition of its operation; a check passes
abbrev pub apply_part : Txn → NodeMap → Sub → Done
apply_part txn nodes (Create path content acl ephemeral count) = create nodes txn path content acl ephemeral count
apply_part txn nodes (Delete path) = delete nodes txn path
apply_part txn nodes (SetData path content version) = set_data nodes txn path content version
apply_part txn nodes (Check path version) = done_unless None nodes path nodes None
apply_part txn nodes (Error code) = record { nodes = nodes; answer = plain_answer code }

abbrev pub nodes_after : Txn → NodeMap → List Sub → NodeMap
nodes_after txn nodes [] = nodes
nodes_after txn nodes (part ∷ parts) = nodes_after txn (apply_part txn nodes part).nodes parts

abbrev pub answers_of : Txn → NodeMap → List Sub → List PartResult
answers_of txn nodes [] = []
answers_of txn nodes (part ∷ parts) = (apply_part txn nodes part).answer ∷ answers_of txn (apply_part txn nodes part).nodes parts

-- ---- parts that are not applied

-- before the first error the result is 0; after it, runtime inconsistency
abbrev pub answers_unapplied : ℤ → List Sub → List PartResult
answers_unapplied code [] = []
answers_unapplied code (part ∷ parts) =
    record { err = code_of code part; path = path_of part; stat = None } ∷ answers_unapplied (if is_error part then runtime_inconsistency else code) parts

-- ---- the transaction

-- the code of the first part that was rejected; 0 without one
abbrev pub first_refusal : List PartResult → ℤ
first_refusal [] = pos 0
first_refusal (answer ∷ answers) = if int_eq answer.err (pos 0) then first_refusal answers else answer.err

abbrev pub told_parts : State → Txn → NodeMap → List PartResult → State × TxnResult
told_parts state txn nodes answers = told txn nodes state.sessions (plain_answer (first_refusal answers)) answers

abbrev pub multi : State → Txn → List Sub → State × TxnResult
multi state txn parts =
    if list_any is_error parts then told_parts state txn state.nodes (answers_unapplied (pos 0) parts) else told_parts state txn (nodes_after txn state.nodes parts) (answers_of txn state.nodes parts)
