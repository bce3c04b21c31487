-- What follows for prepared transactions: ZooKeeper Programmer's Guide, "Ephemeral Nodes";
-- `zookeeper.jute`, `MultiTxn`.
use Rattle.std.specs.Prelude.{◌≡◌, ◌≢◌, ℕ, ℤ, pos, List, Bool, true, false, Some, length, ◌⊎◌}
use Rattle.std.specs.List.{AllByRecursion, list_any}
use Rattle.zk_table.specs.declared.sub.Sub.{Sub}
use Rattle.zk_table.specs.declared.txn.Op.{Op}
use Rattle.zk_table.specs.declared.txn.Op.TheVariants.{Create, CreateOld, Delete, SetData, SetAcl, OpenSession, CloseSession, Error, Multi}
use Rattle.zk_table.specs.declared.txn.Txn.{Txn}
use Rattle.zk_table.specs.Parts.{is_error}
use Rattle.zk_table.specs.Multis.{nodes_after}
use Rattle.zk_table.specs.States.{State}
use Rattle.zk_table.specs.Steps.{step}
use Rattle.zk_tree.specs.Trees.{owner_at}
use Rattle.zk_requests.specs.Requests.{is_open}

-- ---- errors of the table

-- an error, or a multi that holds one
abbrev pub has_error : Op → Bool
has_error (Create path content acl ephemeral count) = false
has_error (CreateOld path content acl ephemeral) = false
has_error (Delete path) = false
has_error (SetData path content version) = false
has_error (SetAcl path acl version) = false
has_error (OpenSession timeout) = false
has_error CloseSession = false
has_error (Multi parts) = list_any is_error parts
has_error (Error code) = true

-- the table rejects it only if it is an error, or a multi that holds one
abbrev pub IsRefusedOnlyAsError : State → Txn → Type 0
IsRefusedOnlyAsError state txn = (step state txn).1.err ≢ pos 0 → has_error txn.op ≡ true

-- ---- multis

-- no part is an error, and each one is applied
pub record IsWhole (state : State) (txn : Txn) (parts : List Sub) : Type 0 where
  pub no_error : list_any is_error parts ≡ false
  pub nodes : (step state txn).0.nodes ≡ nodes_after txn state.nodes parts
  pub sessions : (step state txn).0.sessions ≡ state.sessions
  pub answers : length (step state txn).1.parts ≡ length parts
  pub applied : AllByRecursion (λ answer. answer.err ≡ pos 0) (step state txn).1.parts

-- a part is an error, and nodes and sessions stay unchanged
pub record IsNothing (state : State) (txn : Txn) (parts : List Sub) : Type 0 where
  pub error : list_any is_error parts ≡ true
  pub nodes : (step state txn).0.nodes ≡ state.nodes
  pub sessions : (step state txn).0.sessions ≡ state.sessions

abbrev pub IsWholeOrNothing : State → Txn → Type 0
IsWholeOrNothing state txn = (parts : List Sub) → txn.op ≡ Multi parts → IsWhole state txn parts ⊎ IsNothing state txn parts

-- ---- owners

-- a node's owner is an open session
abbrev pub HasOpenOwners : State → Type 0
HasOpenOwners state = (path : List ℕ) (owner : ℤ) → owner_at state.nodes path ≡ Some owner → owner ≢ pos 0 → is_open state owner ≡ true
