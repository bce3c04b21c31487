-- Lists of transactions that are each built from some call on the tree of those before it: what a
-- leader takes. ZooKeeper Programmer's Guide, "ZNodes" and "ZooKeeper Sessions".
use Rattle.std.specs.Prelude.{◌≡◌, ℤ, List, ◌∷◌, ◌++◌, Bool, true, false, FitsSigned}
use Rattle.std.specs.Int.{w64}
use Rattle.zk_table.specs.declared.txn.Op.{Op}
use Rattle.zk_table.specs.declared.txn.Op.TheVariants.{Create, CreateOld, Delete, SetData, SetAcl, OpenSession, CloseSession, Error, Multi}
use Rattle.zk_table.specs.declared.txn.Txn.{Txn}
use Rattle.zk_table.specs.Histories.{tree_of}
use Rattle.zk_table.specs.States.{State}
use Rattle.zk_requests.specs.declared.call.Call.{Call}
use Rattle.zk_requests.specs.Requests.{meaning_of}

-- built from some call on a state, at some zxid
pub record IsPrepared (state : State) (txn : Txn) : Type 0 where
  pub call : Call
  pub zxid : ℤ
  pub is : txn ≡ meaning_of state call zxid

-- this holds of each transaction of a list, and those before it
abbrev pub OfEach : (List Txn → Txn → Type 0) → List Txn → Type 0
OfEach Holds txns = (before : List Txn) (txn : Txn) (after : List Txn) → txns ≡ before ++ txn ∷ after → Holds before txn

abbrev pub ArePrepared : List Txn → Type 0
ArePrepared txns = OfEach (λ before txn. IsPrepared (tree_of before) txn) txns

-- The transaction acts in the name of the header's session: not where that session is opened, since
-- its number is the zxid, and not for an error.
abbrev pub is_in_session : Op → Bool
is_in_session (Create path content acl ephemeral count) = true
is_in_session (CreateOld path content acl ephemeral) = true
is_in_session (Delete path) = true
is_in_session (SetData path content version) = true
is_in_session (SetAcl path acl version) = true
is_in_session (OpenSession timeout) = false
is_in_session CloseSession = true
is_in_session (Multi parts) = true
is_in_session (Error code) = false

-- these sessions are numbers of 64 bits
abbrev pub HaveSessions : List Txn → Type 0
HaveSessions txns = OfEach (λ before txn. is_in_session txn.op ≡ true → FitsSigned w64 txn.session) txns
