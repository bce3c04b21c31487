-- A transaction as a JSON object. The fields have the names of `zookeeper.jute`: TxnHeader, and the
-- records of its operations.
use Rattle.std.specs.Prelude.{◌≡◌, ℕ, ℤ, Bool, List, [], ◌∷◌, ◌++◌, map, codes, Option}
use Rattle.json.specs.Json.{Json, boolean, string}
use Rattle.zk_acl.specs.declared.acl.Acl.{Acl}
use Rattle.zk_json.specs.Times.{IsTimeText}
use Rattle.zk_table.specs.declared.sub.Sub.{Sub}
use Rattle.zk_table.specs.declared.sub.Sub.TheVariants as subs
use Rattle.zk_table.specs.declared.txn.Op.{Op}
use Rattle.zk_table.specs.declared.txn.Op.TheVariants as ops
use Rattle.zk_table.specs.declared.txn.Txn.{Txn}
use Rattle.zk_json.specs.Json.{Fields, acl_of, array_of, content_fields, id_of, IsLineOf, number_of, object_of}

-- ---- operations

-- the content and the access rights of a new node
abbrev pub new_node_fields : Option (List ℕ) → List Acl → Bool → Fields
new_node_fields content acl ephemeral = content_fields content ++ (codes "acl", acl_of acl) ∷ (codes "ephemeral", boolean ephemeral) ∷ []

abbrev pub create_fields : List ℕ → Option (List ℕ) → List Acl → Bool → ℤ → Fields
create_fields path content acl ephemeral count = (codes "type", string (codes "create")) ∷ (codes "path", string path) ∷ new_node_fields content acl ephemeral ++ (codes "parentCVersion", number_of count) ∷ []

-- as 3.3 servers logged it
abbrev pub create_old_fields : List ℕ → Option (List ℕ) → List Acl → Bool → Fields
create_old_fields path content acl ephemeral = (codes "type", string (codes "create0")) ∷ (codes "path", string path) ∷ new_node_fields content acl ephemeral

abbrev pub delete_fields : List ℕ → Fields
delete_fields path = (codes "type", string (codes "delete")) ∷ (codes "path", string path) ∷ []

abbrev pub set_data_fields : List ℕ → Option (List ℕ) → ℤ → Fields
set_data_fields path content version = (codes "type", string (codes "setData")) ∷ (codes "path", string path) ∷ content_fields content ++ (codes "version", number_of version) ∷ []

abbrev pub set_acl_fields : List ℕ → List Acl → ℤ → Fields
set_acl_fields path acl version = (codes "type", string (codes "setACL")) ∷ (codes "path", string path) ∷ (codes "acl", acl_of acl) ∷ (codes "version", number_of version) ∷ []

abbrev pub check_fields : List ℕ → ℤ → Fields
check_fields path version = (codes "type", string (codes "check")) ∷ (codes "path", string path) ∷ (codes "version", number_of version) ∷ []

abbrev pub error_fields : ℤ → Fields
error_fields code = (codes "type", string (codes "error")) ∷ (codes "err", number_of code) ∷ []

abbrev pub open_session_fields : ℤ → Fields
open_session_fields timeout = (codes "type", string (codes "createSession")) ∷ (codes "timeout", number_of timeout) ∷ []

-- a part of a multi
abbrev pub part_fields : Sub → Fields
part_fields (subs.Create path content acl ephemeral count) = create_fields path content acl ephemeral count
part_fields (subs.Delete path) = delete_fields path
part_fields (subs.SetData path content version) = set_data_fields path content version
part_fields (subs.Check path version) = check_fields path version
part_fields (subs.Error code) = error_fields code

abbrev pub part_of : Sub → Json
part_of part = object_of (part_fields part)

abbrev pub multi_fields : List Sub → Fields
multi_fields parts = (codes "type", string (codes "multi")) ∷ (codes "ops", array_of (map part_of parts)) ∷ []

abbrev pub op_fields : Op → Fields
op_fields (ops.Create path content acl ephemeral count) = create_fields path content acl ephemeral count
op_fields (ops.CreateOld path content acl ephemeral) = create_old_fields path content acl ephemeral
op_fields (ops.Delete path) = delete_fields path
op_fields (ops.SetData path content version) = set_data_fields path content version
op_fields (ops.SetAcl path acl version) = set_acl_fields path acl version
op_fields (ops.OpenSession timeout) = open_session_fields timeout
op_fields ops.CloseSession = (codes "type", string (codes "closeSession")) ∷ []
op_fields (ops.Error code) = error_fields code
op_fields (ops.Multi parts) = multi_fields parts

-- ---- transactions

-- with the text of its time
abbrev pub record_fields : List ℕ → Txn → Fields
record_fields time txn = (codes "zxid", id_of txn.zxid) ∷ (codes "time", string time) ∷ (codes "session", id_of txn.session) ∷ (codes "cxid", number_of txn.cxid) ∷ op_fields txn.op

abbrev pub record_of : List ℕ → Txn → Json
record_of time txn = object_of (record_fields time txn)

-- a transaction's line
abbrev pub IsRecordLine : Txn → List ℕ → Type 0
IsRecordLine txn line = (time : List ℕ) × IsTimeText txn.time time × IsLineOf (record_of time txn) line

abbrev pub AppendsRecordLine : Txn → List ℕ → List ℕ → Type 0
AppendsRecordLine txn old new = (line : List ℕ) × IsRecordLine txn line × (new ≡ old ++ line)
