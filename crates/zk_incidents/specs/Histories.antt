-- The history of a node: a line for each transaction that created, changed or deleted it.
use Rattle.std.specs.Prelude.{◌≡◌, ℕ, ℤ, pos, Bool, true, false, List, [], ◌∷◌, ◌++◌, filter, codes, if◌then◌else◌}
use Rattle.std.specs.List.{flat_map}
use Rattle.std.specs.Ordering.{int_eq}
use Rattle.std.specs.String.{string_bytes}
use Rattle.zk_format.specs.Spelling.{id_digits, quoted}
use Rattle.zk_newer_records.specs.declared.newer_record.Encoding.{Encoding}
use Rattle.zk_newer_records.specs.declared.newer_record.Encoding.TheVariants as forms
use Rattle.zk_newer_records.specs.declared.newer_record.NewerRecord.{NewerRecord}
use Rattle.zk_json.specs.Times.{IsTimeText}
use Rattle.zk_table.specs.declared.txn.Op.{Op}
use Rattle.zk_table.specs.declared.txn.Op.TheVariants as ops
use Rattle.zk_table.specs.declared.txn.Txn.{Txn}
use Rattle.zk_incidents.specs.Owners.{Owned, owned_after, touched}
use Rattle.zk_incidents.specs.Within.{is_within}
use Rattle.zk_incidents.specs.declared.history_fold.History.{History}

-- ---- one line

-- a container, and a node with a time to live, are no plain nodes
abbrev pub create_word : Encoding → List ℕ
create_word forms.Container = codes "createContainer"
create_word (forms.Ttl ttl) = codes "createTtl"
create_word form = codes "create"

-- the leader deletes an empty container by itself
abbrev pub delete_word : Encoding → List ℕ
delete_word forms.DeletedContainer = codes "deleteContainer"
delete_word form = codes "delete"

-- the word of an operation
abbrev pub op_word : Op → Encoding → List ℕ
op_word (ops.Create path content acl ephemeral count) form = create_word form
op_word (ops.CreateOld path content acl ephemeral) form = codes "create0"
op_word (ops.Delete path) form = delete_word form
op_word (ops.SetData path content version) form = codes "setData"
op_word (ops.SetAcl path acl version) form = codes "setACL"
op_word (ops.OpenSession timeout) form = codes "createSession"
op_word ops.CloseSession form = codes "closeSession"
op_word (ops.Multi parts) form = codes "multi"
op_word (ops.Error code) form = codes "error"

-- the leader closes an expired session by a request of its own, whose number is 0
abbrev pub is_expiry : ℤ → Op → Bool
is_expiry cxid ops.CloseSession = int_eq cxid (pos 0)
is_expiry cxid op = false

abbrev pub expiry_of : ℤ → Op → List ℕ
expiry_of cxid op = if is_expiry cxid op then codes " expired" else []

unfoldable pub path_text : List ℕ → List ℕ
path_text path = 32 ∷ quoted path

-- the nodes are named where more than one may be meant
abbrev pub paths_text : Bool → List (List ℕ) → List ℕ
paths_text true paths = flat_map path_text paths
paths_text false paths = []

-- the zxid, the operation and the session
abbrev pub head_text : Txn → Encoding → List ℕ
head_text txn form = 32 ∷ id_digits txn.zxid ++ 32 ∷ op_word txn.op form ++ 32 ∷ id_digits txn.session ++ expiry_of txn.cxid txn.op

-- these, and the nodes
unfoldable pub entry_text : Bool → List (List ℕ) → NewerRecord → List ℕ
entry_text below paths newer = head_text newer.txn newer.form ++ paths_text below paths ++ 10 ∷ []

-- the nodes at a path, and below it, that a record creates, changes or deletes
abbrev pub seen : List ℕ → Bool → Owned → NewerRecord → List (List ℕ)
seen root below owned newer = filter (is_within root below) (touched owned newer)

-- a line, if there is such a node
abbrev pub IsLineBy : Bool → NewerRecord → List (List ℕ) → List ℕ → Type 0
IsLineBy below newer [] line = line ≡ []
IsLineBy below newer (path ∷ paths) line = (time : List ℕ) × IsTimeText newer.txn.time time × (line ≡ time ++ entry_text below (path ∷ paths) newer)

abbrev pub IsLine : List ℕ → Bool → Owned → NewerRecord → List ℕ → Type 0
IsLine root below owned newer line = IsLineBy below newer (seen root below owned newer) line

-- ---- all lines

-- of records in order, after which the owners are known so far
abbrev pub IsHistoryFrom : List ℕ → Bool → Owned → List NewerRecord → List ℕ → Type 0
IsHistoryFrom root below owned [] text = text ≡ []
IsHistoryFrom root below owned (newer ∷ records) text =
    (line : List ℕ) × (rest : List ℕ) × IsLine root below owned newer line × IsHistoryFrom root below (owned_after owned newer) records rest × (text ≡ line ++ rest)

-- ---- calls

abbrev pub AppendsLineBy : Bool → List (List ℕ) → NewerRecord → List ℕ → List ℕ → Type 0
AppendsLineBy below paths newer old new = (line : List ℕ) × IsLineBy below newer paths line × (new ≡ old ++ line)

abbrev pub AppendsLine : List ℕ → Bool → Owned → NewerRecord → List ℕ → List ℕ → Type 0
AppendsLine root below owned newer old new = (line : List ℕ) × IsLine root below owned newer line × (new ≡ old ++ line)

pub record Follows (old : History) (newer : NewerRecord) (new : History) : Type 0 where
  pub scope : new.scope ≡ old.scope
  pub owners : new.owners ≡ owned_after old.owners newer
  pub line : AppendsLine (string_bytes old.scope.root) old.scope.below old.owners newer (string_bytes old.text) (string_bytes new.text)
