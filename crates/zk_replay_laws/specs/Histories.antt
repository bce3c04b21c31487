-- Histories in which the table rejects nothing, as a server's log is.
use Rattle.std.specs.Prelude.{◌≡◌, ◌⊎◌, ℕ, ℤ, pos, negsuc, List, [], ◌∷◌, Bool, true, false, None, int_lt}
use Rattle.std.specs.List.{AllByRecursion, list_any}
use Rattle.std.specs.Ordering.{int_eq}
use Rattle.std.specs.Str.{bytes_eq}
use Rattle.zk_path.specs.Paths.{fault_of}
use Rattle.zk_table.specs.Parts.{is_error}
use Rattle.zk_table.specs.declared.sub.Sub.{Sub}
use Rattle.zk_table.specs.declared.sub.Sub.TheVariants as subs
use Rattle.zk_table.specs.declared.txn.Op.{Op}
use Rattle.zk_table.specs.declared.txn.Op.TheVariants as ops
use Rattle.zk_table.specs.declared.txn.Txn.{Txn}
use Rattle.zk_table.specs.States.{State, owned_by}
use Rattle.zk_table.specs.Steps.{step}
use Rattle.zk_newer_records.specs.NewerRecords.{listed_of}
use Rattle.zk_newer_records.specs.declared.newer_record.NewerRecord.{NewerRecord}

-- ---- one transaction

-- an error, or a multi that holds one
abbrev pub is_failed : Op → Bool
is_failed (ops.Error code) = true
is_failed (ops.Multi parts) = list_any is_error parts
is_failed _ = false

-- the table rejects no operation of a transaction
abbrev pub IsServed : State → Txn → Type 0
IsServed state txn = (is_failed txn.op ≡ true) ⊎ ((step state txn).1.err ≡ pos 0)

-- a create counts the parent's creates, as servers of 3.4 and later log it
abbrev pub IsCountedPart : Sub → Type 0
IsCountedPart (subs.Create path content acl ephemeral count) = (fault_of path ≡ None) × (int_eq count (negsuc 0) ≡ false)
IsCountedPart (subs.Delete path) = fault_of path ≡ None
IsCountedPart _ = Unit {0}

abbrev pub IsCounted : Op → Type 0
IsCounted (ops.Create path content acl ephemeral count) = (fault_of path ≡ None) × (int_eq count (negsuc 0) ≡ false)
IsCounted (ops.CreateOld path content acl ephemeral) = ⊥
IsCounted (ops.Delete path) = fault_of path ≡ None
IsCounted (ops.Multi parts) = AllByRecursion IsCountedPart parts
IsCounted _ = Unit {0}

pub record IsLogged (state : State) (txn : Txn) : Type 0 where
  pub served : IsServed state txn
  pub counted : IsCounted txn.op

-- ---- a session's end

abbrev pub is_in : List ℕ → List (List ℕ) → Bool
is_in path paths = list_any (λ other. bytes_eq other path) paths

abbrev pub AreDistinct : List (List ℕ) → Type 0
AreDistinct [] = Unit {0}
AreDistinct (path ∷ paths) = (is_in path paths ≡ false) × AreDistinct paths

-- its record lists the nodes that the session owns, in any order
pub record ListsNodes (state : State) (session : ℤ) (paths : List (List ℕ)) : Type 0 where
  pub distinct : AreDistinct paths
  pub owned : (path : List ℕ) → is_in path paths ≡ is_in path (owned_by state.nodes session)

-- whether each closeSession lists its session's nodes, as servers log it since 3.6, or may list none
pub data Closings : Type 0 where
  Listed : Closings
  Unlisted : Closings

abbrev pub ListsAs : Closings → State → ℤ → List (List ℕ) → Type 0
ListsAs Listed state session paths = ListsNodes state session paths
ListsAs Unlisted state session paths = (paths ≡ []) ⊎ ListsNodes state session paths

abbrev pub ListsIfClosed : Closings → State → Txn → Op → List (List ℕ) → Type 0
ListsIfClosed closings state txn ops.CloseSession paths = ListsAs closings state txn.session paths
ListsIfClosed closings state txn _ paths = Unit {0}

abbrev pub is_create : Sub → Bool
is_create (subs.Create path content acl ephemeral count) = true
is_create _ = false

abbrev pub creates : Op → Bool
creates (ops.Create path content acl ephemeral count) = true
creates (ops.Multi parts) = list_any is_create parts
creates _ = false

-- the session creates no node
abbrev pub CreatesNone : ℤ → NewerRecord → Type 0
CreatesNone session later = creates later.txn.op ≡ true → int_eq later.txn.session session ≡ false

abbrev pub EndsIfClosed : Txn → Op → List NewerRecord → Type 0
EndsIfClosed txn ops.CloseSession later = AllByRecursion (CreatesNone txn.session) later
EndsIfClosed txn _ later = Unit {0}

-- ---- histories

-- zxids rise above this one
abbrev pub AreRising : ℤ → List Txn → Type 0
AreRising last [] = Unit {0}
AreRising last (txn ∷ txns) = (int_lt last txn.zxid ≡ true) × AreRising txn.zxid txns

abbrev pub AreLogged : State → List Txn → Type 0
AreLogged state [] = Unit {0}
AreLogged state (txn ∷ txns) = IsLogged state txn × AreLogged (step state txn).0 txns

-- the records of a window: sessions that end create no node later
pub record IsInWindow (closings : Closings) (state : State) (record_of : NewerRecord) (later : List NewerRecord) : Type 0 where
  pub logged : IsLogged state record_of.txn
  pub lists : ListsIfClosed closings state record_of.txn record_of.txn.op (listed_of record_of)
  pub ends : EndsIfClosed record_of.txn record_of.txn.op later

abbrev pub AreInWindow : Closings → State → List NewerRecord → Type 0
AreInWindow closings state [] = Unit {0}
AreInWindow closings state (record_of ∷ records) = IsInWindow closings state record_of records × AreInWindow closings (step state record_of.txn).0 records
