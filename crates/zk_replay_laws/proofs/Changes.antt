-- One change of the nodes, on a server and on a draft.
use Rattle.std.proofs.Common.{◌≡◌, ◌≢◌, ◌⊎◌, inl, inr, ℕ, ℤ, pos, negsuc, List, [], length, ◌<◌, true, false, Option, Some, None, refl}
use Rattle.std.proofs.lemmas.Bool.{cond-false}
use Rattle.std.specs.FinMap.{get, insert, remove}
use Rattle.std.specs.Ordering.{int_eq}
use Rattle.zk_acl.specs.declared.acl.Acl.{Acl}
use Rattle.zk_path.specs.Paths.{parent_of}
use Rattle.zk_table.specs.declared.node.Node.{Node}
use Rattle.zk_table.specs.declared.txn.Txn.{Txn}
use Rattle.zk_table.specs.Nodes as nodes
use Rattle.zk_table.specs.States.{NodeMap, changed}
pub use Rattle.zk_replay_laws.specs.Windows.{Field, Content, Acls, Czxid, Mzxid, Pzxid, Ctime, Mtime, Version, Creates, Aversion, Owner, Value, value, cell, draft_cell}
use Rattle.zk_replay.specs.Drafts as drafts
use Rattle.zk_replay.specs.Rules as rules
use Rattle.zk_replay.specs.Drafts.{DraftMap, later}

-- ---- changes

pub data Change : Type 0 where
  Makes : ℤ → List ℕ → List ℕ → Node → ℤ → Change
  Deletes : ℤ → List ℕ → List ℕ → Change
  Writes : Txn → List ℕ → Option (List ℕ) → ℤ → Change
  Guards : ℤ → List ℕ → List Acl → ℤ → Change

abbrev pub zxid_of : Change → ℤ
zxid_of (Makes zxid path above node count) = zxid
zxid_of (Deletes zxid path above) = zxid
zxid_of (Writes txn path content version) = txn.zxid
zxid_of (Guards zxid path acl version) = zxid

-- on a server
abbrev pub applied : NodeMap → Change → NodeMap
applied m (Makes zxid path above node count) = changed (insert m path node) above (nodes.with_child zxid count)
applied m (Deletes zxid path above) = changed (remove m path) above (nodes.without_child zxid)
applied m (Writes txn path content version) = changed m path (nodes.written txn content version)
applied m (Guards zxid path acl version) = changed m path (nodes.guarded acl version)

-- on a draft
abbrev pub replayed : DraftMap → Change → DraftMap
replayed m (Makes zxid path above node count) = rules.create_below m zxid path node count (Some above)
replayed m (Deletes zxid path above) = rules.delete_below m zxid path (Some above)
replayed m (Writes txn path content version) = drafts.changed m path (drafts.written txn content version)
replayed m (Guards zxid path acl version) = drafts.changed m path (drafts.guarded acl version)

-- the table takes it
pub record Created (m : NodeMap) (zxid : ℤ) (path above : List ℕ) (node : Node) (count : ℤ) : Type 0 where
  pub absent : get m path ≡ None
  pub parent : parent_of path ≡ Some above
  pub parent_node : Node
  pub parent_there : get m above ≡ Some parent_node
  pub plain : int_eq parent_node.owner (pos 0) ≡ true
  pub new : node.pzxid ≡ zxid
  pub counted : int_eq count (negsuc 0) ≡ false
  pub filled : path ≢ []
  pub shorter : length above < length path

pub record Deleted (m : NodeMap) (path above : List ℕ) : Type 0 where
  pub node : Node
  pub there : get m path ≡ Some node
  pub parent : parent_of path ≡ Some above
  pub childless : (q : List ℕ) → parent_of q ≡ Some path → get m q ≡ None
  pub filled : path ≢ []
  pub shorter : length above < length path

abbrev pub There : NodeMap → List ℕ → Type 0
There m path = (node : Node) × (get m path ≡ Some node)

abbrev pub IsTaken : NodeMap → Change → Type 0
IsTaken m (Makes zxid path above node count) = Created m zxid path above node count
IsTaken m (Deletes zxid path above) = Deleted m path above
IsTaken m (Writes txn path content version) = There m path
IsTaken m (Guards zxid path acl version) = There m path

-- ---- what a change does to a field

pub data Effect (f : Field) (change : Node → Node) : Type 0 where
  keeps : ((n : Node) → value f (change n) ≡ value f n) → Effect f change
  sets : (v : Value f) → ((n : Node) → value f (change n) ≡ v) → Effect f change

pub effect_written : (txn : Txn) (content : Option (List ℕ)) (version : ℤ) (f : Field) → Effect f (nodes.written txn content version)
effect_written txn content version Content = sets content (λ n. refl)
effect_written txn content version Acls = keeps (λ n. refl)
effect_written txn content version Czxid = keeps (λ n. refl)
effect_written txn content version Mzxid = sets txn.zxid (λ n. refl)
effect_written txn content version Pzxid = keeps (λ n. refl)
effect_written txn content version Ctime = keeps (λ n. refl)
effect_written txn content version Mtime = sets txn.time (λ n. refl)
effect_written txn content version Version = sets version (λ n. refl)
effect_written txn content version Creates = keeps (λ n. refl)
effect_written txn content version Aversion = keeps (λ n. refl)
effect_written txn content version Owner = keeps (λ n. refl)

pub effect_guarded : (acl : List Acl) (version : ℤ) (f : Field) → Effect f (nodes.guarded acl version)
effect_guarded acl version Content = keeps (λ n. refl)
effect_guarded acl version Acls = sets acl (λ n. refl)
effect_guarded acl version Czxid = keeps (λ n. refl)
effect_guarded acl version Mzxid = keeps (λ n. refl)
effect_guarded acl version Pzxid = keeps (λ n. refl)
effect_guarded acl version Ctime = keeps (λ n. refl)
effect_guarded acl version Mtime = keeps (λ n. refl)
effect_guarded acl version Version = keeps (λ n. refl)
effect_guarded acl version Creates = keeps (λ n. refl)
effect_guarded acl version Aversion = sets version (λ n. refl)
effect_guarded acl version Owner = keeps (λ n. refl)

-- a field of a parent: its zxid of children apart, what a create does
pub data ParentEffect (f : Field) (zxid count : ℤ) : Type 0 where
  is_pzxid : f ≡ Pzxid → ParentEffect f zxid count
  else_keeps : ((z : ℤ) (n : Node) → value f (nodes.with_child z count n) ≡ value f n) → ParentEffect f zxid count
  else_sets : (v : Value f) → ((z : ℤ) (n : Node) → value f (nodes.with_child z count n) ≡ v) → ParentEffect f zxid count

pub parent_effect : (zxid count : ℤ) → int_eq count (negsuc 0) ≡ false → (f : Field) → ParentEffect f zxid count
parent_effect zxid count counted Content = else_keeps (λ z n. refl)
parent_effect zxid count counted Acls = else_keeps (λ z n. refl)
parent_effect zxid count counted Czxid = else_keeps (λ z n. refl)
parent_effect zxid count counted Mzxid = else_keeps (λ z n. refl)
parent_effect zxid count counted Pzxid = is_pzxid refl
parent_effect zxid count counted Ctime = else_keeps (λ z n. refl)
parent_effect zxid count counted Mtime = else_keeps (λ z n. refl)
parent_effect zxid count counted Version = else_keeps (λ z n. refl)
parent_effect zxid count counted Creates = else_sets count (λ z n. cond-false (int_eq count (negsuc 0)) _ count counted)
parent_effect zxid count counted Aversion = else_keeps (λ z n. refl)
parent_effect zxid count counted Owner = else_keeps (λ z n. refl)

pub lost_effect : (f : Field) → (f ≡ Pzxid) ⊎ ((z : ℤ) (n : Node) → value f (nodes.without_child z n) ≡ value f n)
lost_effect Content = inr (λ z n. refl)
lost_effect Acls = inr (λ z n. refl)
lost_effect Czxid = inr (λ z n. refl)
lost_effect Mzxid = inr (λ z n. refl)
lost_effect Pzxid = inl refl
lost_effect Ctime = inr (λ z n. refl)
lost_effect Mtime = inr (λ z n. refl)
lost_effect Version = inr (λ z n. refl)
lost_effect Creates = inr (λ z n. refl)
lost_effect Aversion = inr (λ z n. refl)
lost_effect Owner = inr (λ z n. refl)
