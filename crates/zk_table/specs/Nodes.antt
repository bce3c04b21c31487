-- Nodes, and how they change: ZooKeeper Programmer's Guide, "ZNodes", "Time in ZooKeeper",
-- "ZooKeeper Stat Structure".
use Rattle.std.specs.Prelude.{ℕ, ℤ, pos, negsuc, ◌+ℤ◌, ◌-ℤ◌, ◌*ℤ◌, List, [], ◌∷◌, Bool, Option, Some, None, length, if◌then◌else◌, codes}
use Rattle.std.specs.Ordering.{int_eq}
use Rattle.std.specs.Int.{w32, int_wrap}
use Rattle.zk_acl.specs.declared.acl.Acl.{Acl}
use Rattle.zk_acl.specs.declared.stat.Stat.{Stat}
use Rattle.zk_table.specs.declared.node.Node.{Node}
use Rattle.zk_table.specs.declared.txn.Txn.{Txn}

-- "world:anyone" with all five permissions
abbrev pub open_to_all : List Acl
open_to_all = record { perms = pos 31; id = record { scheme = codes "world"; id = codes "anyone" } } ∷ []

-- a node that exists before any transaction
abbrev pub first_node : Node
first_node = record { content = Some []; acl = open_to_all; czxid = pos 0; mzxid = pos 0; pzxid = pos 0; ctime = pos 0; mtime = pos 0; version = pos 0; creates = pos 0; aversion = pos 0; owner = pos 0 }

-- the node that a transaction creates
abbrev pub created : Txn → Option (List ℕ) → List Acl → Bool → Node
created txn content acl ephemeral = record { content = content; acl = acl; czxid = txn.zxid; mzxid = txn.zxid; pzxid = txn.zxid; ctime = txn.time; mtime = txn.time; version = pos 0; creates = pos 0; aversion = pos 0; owner = (if ephemeral then txn.session else pos 0) }

-- the parent's count of creates; -1 in the log means one more than before
abbrev pub next_creates : ℤ → ℤ → ℤ
next_creates before count = if int_eq count (negsuc 0) then int_wrap w32 (before +ℤ pos 1) else count

-- a parent after a child was created
abbrev pub with_child : ℤ → ℤ → Node → Node
with_child zxid count parent = record parent { creates = next_creates parent.creates count; pzxid = zxid }

-- a parent after a child was deleted
abbrev pub without_child : ℤ → Node → Node
without_child zxid parent = record parent { pzxid = zxid }

-- a node whose content was set
abbrev pub written : Txn → Option (List ℕ) → ℤ → Node → Node
written txn content version node = record node { content = content; version = version; mzxid = txn.zxid; mtime = txn.time }

-- a node whose access control list was set
abbrev pub guarded : List Acl → ℤ → Node → Node
guarded acl version node = record node { acl = acl; aversion = version }

-- null content has no bytes
abbrev pub content_length : Option (List ℕ) → ℕ
content_length None = 0
content_length (Some bytes) = length bytes

-- The stat of a node with this number of children. The version of the children counts creates and
-- deletes: one for each create, and one for each child that was deleted.
abbrev pub stat_with : Node → ℕ → Stat
stat_with node children = record {
  czxid = node.czxid;
  mzxid = node.mzxid;
  ctime = node.ctime;
  mtime = node.mtime;
  version = node.version;
  cversion = int_wrap w32 ((pos 2 *ℤ node.creates) -ℤ pos children);
  aversion = node.aversion;
  ephemeral_owner = node.owner;
  data_length = int_wrap w32 (pos (content_length node.content));
  num_children = int_wrap w32 (pos children);
  pzxid = node.pzxid;
}
