-- The snapshot of a state: `DataTree` of `org.apache.zookeeper.server`, as servers serialize it.
use Rattle.std.specs.Prelude.{ℕ, ℤ, pos, negsuc, List, [], map, Some}
use Rattle.std.specs.FinMap.{entries}
use Rattle.std.specs.Int.{w64, cast_signed}
use Rattle.zk_mend.specs.Digests.{total, digest_at}
use Rattle.zk_mend.specs.Following.{no_owners}
use Rattle.std.specs.Prelude.{◌%◌, ◌^◌}
use Rattle.zk_snapshot.specs.declared.snapshot.Access.{Access}
use Rattle.zk_snapshot.specs.declared.snapshot.Claim.{Claim}
use Rattle.zk_snapshot.specs.declared.snapshot.Contents.{Contents}
use Rattle.zk_snapshot.specs.declared.snapshot.Lease.{Lease}
use Rattle.zk_snapshot.specs.declared.snapshot.Snapshot.{Snapshot}
use Rattle.zk_snapshot.specs.declared.snapshot.Stored.{Stored}
use Rattle.zk_state_snapshot.specs.Lists.{number_of, with_lists}
use Rattle.zk_table.specs.States.{State}
use Rattle.zk_tree.specs.declared.entry.Entry.{Entry}
use Rattle.zk_table.specs.declared.node.Node.{Node}

-- a node with its path
abbrev pub Placed : Type 0
Placed = List ℕ × Node

-- `dbid` of every snapshot
abbrev pub dbid : ℤ
dbid = negsuc 0

-- a session, by its unsigned number, and its timeout
abbrev pub lease_of : ℕ × ℤ → Lease
lease_of e = record { session = cast_signed w64 e.0; timeout = e.1 }

-- the lists of nodes, each once
abbrev pub table_of : List Placed → List Access
table_of nodes = with_lists [] (map (λ e. e.1.acl) nodes)

abbrev pub stored_with : ℤ → Placed → Stored
stored_with number e =
    record { path = e.0; kept = record { content = e.1.content; access = number; moments = record { czxid = e.1.czxid; mzxid = e.1.mzxid; ctime = e.1.ctime; mtime = e.1.mtime }; versions = record { version = e.1.version; creates = e.1.creates; aversion = e.1.aversion }; owner = e.1.owner; pzxid = e.1.pzxid } }

-- a node that names its list by the number in a table
abbrev pub stored_in : List Access → Placed → Stored
stored_in table e = stored_with (number_of table e.1.acl) e

abbrev pub contents_of : List Placed → List (ℕ × ℤ) → Contents
contents_of nodes sessions =
    record { dbid = dbid; leases = map lease_of sessions; accesses = table_of nodes; nodes = map (stored_in (table_of nodes)) nodes }

-- `ZxidDigest`: version 2 of the digest
abbrev pub digest_of : List Placed → ℕ
digest_of nodes = total (digest_at no_owners) nodes % 2 ^ 64

abbrev pub claim_of : List Placed → ℤ → Claim
claim_of nodes last = record { zxid = last; version = pos 2; sum = cast_signed w64 (digest_of nodes) }

-- of nodes in order of path, sessions in order, and the zxid of the last transaction
abbrev pub snapshot_from : List Placed → List (ℕ × ℤ) → ℤ → Snapshot
snapshot_from nodes sessions last = record { contents = contents_of nodes sessions; claim = Some (claim_of nodes last) }

-- nodes in order of path: parents come first
abbrev pub snapshot_of : State → Snapshot
snapshot_of state = snapshot_from (entries state.nodes) (entries state.sessions) state.last

-- ---- calls within

abbrev pub placed : Entry → Placed
placed entry = (entry.path.now, entry.node.now)
