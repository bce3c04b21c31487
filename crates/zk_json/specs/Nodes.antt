-- A node of a tree as a JSON object. The fields have the names of ZooKeeper's stat.
use Rattle.std.specs.Prelude.{◌≡◌, ℕ, List, [], ◌∷◌, ◌++◌, codes}
use Rattle.json.specs.Json.{Json, string}
use Rattle.zk_acl.specs.declared.stat.Stat.{Stat}
use Rattle.zk_json.specs.Times.{IsTimeText}
use Rattle.zk_table.specs.declared.node.Node.{Node}
use Rattle.zk_json.specs.Json.{Fields, acl_of, content_fields, id_of, IsLineOf, number_of, object_of}

-- Programmer's Guide, "ZooKeeper Stat Structure": when the node was created and changed, with the texts of the times
abbrev pub change_fields : List ℕ → List ℕ → Stat → Fields
change_fields ctime mtime stat = (codes "czxid", id_of stat.czxid) ∷ (codes "mzxid", id_of stat.mzxid) ∷ (codes "pzxid", id_of stat.pzxid) ∷ (codes "ctime", string ctime) ∷ (codes "mtime", string mtime) ∷ []

-- its versions, and the session that owns it
abbrev pub version_fields : Stat → Fields
version_fields stat = (codes "version", number_of stat.version) ∷ (codes "cversion", number_of stat.cversion) ∷ (codes "aversion", number_of stat.aversion) ∷ (codes "ephemeralOwner", id_of stat.ephemeral_owner) ∷ []

abbrev pub held_fields : List ℕ → Node → Fields
held_fields path node = (codes "path", string path) ∷ content_fields node.content ++ (codes "acl", acl_of node.acl) ∷ []

abbrev pub node_fields : List ℕ → List ℕ → List ℕ → Node → Stat → Fields
node_fields ctime mtime path node stat = held_fields path node ++ change_fields ctime mtime stat ++ version_fields stat

abbrev pub node_of : List ℕ → List ℕ → List ℕ → Node → Stat → Json
node_of ctime mtime path node stat = object_of (node_fields ctime mtime path node stat)

-- a node's line
abbrev pub IsNodeLine : List ℕ → Node → Stat → List ℕ → Type 0
IsNodeLine path node stat line = (ctime : List ℕ) × (mtime : List ℕ) × IsTimeText stat.ctime ctime × IsTimeText stat.mtime mtime × IsLineOf (node_of ctime mtime path node stat) line

abbrev pub AppendsNodeLine : List ℕ → Node → Stat → List ℕ → List ℕ → Type 0
AppendsNodeLine path node stat old new = (line : List ℕ) × IsNodeLine path node stat line × (new ≡ old ++ line)
