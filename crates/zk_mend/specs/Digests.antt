-- The digest of a tree, version 2, which servers from 3.6 on write after their transactions: the
-- CRC-32 of each node, added up modulo 2^64.
use Rattle.std.specs.Prelude.{ℕ, ℤ, ◌+◌, ◌%◌, ◌^◌, List, [], ◌∷◌, ◌++◌, Bool, Option, Some, None, nat_eq, codes, if◌then◌else◌}
use Rattle.std.specs.List.{starts_with}
use Rattle.std.specs.Str.{bytes_eq}
use Rattle.std.specs.Option.{unwrap_or}
use Rattle.std.specs.Int.{w32, w64, to_be_bytes, cast_unsigned}
use Rattle.std.specs.FinMap.{entries}
use Rattle.zk_table.specs.declared.node.Node.{Node}
use Rattle.zk_table.specs.States.{NodeMap}
use Rattle.zk_crc.specs.Crc.{crc_of}

unfoldable pub int : ℤ → List ℕ
int number = to_be_bytes w32 (cast_unsigned w32 number)

unfoldable pub long : ℤ → List ℕ
long number = to_be_bytes w64 (cast_unsigned w64 number)

-- ---- one node

-- servers store the nodes below /zookeeper separately, so none is digested
abbrev pub is_apart : List ℕ → Bool
is_apart path = starts_with nat_eq path (codes "/zookeeper/")

-- the root has the empty text
abbrev pub path_bytes : List ℕ → List ℕ
path_bytes path = if bytes_eq path (codes "/") then [] else path

abbrev pub content_bytes : Option (List ℕ) → List ℕ
content_bytes None = []
content_bytes (Some bytes) = bytes

-- sixty bytes
abbrev pub field_bytes : Node → ℤ → List ℕ
field_bytes node owner = long node.czxid ++ long node.mzxid ++ long node.pzxid ++ long node.ctime ++ long node.mtime ++ int node.version ++ int node.creates ++ int node.aversion ++ long owner

-- of a node with this owner
abbrev pub node_digest : List ℕ → Node → ℤ → ℕ
node_digest path node owner = if is_apart path then 0 else crc_of (path_bytes path ++ content_bytes node.content ++ field_bytes node owner)

-- ---- all nodes

-- Owners by path that differ on a 3.5 to 3.8 server: those of containers and of nodes with a time
-- to live, which the table does not know.
abbrev pub Owners : Type 0
Owners = List ℕ → Option ℤ

abbrev pub digest_at : Owners → List ℕ → Node → ℕ
digest_at owners path node = node_digest path node (unwrap_or (owners path) node.owner)

-- the sum over the entries of a list
abbrev pub total : {X : Type 0} → (List ℕ → X → ℕ) → List (List ℕ × X) → ℕ
total count [] = 0
total count (e ∷ es) = count e.0 e.1 + total count es

abbrev pub tree_digest : Owners → NodeMap → ℕ
tree_digest owners nodes = total (digest_at owners) (entries nodes) % 2 ^ 64
