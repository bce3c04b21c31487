-- Reads of many nodes: `zookeeper.jute`, `GetEphemeralsResponse` and
-- `GetAllChildrenNumberResponse`.
use Rattle.std.specs.Prelude.{ℕ, ℤ, pos, List, ◌++◌, Bool, not, ◌&&◌, filter, count_by, nat_eq, if◌then◌else◌, codes}
use Rattle.std.specs.FinMap.{keys}
use Rattle.std.specs.Int.{w32, int_wrap}
use Rattle.std.specs.List.{starts_with}
use Rattle.std.specs.Str.{bytes_eq}
use Rattle.zk_table.specs.States.{NodeMap, owned_by}

-- the paths of a session's nodes that have a prefix, in order
abbrev pub ephemerals_of : NodeMap → ℤ → List ℕ → List (List ℕ)
ephemerals_of nodes session prefix = filter (λ path. starts_with nat_eq path prefix) (owned_by nodes session)

-- the start of each path below a path
abbrev pub prefix_below : List ℕ → List ℕ
prefix_below path = if bytes_eq path (codes "/") then path else path ++ codes "/"

-- starts with the prefix, and goes on
abbrev pub extends : List ℕ → List ℕ → Bool
extends prefix path = starts_with nat_eq path prefix && not (bytes_eq path prefix)

-- the number of all nodes below a path
abbrev pub descendant_count : NodeMap → List ℕ → ℤ
descendant_count nodes path = int_wrap w32 (pos (count_by (extends (prefix_below path)) (keys nodes)))
