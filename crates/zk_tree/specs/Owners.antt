-- Which nodes each session owns: ZooKeeper Programmer's Guide, "Ephemeral Nodes".
use Rattle.std.specs.Prelude.{◌≡◌, ◌≢◌, ℕ, ℤ, pos, List, Bool, false, ◌&&◌, Option, Some, None, ◌==◌, if◌then◌else◌}
use Rattle.std.proofs.Common.{not}
use Rattle.std.specs.FinMap as finite
use Rattle.std.specs.Ordering.{int_eq}
use Rattle.zk_table.specs.declared.node.Node.{Node}
use Rattle.zk_table.specs.States.{NodeMap}
use Rattle.zk_tree.specs.Trees.{IsTree}
use Rattle.zk_tree.specs.Views.{PathKeys, OwnerMap}

-- the paths of a session in the index; empty for any other
abbrev pub set_found : Option PathKeys → PathKeys
set_found None = finite.empty
set_found (Some set) = set

abbrev pub set_at : OwnerMap → ℤ → PathKeys
set_at owners session = set_found (finite.get owners session)

-- adds a path to a session; 0 is no owner
abbrev pub with_owned : OwnerMap → ℤ → List ℕ → OwnerMap
with_owned owners session path = if int_eq session (pos 0) then owners else finite.insert owners session (finite.insert (set_at owners session) path tt)

-- a session without nodes is not in the index
abbrev pub with_set : OwnerMap → ℤ → PathKeys → OwnerMap
with_set owners session set = if finite.len set == 0 then finite.remove owners session else finite.insert owners session set

-- removes a path from a session
abbrev pub without_owned : OwnerMap → ℤ → List ℕ → OwnerMap
without_owned owners session path = if int_eq session (pos 0) then owners else with_set owners session (finite.remove (set_at owners session) path)

-- whether the index has a path among those of a session
abbrev pub is_noted : OwnerMap → ℤ → List ℕ → Bool
is_noted owners session path = finite.contains_key (set_at owners session) path

-- whether a session owns a node; 0 owns none
abbrev pub is_owner : ℤ → Option Node → Bool
is_owner session None = false
is_owner session (Some node) = not (int_eq session (pos 0)) && int_eq node.owner session

-- the index has each session that owns nodes, with their paths, and no other session
pub record IsOwned (nodes : NodeMap) (owners : OwnerMap) : Type 0 where
  pub tree : IsTree nodes
  pub noted : (session : ℤ) (path : List ℕ) → is_noted owners session path ≡ is_owner session (finite.get nodes path)
  pub filled : (session : ℤ) (set : PathKeys) → finite.get owners session ≡ Some set → finite.len set ≢ 0
