-- How a digest follows the touched paths in order.
use Rattle.std.specs.Prelude.{ℕ, ℤ, ◌+◌, ◌-◌, ◌%◌, ◌^◌, List, [], ◌∷◌, Option, Some, None}
use Rattle.std.specs.FinMap.{get}
use Rattle.std.specs.Option.{unwrap_or}
use Rattle.zk_table.specs.declared.node.Node.{Node}
use Rattle.zk_table.specs.States.{NodeMap}
use Rattle.zk_machine.specs.Preimages.{Preimage}
use Rattle.zk_mend.specs.Digests.{node_digest}
use Rattle.zk_mend.specs.Following.{owner_after}
use Rattle.zk_mend.specs.Owning.{OwnerMap, with_owner}

-- the digest of a node; 0 for None
abbrev pub counted : List ℕ → Option Node → Option ℤ → ℕ
counted path None owner = 0
counted path (Some node) owner = node_digest path node (unwrap_or owner node.owner)

-- replaces one summand of a sum by another
abbrev pub replaced : ℕ → ℕ → ℕ → ℕ
replaced sum out comes = ((sum + (2 ^ 64 - out % 2 ^ 64)) % 2 ^ 64 + comes) % 2 ^ 64

-- ---- one path, with its node before

abbrev pub owner_stepped : List ℕ → Option Node → NodeMap → OwnerMap → OwnerMap → Option ℤ
owner_stepped path before nodes given owners = owner_after before (get nodes path) (get given path) (get owners path)

abbrev pub owners_step : List ℕ → Option Node → NodeMap → OwnerMap → OwnerMap → OwnerMap
owners_step path before nodes given owners = with_owner owners path (owner_stepped path before nodes given owners)

abbrev pub sum_stepped : List ℕ → Option Node → NodeMap → OwnerMap → OwnerMap → ℕ → ℕ
sum_stepped path before nodes given owners sum =
    replaced sum (counted path before (get owners path)) (counted path (get nodes path) (owner_stepped path before nodes given owners))

-- ---- the paths in order

abbrev pub owners_stepped : List Preimage → NodeMap → OwnerMap → OwnerMap → OwnerMap
owners_stepped [] nodes given owners = owners
owners_stepped (note ∷ notes) nodes given owners = owners_stepped notes nodes given (owners_step note.0 note.1 nodes given owners)

abbrev pub sum_over : List Preimage → NodeMap → OwnerMap → OwnerMap → ℕ → ℕ
sum_over [] nodes given owners sum = sum
sum_over (note ∷ notes) nodes given owners sum =
    sum_over notes nodes given (owners_step note.0 note.1 nodes given owners) (sum_stepped note.0 note.1 nodes given owners sum)
