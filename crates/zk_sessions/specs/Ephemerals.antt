-- The sessions that own ephemeral nodes: ZooKeeper Programmer's Guide, "Ephemeral Nodes".
use Rattle.std.specs.Prelude.{ℕ, ℤ, Bool, List, filter, map, Option}
use Rattle.std.specs.BTreeMap.{insert_entry, is_at}
use Rattle.std.specs.Map.{lookup, remove_entry}
use Rattle.std.specs.Ordering.{int_eq}
use Rattle.zk_table.specs.States.{path_cmp}

-- paths in order, each with the session that owns its node
abbrev pub Owned : Type 0
Owned = List (List ℕ × ℤ)

abbrev pub owner_of : Owned → List ℕ → Option ℤ
owner_of owned path = lookup (is_at (path_cmp path)) owned

abbrev pub with_owner : Owned → List ℕ → ℤ → Owned
with_owner owned path session = insert_entry path_cmp owned path session

abbrev pub without_owner : Owned → List ℕ → Owned
without_owner owned path = remove_entry (is_at (path_cmp path)) owned

abbrev pub is_of : ℤ → List ℕ × ℤ → Bool
is_of session entry = int_eq entry.1 session

abbrev pub owned_by : Owned → ℤ → List (List ℕ)
owned_by owned session = map (λ entry. entry.0) (filter (is_of session) owned)
