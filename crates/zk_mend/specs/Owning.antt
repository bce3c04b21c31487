-- A map of owners, changed at one path.
use Rattle.std.specs.Prelude.{ℕ, ℤ, List, Option, Some, None}
use Rattle.std.specs.FinMap.{FinMap, insert, remove}
use Rattle.zk_table.specs.States.{path_cmp}

abbrev pub OwnerMap : Type 0
OwnerMap = FinMap path_cmp ℤ

abbrev pub with_owner : OwnerMap → List ℕ → Option ℤ → OwnerMap
with_owner owners path None = remove owners path
with_owner owners path (Some owner) = insert owners path owner
