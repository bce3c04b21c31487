-- The writes of a transaction, by the paths of the nodes that it creates, changes or deletes.
use Rattle.std.specs.Prelude.{ℕ, ℤ, List, [], ◌∷◌, if◌then◌else◌}
use Rattle.std.specs.List.{flat_map, list_any}
use Rattle.zk_table.specs.Parts.{is_error}
use Rattle.zk_table.specs.declared.sub.Sub.{Sub}
use Rattle.zk_table.specs.declared.sub.Sub.TheVariants as subs
use Rattle.zk_table.specs.declared.txn.Op.{Op}
use Rattle.zk_table.specs.declared.txn.Op.TheVariants as ops

-- a check writes nothing
abbrev pub written_part : Sub → List (List ℕ)
written_part (subs.Create path content acl ephemeral count) = path ∷ []
written_part (subs.Delete path) = path ∷ []
written_part (subs.SetData path content version) = path ∷ []
written_part (subs.Check path version) = []
written_part (subs.Error code) = []

-- one path for each write; a multi that the server rejected writes nothing
abbrev pub written : Op → List (List ℕ)
written (ops.Create path content acl ephemeral count) = path ∷ []
written (ops.CreateOld path content acl ephemeral) = path ∷ []
written (ops.Delete path) = path ∷ []
written (ops.SetData path content version) = path ∷ []
written (ops.SetAcl path acl version) = path ∷ []
written (ops.OpenSession timeout) = []
written ops.CloseSession = []
written (ops.Multi parts) = if list_any is_error parts then [] else flat_map written_part parts
written (ops.Error code) = []
