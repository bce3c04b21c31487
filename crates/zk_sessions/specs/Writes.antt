-- How many nodes a transaction creates, changes or deletes.
use Rattle.std.specs.Prelude.{ℕ, Bool, true, false, List, filter, length, if◌then◌else◌}
use Rattle.std.specs.List.{list_any}
use Rattle.zk_table.specs.Parts.{is_error}
use Rattle.zk_table.specs.declared.sub.Sub.{Sub}
use Rattle.zk_table.specs.declared.sub.Sub.TheVariants as subs
use Rattle.zk_table.specs.declared.txn.Op.{Op}
use Rattle.zk_table.specs.declared.txn.Op.TheVariants as ops

-- a check writes nothing
abbrev pub is_write : Sub → Bool
is_write (subs.Create path content acl ephemeral count) = true
is_write (subs.Delete path) = true
is_write (subs.SetData path content version) = true
is_write (subs.Check path version) = false
is_write (subs.Error code) = false

-- a multi that the server rejected writes nothing
abbrev pub write_count : Op → ℕ
write_count (ops.Create path content acl ephemeral count) = 1
write_count (ops.CreateOld path content acl ephemeral) = 1
write_count (ops.Delete path) = 1
write_count (ops.SetData path content version) = 1
write_count (ops.SetAcl path acl version) = 1
write_count (ops.OpenSession timeout) = 0
write_count ops.CloseSession = 0
write_count (ops.Multi parts) = if list_any is_error parts then 0 else length (filter is_write parts)
write_count (ops.Error code) = 0
