-- The paths whose nodes a transaction may change: those that it names, and their parents.
use Rattle.std.specs.Prelude.{ℕ, List, [], ◌∷◌, Option, Some, None}
use Rattle.std.specs.FinMap.{empty, insert}
use Rattle.zk_path.specs.Paths.{parent_of}
use Rattle.zk_table.specs.declared.sub.Sub.{Sub}
use Rattle.zk_table.specs.declared.sub.Sub.TheVariants as subs
use Rattle.zk_table.specs.declared.txn.Op.{Op}
use Rattle.zk_table.specs.declared.txn.Op.TheVariants as ops
use Rattle.zk_table.specs.declared.txn.Txn.{Txn}
use Rattle.zk_table.specs.States.{NodeMap, owned_by}
use Rattle.zk_tree.specs.Views.{PathKeys}

abbrev pub with_path : PathKeys → List ℕ → PathKeys
with_path paths path = insert paths path tt

abbrev pub with_parent : PathKeys → Option (List ℕ) → PathKeys
with_parent paths None = paths
with_parent paths (Some above) = with_path paths above

abbrev pub with_both : PathKeys → List ℕ → PathKeys
with_both paths path = with_parent (with_path paths path) (parent_of path)

abbrev pub with_all : PathKeys → List (List ℕ) → PathKeys
with_all paths [] = paths
with_all paths (path ∷ more) = with_all (with_both paths path) more

abbrev pub with_part : PathKeys → Sub → PathKeys
with_part paths (subs.Create path content acl ephemeral count) = with_both paths path
with_part paths (subs.Delete path) = with_both paths path
with_part paths (subs.SetData path content version) = with_path paths path
with_part paths (subs.Check path version) = paths
with_part paths (subs.Error code) = paths

abbrev pub with_parts : PathKeys → List Sub → PathKeys
with_parts paths [] = paths
with_parts paths (part ∷ parts) = with_parts (with_part paths part) parts

abbrev pub touched_by : NodeMap → Txn → Op → PathKeys
touched_by nodes txn (ops.Create path content acl ephemeral count) = with_both empty path
touched_by nodes txn (ops.CreateOld path content acl ephemeral) = with_both empty path
touched_by nodes txn (ops.Delete path) = with_both empty path
touched_by nodes txn (ops.SetData path content version) = with_path empty path
touched_by nodes txn (ops.SetAcl path acl version) = with_path empty path
touched_by nodes txn (ops.OpenSession timeout) = empty
touched_by nodes txn ops.CloseSession = with_all empty (owned_by nodes txn.session)
touched_by nodes txn (ops.Multi parts) = with_parts empty parts
touched_by nodes txn (ops.Error code) = empty

abbrev pub touched : NodeMap → Txn → PathKeys
touched nodes txn = touched_by nodes txn txn.op
