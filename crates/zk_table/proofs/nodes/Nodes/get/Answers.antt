use Rattle.std.proofs.Common.{sym}
use Rattle.zk_table.specs.States.{path_cmp}
use Rattle.zk_table.proofs.Sorted.{placed}
use Rattle.zk_table.proofs.Changes.{found_there, missing_there}
use Rattle.zk_table.proofs.nodes.Nodes.get.Goals as goal

pub returns-in-Ok : goal.returns-in-Ok
returns-in-Ok c =
    sym (found_there c.self.inside.entries.items c.args.self.now c.args.path.now c.self.invariant c.self.view_is c.in-Ok.at c.index.result.now
    (placed path_cmp c.args.path.now c.deref.result.now _ _ _ c.deref.ensures.value c.position_of.ensures.place c.in-Ok.is)
    c.index.ensures)

pub returns-in-Err : goal.returns-in-Err
returns-in-Err c =
    sym (missing_there c.self.inside.entries.items c.args.self.now c.args.path.now c.self.invariant c.self.view_is c.in-Err.field-0
    (placed path_cmp c.args.path.now c.deref.result.now _ _ _ c.deref.ensures.value c.position_of.ensures.place c.in-Err.is))
