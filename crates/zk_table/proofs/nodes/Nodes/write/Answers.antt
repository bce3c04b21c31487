use Rattle.std.proofs.Common.{◌≡◌, set, ap, ◌∙◌, w32}
use Rattle.std.proofs.lemmas.Int.{to_z-of_z}
use Rattle.std.specs.FinMap.{entries}
use Rattle.zk_table.specs.Nodes.{written}
use Rattle.zk_table.specs.States.{path_cmp, changed}
use Rattle.zk_table.proofs.Sorted.{placed, sorted_from_entries, kept_from_entries}
use Rattle.zk_table.proofs.Changes.{entries_changed, unchanged_missing}
use Rattle.zk_table.proofs.nodes.Nodes.write.Goals as goal
use Rattle.zk_table.proofs.nodes.Nodes.write.Goals.{After-self-1}

after : (c : After-self-1) → set c.self.inside.entries.items c.in-Ok.at (c.index_mut.result.now.0, c.write.new.self) ≡ entries (changed c.args.self.now c.args.path.now (written c.args.txn.now c.args.content c.args.version))
after c =
    entries_changed c.self.inside.entries.items c.args.self.now c.args.path.now c.self.invariant c.self.view_is (written c.args.txn.now c.args.content c.args.version) c.in-Ok.at c.index_mut.result.now c.write.new.self
    (placed path_cmp c.args.path.now c.deref.result.now _ _ _ c.deref.ensures.value c.position_of.ensures.place c.in-Ok.is)
    c.index_mut.ensures.value
    (c.write.ensures ∙ ap (λ z. written c.args.txn.now c.args.content z c.index_mut.result.now.1) (to_z-of_z w32 c.args.version c.ranges.version))

pub invariant_of-self : goal.invariant_of-self
invariant_of-self c = sorted_from_entries path_cmp _ _ (after c)

pub returns-in-Ok : goal.returns-in-Ok
returns-in-Ok c = kept_from_entries path_cmp _ _ (after c)

pub returns-in_default : goal.returns-in_default
returns-in_default c =
    unchanged_missing c.self.inside.entries.items c.args.self.now c.args.path.now c.self.invariant c.self.view_is (written c.args.txn.now c.args.content c.args.version) _
    (placed path_cmp c.args.path.now c.deref.result.now _ _ _ c.deref.ensures.value c.position_of.ensures.place c.in_default.is)
