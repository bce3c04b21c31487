use Rattle.std.proofs.Common.{◌≡◌, set, ◌∙◌, w32, w64, ap₂}
use Rattle.std.proofs.lemmas.Int.{to_z-of_z}
use Rattle.std.specs.FinMap.{entries}
use Rattle.zk_table.specs.Nodes.{with_child}
use Rattle.zk_table.specs.States.{path_cmp, changed}
use Rattle.zk_table.proofs.Sorted.{placed, sorted_from_entries, kept_from_entries}
use Rattle.zk_table.proofs.Changes.{entries_changed, unchanged_missing}
use Rattle.zk_table.proofs.nodes.Nodes.add_child.Goals as goal
use Rattle.zk_table.proofs.nodes.Nodes.add_child.Goals.{After-self-1}

after : (c : After-self-1) → set c.self.inside.entries.items c.in-Ok.at (c.index_mut.result.now.0, c.add_child.new.self) ≡ entries (changed c.args.self.now c.args.path.now (with_child c.args.zxid c.args.count))
after c =
    entries_changed c.self.inside.entries.items c.args.self.now c.args.path.now c.self.invariant c.self.view_is (with_child c.args.zxid c.args.count) c.in-Ok.at c.index_mut.result.now c.add_child.new.self
    (placed path_cmp c.args.path.now c.deref.result.now _ _ _ c.deref.ensures.value c.position_of.ensures.place c.in-Ok.is)
    c.index_mut.ensures.value
    (c.add_child.ensures ∙ ap₂ (λ zxid count. with_child zxid count c.index_mut.result.now.1) (to_z-of_z w64 c.args.zxid c.ranges.zxid) (to_z-of_z w32 c.args.count c.ranges.count))

pub invariant_of-self : goal.invariant_of-self
invariant_of-self c = sorted_from_entries path_cmp _ _ (after c)

pub returns-in-Ok : goal.returns-in-Ok
returns-in-Ok c = kept_from_entries path_cmp _ _ (after c)

pub returns-in_default : goal.returns-in_default
returns-in_default c =
    unchanged_missing c.self.inside.entries.items c.args.self.now c.args.path.now c.self.invariant c.self.view_is (with_child c.args.zxid c.args.count) _
    (placed path_cmp c.args.path.now c.deref.result.now _ _ _ c.deref.ensures.value c.position_of.ensures.place c.in_default.is)
