use Rattle.std.proofs.Common.{ap, ◌∙◌, sym, subst, IsTrue}
use Rattle.std.proofs.lemmas.Cmp.{nat_list_cmp_total}
use Rattle.std.specs.FinMap.{from_sorted, is_sorted}
use Rattle.zk_table.specs.States.{path_cmp}
use Rattle.zk_table.proofs.Sorted.{placed, entries_of_kept, sorted_removed, kept_removed, removed_missing}
use Rattle.zk_table.proofs.Changes.{missing_there, path_cmp-IsAntisymmetric}
use Rattle.zk_table.proofs.nodes.Nodes.remove.Goals as goal

pub invariant_of-self : goal.invariant_of-self
invariant_of-self c = subst (λ es. IsTrue (is_sorted path_cmp es)) (sym c.remove.ensures.items) (sorted_removed path_cmp c.self.inside.entries.items c.in-Ok.at c.self.invariant)

pub returns-in-Ok : goal.returns-in-Ok
returns-in-Ok c =
    ap (from_sorted {R = path_cmp}) c.remove.ensures.items
    ∙ kept_removed nat_list_cmp_total path_cmp-IsAntisymmetric c.self.inside.entries.items c.args.self.now c.args.path.now c.in-Ok.at
    (entries_of_kept path_cmp _ _ c.self.invariant c.self.view_is)
    (placed path_cmp c.args.path.now c.deref.result.now _ _ _ c.deref.ensures.value c.position_of.ensures.place c.in-Ok.is)

pub returns-in_default : goal.returns-in_default
returns-in_default c =
    removed_missing nat_list_cmp_total path_cmp-IsAntisymmetric c.args.self.now c.args.path.now
    (missing_there c.self.inside.entries.items c.args.self.now c.args.path.now c.self.invariant c.self.view_is _
    (placed path_cmp c.args.path.now c.deref.result.now _ _ _ c.deref.ensures.value c.position_of.ensures.place c.in_default.is))
