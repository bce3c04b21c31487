use Rattle.std.proofs.Common.{ap, ◌∙◌, sym, subst, IsTrue, w64, of_z}
use Rattle.std.proofs.lemmas.Cmp.{nat_cmp_total}
use Rattle.std.proofs.lemmas.Int.{to_z-of_z}
use Rattle.std.specs.FinMap.{nat_cmp-IsAntisymmetric, from_sorted, is_sorted}
use Rattle.std.specs.FinMap as finite
use Rattle.std.specs.Ordering.{nat_cmp}
use Rattle.zk_table.proofs.Sorted.{placed, entries_of_kept, sorted_removed, kept_removed, missing_at_place, removed_missing}
use Rattle.zk_table.proofs.sessions.Sessions.close.Goals as goal

pub invariant_of-self : goal.invariant_of-self
invariant_of-self c = subst (λ es. IsTrue (is_sorted nat_cmp es)) (sym c.remove.ensures.items) (sorted_removed nat_cmp c.self.inside.entries.items c.in-Ok.at c.self.invariant)

pub returns-in-Ok : goal.returns-in-Ok
returns-in-Ok c =
    ap (from_sorted {R = nat_cmp}) c.remove.ensures.items
    ∙ kept_removed nat_cmp_total nat_cmp-IsAntisymmetric c.self.inside.entries.items c.args.self.now c.cast_unsigned.result c.in-Ok.at
    (entries_of_kept nat_cmp _ _ c.self.invariant c.self.view_is)
    (placed nat_cmp c.cast_unsigned.result c.deref.result.now _ _ _ c.deref.ensures.value c.position_of.ensures.place c.in-Ok.is)
    ∙ ap (finite.remove c.args.self.now) (c.cast_unsigned.ensures ∙ ap (of_z w64) (to_z-of_z w64 c.args.session c.ranges.session))

pub returns-in_default : goal.returns-in_default
returns-in_default c =
    removed_missing nat_cmp_total nat_cmp-IsAntisymmetric c.args.self.now c.cast_unsigned.result
    (missing_at_place nat_cmp_total c.self.inside.entries.items c.args.self.now c.cast_unsigned.result _
    (entries_of_kept nat_cmp _ _ c.self.invariant c.self.view_is)
    (placed nat_cmp c.cast_unsigned.result c.deref.result.now _ _ _ c.deref.ensures.value c.position_of.ensures.place c.in_default.is))
    ∙ ap (finite.remove c.args.self.now) (c.cast_unsigned.ensures ∙ ap (of_z w64) (to_z-of_z w64 c.args.session c.ranges.session))
