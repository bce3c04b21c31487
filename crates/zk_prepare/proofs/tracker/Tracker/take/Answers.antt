use Rattle.std.proofs.Common.{refl, ◌∙◌}
use Rattle.std.proofs.lemmas.Cmp.{nat_cmp_total}
use Rattle.std.specs.FinMap.{nat_cmp-IsAntisymmetric}
use Rattle.std.specs.Ordering.{nat_cmp}
use Rattle.zk_machine.proofs.Kept.{removed_there, removed_none, still_sorted}
use Rattle.zk_prepare.proofs.tracker.Tracker.take.Goals as goal

pub invariant_of-self : goal.invariant_of-self
invariant_of-self c = still_sorted nat_cmp c.self.inside.entries.items _ c.in-Ok.at c.self.invariant c.remove.ensures.items

pub returns-in-Ok : goal.returns-in-Ok
returns-in-Ok c =
    removed_there nat_cmp_total c.self.inside.entries.items c.args.self.now c.args.session c.self.invariant c.self.view_is _ c.deref.ensures.value _ _ c.position_of.ensures.place c.in-Ok.is c.in-Ok.at nat_cmp-IsAntisymmetric refl _ c.remove.ensures.items

pub returns-in-Err : goal.returns-in-Err
returns-in-Err c =
    removed_none nat_cmp_total c.self.inside.entries.items c.args.self.now c.args.session c.self.invariant c.self.view_is _ c.deref.ensures.value _ _ c.position_of.ensures.place c.in-Err.is c.in-Err.field-0 nat_cmp-IsAntisymmetric refl
