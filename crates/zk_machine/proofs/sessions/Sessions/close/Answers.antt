use Rattle.std.proofs.Common.{◌≡◌, rules, Some, refl, sym, ap, ◌∙◌, to_z, of_z, w32}
use Rattle.std.proofs.lemmas.Cmp.{nat_cmp_total}
use Rattle.std.specs.FinMap.{nat_cmp-IsAntisymmetric}
use Rattle.std.specs.Ordering.{nat_cmp}
use Rattle.zk_machine.proofs.Kept.{get_found, get_missing, removed_there, removed_none, still_sorted}
use Rattle.zk_machine.proofs.sessions.Sessions.close.Goals as goal

pub invariant_of-self : goal.invariant_of-self
invariant_of-self c = still_sorted nat_cmp c.self.inside.entries.items _ c.in-Ok.at c.self.invariant c.remove-before.ensures.items

pub returns-in-Ok-clause-before : goal.returns-in-Ok-clause-before
returns-in-Ok-clause-before c =
    let read : to_z w32 (of_z w32 c.remove-before.result.1) ≡ c.remove-before.result.1 = search rules in
    ap Some read
    ∙ sym (get_found nat_cmp_total c.self.inside.entries.items c.args.self.now c.args.session c.self.invariant c.self.view_is _ c.deref.ensures.value _ _ c.position_of.ensures.place c.in-Ok.is c.in-Ok.at refl c.remove-before.result c.remove-before.ensures.value)

pub returns-in-Ok-clause-closed : goal.returns-in-Ok-clause-closed
returns-in-Ok-clause-closed c =
    removed_there nat_cmp_total c.self.inside.entries.items c.args.self.now c.args.session c.self.invariant c.self.view_is _ c.deref.ensures.value _ _ c.position_of.ensures.place c.in-Ok.is c.in-Ok.at nat_cmp-IsAntisymmetric refl _ c.remove-before.ensures.items

pub returns-in-Err-clause-before : goal.returns-in-Err-clause-before
returns-in-Err-clause-before c =
    sym (get_missing nat_cmp_total c.self.inside.entries.items c.args.self.now c.args.session c.self.invariant c.self.view_is _ c.deref.ensures.value _ _ c.position_of.ensures.place c.in-Err.is c.in-Err.field-0 refl)

pub returns-in-Err-clause-closed : goal.returns-in-Err-clause-closed
returns-in-Err-clause-closed c =
    removed_none nat_cmp_total c.self.inside.entries.items c.args.self.now c.args.session c.self.invariant c.self.view_is _ c.deref.ensures.value _ _ c.position_of.ensures.place c.in-Err.is c.in-Err.field-0 nat_cmp-IsAntisymmetric refl
