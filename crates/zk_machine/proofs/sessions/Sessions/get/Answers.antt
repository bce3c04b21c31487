use Rattle.std.proofs.Common.{◌≡◌, rules, Some, refl, sym, ap, ◌∙◌, to_z, of_z, w32}
use Rattle.std.proofs.lemmas.Cmp.{nat_cmp_total}
use Rattle.zk_machine.proofs.Kept.{get_found, get_missing}
use Rattle.zk_machine.proofs.sessions.Sessions.get.Goals as goal

pub returns-in-Ok : goal.returns-in-Ok
returns-in-Ok c =
    let read : to_z w32 (of_z w32 c.index.result.now.1) ≡ c.index.result.now.1 = search rules in
    ap Some read
    ∙ sym (get_found nat_cmp_total c.self.inside.entries.items c.args.self.now c.args.session c.self.invariant c.self.view_is _ c.deref.ensures.value _ _ c.position_of.ensures.place c.in-Ok.is c.in-Ok.at refl c.index.result.now c.index.ensures)

pub returns-in-Err : goal.returns-in-Err
returns-in-Err c =
    sym (get_missing nat_cmp_total c.self.inside.entries.items c.args.self.now c.args.session c.self.invariant c.self.view_is _ c.deref.ensures.value _ _ c.position_of.ensures.place c.in-Err.is c.in-Err.field-0 refl)
