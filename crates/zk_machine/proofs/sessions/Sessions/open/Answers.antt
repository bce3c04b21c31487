use Rattle.std.proofs.Common.{◌≡◌, rules, Some, set, refl, sym, ap, ◌∙◌, to_z, of_z, w32}
use Rattle.std.proofs.lemmas.Cmp.{nat_cmp_total}
use Rattle.std.proofs.lemmas.Int.{to_z-of_z}
use Rattle.std.specs.FinMap.{entries}
use Rattle.std.specs.FinMap as finite
use Rattle.std.specs.Ordering.{nat_cmp}
use Rattle.zk_table.proofs.Sorted.{sorted_from_entries, kept_from_entries}
use Rattle.zk_machine.proofs.Kept.{get_found, get_missing, entries_replaced, entries_added}
use Rattle.zk_machine.proofs.sessions.Sessions.open.Goals as goal
use Rattle.zk_machine.proofs.sessions.Sessions.open.Goals.{After-self-1, In_ok-insert-in-Err}

replaced : (c : After-self-1) → set c.self.inside.entries.items c.in-Ok.at (c.index_mut.result.now.0, to_z w32 (of_z w32 c.args.timeout)) ≡ entries (finite.insert c.args.self.now c.args.session c.args.timeout)
replaced c =
    entries_replaced nat_cmp_total c.self.inside.entries.items c.args.self.now c.args.session c.self.invariant c.self.view_is _ c.deref.ensures.value _ _ c.position_of.ensures.place c.in-Ok.is c.in-Ok.at refl c.index_mut.result.now c.index_mut.ensures.value (to_z w32 (of_z w32 c.args.timeout))
    ∙ ap (λ v. entries (finite.insert c.args.self.now c.args.session v)) (to_z-of_z w32 c.args.timeout c.ranges.timeout)

inserted : (c : In_ok-insert-in-Err) → c.insert.new.self.items ≡ entries (finite.insert c.args.self.now c.args.session c.args.timeout)
inserted c =
    c.in_ok-insert-in-Err.ensures.items
    ∙ entries_added nat_cmp_total c.self.inside.entries.items c.args.self.now c.args.session c.self.invariant c.self.view_is _ c.deref.ensures.value _ _ c.position_of.ensures.place c.in-Err.is c.in-Err.at refl (to_z w32 (of_z w32 c.args.timeout))
    ∙ ap (λ v. entries (finite.insert c.args.self.now c.args.session v)) (to_z-of_z w32 c.args.timeout c.ranges.timeout)

pub invariant_of-self : goal.invariant_of-self
invariant_of-self c = sorted_from_entries nat_cmp _ _ (replaced c)

pub invariant_of-self-in-Err : goal.invariant_of-self-in-Err
invariant_of-self-in-Err c = sorted_from_entries nat_cmp _ _ (inserted c)

pub returns-in-Ok-clause-before : goal.returns-in-Ok-clause-before
returns-in-Ok-clause-before c =
    let read : to_z w32 (of_z w32 c.index.result.now.1) ≡ c.index.result.now.1 = search rules in
    ap Some read
    ∙ sym (get_found nat_cmp_total c.self.inside.entries.items c.args.self.now c.args.session c.self.invariant c.self.view_is _ c.deref.ensures.value _ _ c.position_of.ensures.place c.in-Ok.is c.in-Ok.at refl c.index.result.now c.index.ensures)

pub returns-in-Ok-clause-opened : goal.returns-in-Ok-clause-opened
returns-in-Ok-clause-opened c = kept_from_entries nat_cmp _ _ (replaced c)

pub returns-in_ok-insert-in-Err-clause-before : goal.returns-in_ok-insert-in-Err-clause-before
returns-in_ok-insert-in-Err-clause-before c =
    sym (get_missing nat_cmp_total c.self.inside.entries.items c.args.self.now c.args.session c.self.invariant c.self.view_is _ c.deref.ensures.value _ _ c.position_of.ensures.place c.in-Err.is c.in-Err.at refl)

pub returns-in_ok-insert-in-Err-clause-opened : goal.returns-in_ok-insert-in-Err-clause-opened
returns-in_ok-insert-in-Err-clause-opened c = kept_from_entries nat_cmp _ _ (inserted c)
