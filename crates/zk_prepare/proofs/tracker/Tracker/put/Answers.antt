use Rattle.std.proofs.Common.{◌≡◌, set, refl, ap, ◌∙◌, to_z, of_z, w64}
use Rattle.std.proofs.lemmas.Cmp.{nat_cmp_total}
use Rattle.std.proofs.lemmas.Int.{to_z-of_z}
use Rattle.std.specs.FinMap.{entries}
use Rattle.std.specs.FinMap as finite
use Rattle.std.specs.Ordering.{nat_cmp}
use Rattle.zk_table.proofs.Sorted.{sorted_from_entries, kept_from_entries}
use Rattle.zk_machine.proofs.Kept.{entries_replaced, entries_added}
use Rattle.zk_prepare.proofs.tracker.Tracker.put.Goals as goal
use Rattle.zk_prepare.proofs.tracker.Tracker.put.Goals.{After-self-1, In_ok-insert-in-Err}

replaced : (c : After-self-1) → set c.self.inside.entries.items c.in-Ok.at (c.index_mut.result.now.0, to_z w64 (of_z w64 c.args.deadline)) ≡ entries (finite.insert c.args.self.now c.args.session c.args.deadline)
replaced c =
    entries_replaced nat_cmp_total c.self.inside.entries.items c.args.self.now c.args.session c.self.invariant c.self.view_is _ c.deref.ensures.value _ _ c.position_of.ensures.place c.in-Ok.is c.in-Ok.at refl c.index_mut.result.now c.index_mut.ensures.value (to_z w64 (of_z w64 c.args.deadline))
    ∙ ap (λ v. entries (finite.insert c.args.self.now c.args.session v)) (to_z-of_z w64 c.args.deadline c.ranges.deadline)

inserted : (c : In_ok-insert-in-Err) → c.insert.new.self.items ≡ entries (finite.insert c.args.self.now c.args.session c.args.deadline)
inserted c =
    c.in_ok-insert-in-Err.ensures.items
    ∙ entries_added nat_cmp_total c.self.inside.entries.items c.args.self.now c.args.session c.self.invariant c.self.view_is _ c.deref.ensures.value _ _ c.position_of.ensures.place c.in-Err.is c.in-Err.at refl (to_z w64 (of_z w64 c.args.deadline))
    ∙ ap (λ v. entries (finite.insert c.args.self.now c.args.session v)) (to_z-of_z w64 c.args.deadline c.ranges.deadline)

pub invariant_of-self : goal.invariant_of-self
invariant_of-self c = sorted_from_entries nat_cmp _ _ (replaced c)

pub invariant_of-self-in-Continue-1 : goal.invariant_of-self-in-Continue-1
invariant_of-self-in-Continue-1 c = sorted_from_entries nat_cmp _ _ (inserted c)

pub returns-in-Ok-clause-there : goal.returns-in-Ok-clause-there
returns-in-Ok-clause-there c = kept_from_entries nat_cmp _ _ (replaced c)

pub returns-in_ok-insert-in-Err-clause-there : goal.returns-in_ok-insert-in-Err-clause-there
returns-in_ok-insert-in-Err-clause-there c = kept_from_entries nat_cmp _ _ (inserted c)
