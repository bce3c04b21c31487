use Rattle.std.proofs.Common.{◌≡◌, set, ap, ap₂, ◌∙◌, w32, w64, of_z, to_z}
use Rattle.std.proofs.lemmas.Cmp.{nat_cmp_total}
use Rattle.std.proofs.lemmas.Int.{to_z-of_z}
use Rattle.std.specs.FinMap.{entries}
use Rattle.std.specs.FinMap as finite
use Rattle.std.specs.Ordering.{nat_cmp}
use Rattle.zk_table.proofs.Sorted.{placed, entries_of_kept, sorted_from_entries, kept_from_entries, entries_inserted, entries_set}
use Rattle.zk_table.proofs.sessions.Sessions.open.Goals as goal
use Rattle.zk_table.proofs.sessions.Sessions.open.Goals.{After-self-1, In_ok-insert-in-Err}

replaced : (c : After-self-1) → set c.self.inside.entries.items c.in-Ok.at (c.index_mut.result.now.0, to_z w32 (of_z w32 c.args.timeout)) ≡ entries (finite.insert c.args.self.now (of_z w64 c.args.session) c.args.timeout)
replaced c =
    let es = c.self.inside.entries.items in
    ap (λ x. set es c.in-Ok.at (x.0, to_z w32 (of_z w32 c.args.timeout))) c.index_mut.ensures.value
    ∙ entries_set nat_cmp_total es c.args.self.now c.cast_unsigned-number.result (to_z w32 (of_z w32 c.args.timeout)) c.in-Ok.at c.index_mut.result.now
    (entries_of_kept nat_cmp _ _ c.self.invariant c.self.view_is)
    (placed nat_cmp c.cast_unsigned-number.result c.deref.result.now _ _ _ c.deref.ensures.value c.position_of.ensures.place c.in-Ok.is)
    ∙ ap₂ (λ k v. entries (finite.insert c.args.self.now k v)) (c.cast_unsigned-number.ensures ∙ ap (of_z w64) (to_z-of_z w64 c.args.session c.ranges.session)) (to_z-of_z w32 c.args.timeout c.ranges.timeout)

inserted : (c : In_ok-insert-in-Err) → c.insert.new.self.items ≡ entries (finite.insert c.args.self.now (of_z w64 c.args.session) c.args.timeout)
inserted c =
    c.in_ok-insert-in-Err.ensures.items
    ∙ entries_inserted nat_cmp_total c.self.inside.entries.items c.args.self.now c.cast_unsigned-number.result (to_z w32 (of_z w32 c.args.timeout)) c.in-Err.at
    (entries_of_kept nat_cmp _ _ c.self.invariant c.self.view_is)
    (placed nat_cmp c.cast_unsigned-number.result c.deref.result.now _ _ _ c.deref.ensures.value c.position_of.ensures.place c.in-Err.is)
    ∙ ap₂ (λ k v. entries (finite.insert c.args.self.now k v)) (c.cast_unsigned-number.ensures ∙ ap (of_z w64) (to_z-of_z w64 c.args.session c.ranges.session)) (to_z-of_z w32 c.args.timeout c.ranges.timeout)

pub invariant_of-self : goal.invariant_of-self
invariant_of-self c = sorted_from_entries nat_cmp _ _ (replaced c)

pub invariant_of-self-in-Continue-1 : goal.invariant_of-self-in-Continue-1
invariant_of-self-in-Continue-1 c = sorted_from_entries nat_cmp _ _ (inserted c)

pub returns-in-Ok-clause-opened : goal.returns-in-Ok-clause-opened
returns-in-Ok-clause-opened c = kept_from_entries nat_cmp _ _ (replaced c)

pub returns-in_ok-insert-in-Err-clause-opened : goal.returns-in_ok-insert-in-Err-clause-opened
returns-in_ok-insert-in-Err-clause-opened c = kept_from_entries nat_cmp _ _ (inserted c)
