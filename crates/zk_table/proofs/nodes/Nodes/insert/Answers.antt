use Rattle.std.proofs.Common.{◌≡◌, set, sym, ap, ◌∙◌}
use Rattle.std.proofs.lemmas.Cmp.{nat_list_cmp_total}
use Rattle.std.specs.FinMap.{entries}
use Rattle.std.specs.FinMap as finite
use Rattle.zk_table.specs.Places.{position_of}
use Rattle.zk_table.specs.States.{path_cmp}
use Rattle.zk_table.proofs.Sorted.{placed, entries_of_kept, sorted_from_entries, kept_from_entries, entries_inserted}
use Rattle.zk_table.proofs.Changes.{entries_replaced}
use Rattle.zk_table.proofs.nodes.Nodes.insert.Goals as goal
use Rattle.zk_table.proofs.nodes.Nodes.insert.Goals.{After-drop-path-inside, In_ok-insert-in-Err}

replaced : (c : After-drop-path-inside) → set c.self.inside.entries.items c.in-Ok.at (c.index_mut.result.now.0, c.args.node) ≡ entries (finite.insert c.args.self.now c.args.path c.args.node)
replaced c =
    entries_replaced c.self.inside.entries.items c.args.self.now c.args.path c.self.invariant c.self.view_is c.in-Ok.at c.index_mut.result.now c.args.node
    (ap (λ k. position_of path_cmp k c.self.inside.entries.items) (sym c.text.ensures.text) ∙ placed path_cmp c.text.result.now c.deref.result.now _ _ _ c.deref.ensures.value c.position_of.ensures.place c.in-Ok.is)
    c.index_mut.ensures.value

inserted : (c : In_ok-insert-in-Err) → c.insert.new.self.items ≡ entries (finite.insert c.args.self.now c.args.path c.args.node)
inserted c =
    c.in_ok-insert-in-Err.ensures.items
    ∙ entries_inserted nat_list_cmp_total c.self.inside.entries.items c.args.self.now c.args.path c.args.node c.in-Err.at
    (entries_of_kept path_cmp _ _ c.self.invariant c.self.view_is)
    (ap (λ k. position_of path_cmp k c.self.inside.entries.items) (sym c.text.ensures.text) ∙ placed path_cmp c.text.result.now c.deref.result.now _ _ _ c.deref.ensures.value c.position_of.ensures.place c.in-Err.is)

pub invariant_of-self : goal.invariant_of-self
invariant_of-self c = sorted_from_entries path_cmp _ _ (replaced c)

pub invariant_of-self-in-Continue-1 : goal.invariant_of-self-in-Continue-1
invariant_of-self-in-Continue-1 c = sorted_from_entries path_cmp _ _ (inserted c)

pub returns-in-Ok-clause-inserted : goal.returns-in-Ok-clause-inserted
returns-in-Ok-clause-inserted c = kept_from_entries path_cmp _ _ (replaced c)

pub returns-in_ok-insert-in-Err-clause-inserted : goal.returns-in_ok-insert-in-Err-clause-inserted
returns-in_ok-insert-in-Err-clause-inserted c = kept_from_entries path_cmp _ _ (inserted c)
