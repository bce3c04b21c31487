use Rattle.std.proofs.Common.{◌≡◌, ◌++◌, ◌∷◌, [], map, is_lt, append_assoc, rules, sym, ap, subst, ◌∙◌}
use Rattle.std.proofs.lemmas.Cmp.{nat_list_cmp_total}
use Rattle.std.proofs.lemmas.List.{append-nil, map-append}
use Rattle.std.proofs.lemmas.List.MinMax.{ranks_by}
use Rattle.std.proofs.lemmas.List.Sorted.{answers_always, IsPermutation-map}
use Rattle.std.specs.FinMap as finite
use Rattle.std.specs.List.Sorted.{IsPermutation}
use Rattle.zk_table.specs.States.{path_cmp}
use Rattle.zk_tree.proofs.Sorting.{sorted_entries, lent_entry, text_entry}
use Rattle.zk_fold.proofs.node_table.NodeTable.entries.Goals as goal

pub loop-text-init : goal.loop-text-init
loop-text-init c = ap (λ xs. map lent_entry xs ++ map text_entry c.into_iter-text-iterator.result) c.in_ok-entries.ensures.items

pub loop-text-preserved : goal.loop-text-preserved
loop-text-preserved c =
    let left = map text_entry c.next.new.self in
    ap (λ xs. map lent_entry xs ++ left) c.in_ok-push.ensures.items
    ∙ ap (λ xs. xs ++ left) (map-append lent_entry c.loop-text.entries.items ((c.as_str.result, c.in-Some.place) ∷ []))
    ∙ append_assoc (map lent_entry c.loop-text.entries.items) ((c.as_str.result.now, c.in-Some.place.now) ∷ []) left
    ∙ ap (λ text. map lent_entry c.loop-text.entries.items ++ (text, c.in-Some.place.now) ∷ left) c.as_str.ensures.value
    ∙ ap (λ xs. map lent_entry c.loop-text.entries.items ++ map text_entry xs) (sym c.in-Some.ensures.steps)
    ∙ c.loop-text.invariant

pub returns : goal.returns
returns c =
    let m = c.self.inside.map in
    let rest = c.into_iter-text-iterator.ensures.into_iter_gives ∙ c.iter-text-items.ensures.rest in
    let gathered : map text_entry m.entries ≡ map lent_entry c.loop-text.entries.items =
    sym (sym (append-nil (map lent_entry c.loop-text.entries.items)) ∙ ap (λ xs. map lent_entry c.loop-text.entries.items ++ map text_entry xs) (sym c.in-None.ensures.steps.0) ∙ c.loop-text.invariant ∙ ap (map text_entry) rest) in
    let moved = IsPermutation-map lent_entry c.loop-text.entries.items c.sort_unstable_by.new.self.items c.sort_unstable_by.ensures.permutation in
    let sorted = c.sort_unstable_by.ensures.sorted (λ x y. is_lt (path_cmp x.0.now y.0.now)) (ranks_by nat_list_cmp_total (λ e. e.0.now)) (answers_always _ _ _ (λ f a r g called. search rules)) in
    sorted_entries lent_entry m c.sort_unstable_by.new.self.items c.iter-text-items.ensures.unique c.iter-text-items.ensures.found (subst (λ xs. IsPermutation xs (map lent_entry c.sort_unstable_by.new.self.items)) (sym gathered) moved) sorted
    ∙ ap finite.entries c.self.view_is
