use Rattle.std.proofs.Common.{◌≡◌, ◌++◌, ◌∷◌, [], ◌+◌, ◌≤◌, ◌<◌, length, List, ℕ, map, take, sym, ap, ◌∙◌, arith}
use Rattle.std.proofs.lemmas.List.{map-append, take_more, take_all}
use Rattle.std.specs.FinMap as finite
use Rattle.zk_tree.specs.Entries.{lent, entries_of}
use Rattle.zk_tree.proofs.Lending.{slot_lent, slots_lent}
use Rattle.zk_tree.proofs.Sorting.{lent_entry}
use Rattle.zk_tree.proofs.branches.Branches.entries.Goals as goal

pub loop-place-init : goal.loop-place-init
loop-place-init c = ap (map lent) c.in_ok-entries.ensures.items

pub loop-place-preserved : goal.loop-place-preserved
loop-place-preserved c =
    let so_far = c.loop-place.entries.items in
    let places = c.as_slice-place-items.result.now in
    let at = c.loop-place.place-index in
    let item = c.place-item.result in
    ap (map lent) c.in_ok-push.ensures.items
    ∙ map-append lent so_far _
    ∙ ap (λ xs. xs ++ (item.1.now.path, (item.1.now.node, c.len-in-loop-place.result)) ∷ []) c.loop-place.invariant
    ∙ ap (λ n. map slot_lent (map lent_entry (take at places)) ++ (item.1.now.path, (item.1.now.node, n)) ∷ []) c.len-in-loop-place.ensures
    ∙ sym (map-append slot_lent (map lent_entry (take at places)) (lent_entry item ∷ []))
    ∙ ap (map slot_lent) (sym (map-append lent_entry (take at places) (item ∷ [])))
    ∙ ap (λ xs. map slot_lent (map lent_entry xs)) (ap (λ x. take at places ++ x ∷ []) c.place-item.is ∙ sym (take_more places at item (omega arith)))

pub returns : goal.returns
returns c =
    let places = c.as_slice-place-items.result.now in
    c.loop-place.invariant
    ∙ ap (λ xs. map slot_lent (map lent_entry xs)) (take_all c.loop-place.place-index places (omega arith) ∙ c.as_slice-place-items.ensures.value)
    ∙ ap (map slot_lent) c.in_ok-slots.ensures
    ∙ slots_lent c.self.inside.slots c.self.invariant
    ∙ ap entries_of c.self.view_is
