use Rattle.std.proofs.Common.{◌++◌, ◌∷◌, [], map, take, sym, ap, ◌∙◌, arith}
use Rattle.std.proofs.lemmas.List.{map-append, take_more, take_all}
use Rattle.zk_tree.specs.Entries.{lent, entries_of}
use Rattle.zk_fold.proofs.Lending.{place_lent, places_lent}
use Rattle.zk_tree.proofs.Sorting.{lent_entry}
use Rattle.zk_fold.proofs.node_index.NodeIndex.entries.Goals as goal

pub loop-at-init : goal.loop-at-init
loop-at-init c = ap (map lent) c.in_ok-entries.ensures.items

pub loop-at-preserved : goal.loop-at-preserved
loop-at-preserved c =
    let so_far = c.loop-at.entries.items in
    let places = c.as_slice-at-items.result.now in
    let at = c.loop-at.at-index in
    let item = c.at-item.result in
    ap (map lent) c.in_ok-push.ensures.items
    ∙ map-append lent so_far _
    ∙ ap (λ xs. xs ++ (item.1.now.path, (item.1.now.node, item.1.now.children)) ∷ []) c.loop-at.invariant
    ∙ sym (map-append place_lent (map lent_entry (take at places)) (lent_entry item ∷ []))
    ∙ ap (map place_lent) (sym (map-append lent_entry (take at places) (item ∷ [])))
    ∙ ap (λ xs. map place_lent (map lent_entry xs)) (ap (λ x. take at places ++ x ∷ []) c.at-item.is ∙ sym (take_more places at item (omega arith)))

pub returns : goal.returns
returns c =
    let places = c.as_slice-at-items.result.now in
    c.loop-at.invariant
    ∙ ap (λ xs. map place_lent (map lent_entry xs)) (take_all c.loop-at.at-index places (omega arith) ∙ c.as_slice-at-items.ensures.value)
    ∙ ap (map place_lent) c.in_ok-places.ensures
    ∙ places_lent c.self.inside.places c.self.invariant.0
    ∙ ap entries_of c.self.view_is
