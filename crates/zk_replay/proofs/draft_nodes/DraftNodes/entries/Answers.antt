use Rattle.std.proofs.Common.{◌++◌, ◌∷◌, [], map, append_assoc, sym, ap, ◌∙◌}
use Rattle.std.proofs.lemmas.List.{append-nil, map-append}
use Rattle.std.specs.FinMap as finite
use Rattle.zk_tree.proofs.Sorting.{text_entry}
use Rattle.zk_replay.specs.Drafts.{entry_of}
use Rattle.zk_replay.proofs.Maps.{entries-map_of}
use Rattle.zk_replay.proofs.draft_nodes.DraftNodes.entries.Goals as goal

pub loop-text-init : goal.loop-text-init
loop-text-init c = ap (λ xs. map entry_of xs ++ map text_entry c.into_iter-text-iterator.result) c.in_ok-entries.ensures.items

pub loop-text-preserved : goal.loop-text-preserved
loop-text-preserved c =
    let left = map text_entry c.next.new.self in
    ap (λ xs. map entry_of xs ++ left) c.in_ok-push.ensures.items
    ∙ ap (λ xs. xs ++ left) (map-append entry_of c.loop-text.entries.items ((c.as_str.result, c.in-Some.draft) ∷ []))
    ∙ append_assoc (map entry_of c.loop-text.entries.items) ((c.as_str.result.now, c.in-Some.draft.now) ∷ []) left
    ∙ ap (λ text. map entry_of c.loop-text.entries.items ++ (text, c.in-Some.draft.now) ∷ left) c.as_str.ensures.value
    ∙ ap (λ xs. map entry_of c.loop-text.entries.items ++ map text_entry xs) (sym c.in-Some.ensures.steps)
    ∙ c.loop-text.invariant

pub returns : goal.returns
returns c =
    let items = c.loop-text.entries.items in
    sym (append-nil (map entry_of items))
    ∙ ap (λ xs. map entry_of items ++ map text_entry xs) (sym c.in-None.ensures.steps.0)
    ∙ c.loop-text.invariant
    ∙ ap (map text_entry) (c.into_iter-text-iterator.ensures.into_iter_gives ∙ c.iter-text-items.ensures.rest)
    ∙ sym (entries-map_of c.self.inside.map.entries c.iter-text-items.ensures.ordered)
    ∙ ap finite.entries c.self.view_is
