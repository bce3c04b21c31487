use Rattle.std.proofs.Common.{◌++◌, map, sym, ap, ◌∙◌}
use Rattle.std.proofs.lemmas.List.{append-nil}
use Rattle.std.specs.FinMap as finite
use Rattle.zk_tree.proofs.Sorting.{text_entry}
use Rattle.zk_replay.specs.Drafts.{starting_in}
use Rattle.zk_replay.proofs.Maps.{entries-map_of}
use Rattle.zk_replay.proofs.draft_nodes.DraftNodes.paths_starting.Goals as goal

pub returns : goal.returns
returns c =
    let items = c.loop-draft.paths.items in
    let prefix = c.args.prefix.now in
    sym (append-nil items)
    ∙ ap (λ es. items ++ starting_in prefix (map text_entry es)) (sym c.in-None.ensures.steps.0)
    ∙ c.loop-draft.invariant
    ∙ ap (λ es. starting_in prefix (map text_entry es)) (c.into_iter-draft-iterator.ensures.into_iter_gives ∙ c.iter-draft-items.ensures.rest)
    ∙ ap (starting_in prefix) (sym (entries-map_of c.self.inside.map.entries c.iter-draft-items.ensures.ordered) ∙ ap finite.entries c.self.view_is)
