use Rattle.std.proofs.Common.{◌≡◌, ◌++◌, [], cond, map, w64, to_z, of_z, sym, ap, ◌∙◌}
use Rattle.std.proofs.lemmas.Int.{to_z-of_z}
use Rattle.std.proofs.lemmas.List.{append-nil}
use Rattle.std.specs.FinMap as finite
use Rattle.zk_tree.proofs.Owning.{owns_some}
use Rattle.zk_tree.proofs.Sorting.{text_entry}
use Rattle.zk_replay.specs.Drafts.{owned_in}
use Rattle.zk_replay.proofs.Maps.{entries-map_of}
use Rattle.zk_replay.proofs.draft_nodes.DraftNodes.owned_by.Goals as goal

pub returns : goal.returns
returns c =
    let items = c.loop-draft.paths.items in
    let session = to_z w64 (of_z w64 c.args.session) in
    let same : session ≡ c.args.session = to_z-of_z w64 c.args.session c.ranges.session in
    sym (append-nil items)
    ∙ ap (λ es. items ++ owned_in session (map text_entry es)) (sym c.in-None.ensures.steps.0)
    ∙ c.loop-draft.invariant
    ∙ ap (λ es. owned_in session (map text_entry es)) (c.into_iter-draft-iterator.ensures.into_iter_gives ∙ c.iter-draft-items.ensures.rest)
    ∙ ap (owned_in session) (sym (entries-map_of c.self.inside.map.entries c.iter-draft-items.ensures.ordered) ∙ ap finite.entries c.self.view_is)
    ∙ ap (λ s. owned_in s (finite.entries c.args.self.now)) same
    ∙ sym (ap (λ b. cond b [] (owned_in c.args.session (finite.entries c.args.self.now))) (owns_some c.args.session c.if-session-eq0.false))
