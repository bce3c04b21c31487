use Rattle.std.proofs.Common.{◌++◌, sym, ap, ◌∙◌}
use Rattle.std.proofs.lemmas.List.{append-nil}
use Rattle.std.specs.FinMap as finite
use Rattle.zk_fold.proofs.Timeouts.{entries_kept}
use Rattle.zk_fold.proofs.sessions.Sessions.entries.Goals as goal

pub returns : goal.returns
returns c =
    let items = c.loop-session.entries.items in
    sym (append-nil items)
    ∙ ap (λ xs. items ++ xs) (sym c.in-None.ensures.steps.0)
    ∙ c.loop-session.invariant
    ∙ c.into_iter-session-iterator.ensures.into_iter_gives
    ∙ c.iter-session-items.ensures.rest
    ∙ sym (entries_kept c.self.inside.timeouts.entries c.iter-session-items.ensures.ordered)
    ∙ ap finite.entries c.self.view_is
