use Rattle.std.proofs.Common.{rules, ◌≡◌, ◌+◌, List, [], ◌∷◌, ◌++◌, ◌∙◌, drop, Some, slice_get, sym, ap, subst, append_assoc}
use Rattle.std.specs.List.{AllByRecursion}
use Rattle.zab_epoch.specs.declared.history.Entry.{Entry}
use Rattle.zab_epoch.specs.Shortness.{IsShort}
use Rattle.zab_broadcast.proofs.Appending.{next_one, all_and_one}
use Rattle.zab_broadcast.proofs.state.State.entries_above.Goals as goal

pub loop-index-preserved : goal.loop-index-preserved
loop-index-preserved c =
    let history = c.args.self.now.peer.stable.history in
    let index = c.loop-index.index in
    let entry = c.in_ok-entry.entry in
    let at : slice_get history index ≡ Some entry = search rules in
    let next = next_one history index entry at in
    let pushed : c.push.new.self.items ≡ c.loop-index.entries.items ++ entry ∷ [] = search rules in
    let short : IsShort entry = search rules in (
      ap (λ (l : List Entry). l ++ drop (index + 1) history) pushed
          ∙ append_assoc c.loop-index.entries.items (entry ∷ []) (drop (index + 1) history)
          ∙ ap (λ (l : List Entry). c.loop-index.entries.items ++ l) (sym next)
          ∙ c.loop-index.invariant.0,
      subst (AllByRecursion IsShort) (sym pushed) (all_and_one IsShort c.loop-index.entries.items entry c.loop-index.invariant.1 short),
    )
