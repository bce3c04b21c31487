use Rattle.std.proofs.Common.{List, sym, ap, subst, ◌∙◌, codes}
use Rattle.std.specs.FinMap.{find, get-entries}
use Rattle.zk_table.specs.States.{path_cmp}
use Rattle.zk_table.proofs.Sorted.{sorted_from_entries}
use Rattle.zk_machine.specs.Preimages.{Preimage}
use Rattle.zk_machine.specs.Restoring.{filled}
use Rattle.zk_machine.specs.Undoing.{IsState, all_put_back}
use Rattle.zk_machine.proofs.Restores.{put_back_in_turns}
use Rattle.zk_machine.proofs.restore.restore.Goals as goal

pub clear-requires-clause-sorted : goal.clear-requires-clause-sorted
clear-requires-clause-sorted c = sorted_from_entries path_cmp _ _ c.as_slice-notes.ensures.notes

pub clear-requires-clause-root : goal.clear-requires-clause-root
clear-requires-clause-root c = λ before found. c.requires.root before (get-entries c.args.touched.now (codes "/") ∙ ap (find path_cmp (codes "/")) (sym c.as_slice-notes.ensures.notes) ∙ found)

pub clear-requires-clause-state : goal.clear-requires-clause-state
clear-requires-clause-state c = subst (λ (es : List Preimage). IsState (all_put_back es c.args.tree.now)) (sym c.as_slice-notes.ensures.notes) c.requires.state

pub fill-requires-clause-sorted : goal.fill-requires-clause-sorted
fill-requires-clause-sorted c = sorted_from_entries path_cmp _ _ c.as_slice-notes.ensures.notes

pub fill-requires-clause-clear : goal.fill-requires-clause-clear
fill-requires-clause-clear c = (c.args.tree.now, c.clear.ensures, subst (λ (es : List Preimage). IsState (all_put_back es c.args.tree.now)) (sym c.as_slice-notes.ensures.notes) c.requires.state)

pub returns : goal.returns
returns c =
    c.in_ok-fill.ensures
    ∙ ap (filled c.as_slice-notes.result.now) c.clear.ensures
    ∙ put_back_in_turns c.as_slice-notes.result.now c.args.tree.now (sorted_from_entries path_cmp _ _ c.as_slice-notes.ensures.notes)
    ∙ ap (λ es. all_put_back es c.args.tree.now) c.as_slice-notes.ensures.notes
