use Rattle.std.proofs.Common.{◌≡◌, sym, ap, ◌∙◌}
use Rattle.std.specs.FinMap.{entries}
use Rattle.zk_table.specs.Places.{position_of}
use Rattle.zk_table.specs.States.{path_cmp}
use Rattle.zk_table.proofs.Sorted.{placed, entries_of_kept, sorted_from_entries, kept_from_entries}
use Rattle.zk_machine.specs.Preimages.{noted}
use Rattle.zk_path.specs.Paths.{fault_of}
use Rattle.zk_machine.specs.Restoring.{all_begin, begins_with_slash}
use Rattle.zk_machine.proofs.Slashes.{all_begin-insert, path_begins}
use Rattle.zk_machine.proofs.PreimageLaws.{noted_there, noted_new}
use Rattle.zk_machine.proofs.preimages.Preimages.note.Goals as goal
use Rattle.zk_machine.proofs.preimages.Preimages.note.Goals.{In_ok-insert-in-Err}

inserted : (c : In_ok-insert-in-Err) → c.insert.new.self.items ≡ entries (noted c.args.self.now c.args.path c.args.before)
inserted c =
    c.in_ok-insert-in-Err.ensures.items
    ∙ noted_new c.args.self.now c.self.inside.notes.items c.args.path c.args.before c.in-Err.at
    (entries_of_kept path_cmp _ _ c.self.invariant.0 c.self.view_is)
    (ap (λ k. position_of path_cmp k c.self.inside.notes.items) (sym c.text.ensures.text) ∙ placed path_cmp c.text.result.now c.deref.result.now _ _ _ c.deref.ensures.value c.position_of.ensures.place c.in-Err.is)

pub invariant_of-self : goal.invariant_of-self
invariant_of-self c = (
  sorted_from_entries path_cmp _ _ (inserted c),
  ap all_begin c.in_ok-insert-in-Err.ensures.items ∙ all_begin-insert c.self.inside.notes.items c.in-Err.at (c.args.path, c.args.before) c.self.invariant.1 (ap begins_with_slash (sym c.text.ensures.text) ∙ path_begins c.text.result.now (ap fault_of c.text.ensures.text ∙ c.text.ensures.is_path)),
)

pub returns-in-Ok : goal.returns-in-Ok
returns-in-Ok c =
    noted_there c.args.self.now c.self.inside.notes.items c.args.path c.args.before c.in-Ok.field-0
    (entries_of_kept path_cmp _ _ c.self.invariant.0 c.self.view_is)
    (ap (λ k. position_of path_cmp k c.self.inside.notes.items) (sym c.text.ensures.text) ∙ placed path_cmp c.text.result.now c.deref.result.now _ _ _ c.deref.ensures.value c.position_of.ensures.place c.in-Ok.is)

pub returns-in_ok-insert-in-Err : goal.returns-in_ok-insert-in-Err
returns-in_ok-insert-in-Err c = kept_from_entries path_cmp _ _ (inserted c)
