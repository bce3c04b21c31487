use Rattle.std.proofs.Common.{◌≡◌, ◌∙◌, ◌++◌, ℕ, List, OnOk, ap, subst}
use Rattle.std.specs.FinMap as finite
use Rattle.std.specs.List.{flat_map}
use Rattle.std.specs.String.{string_bytes}
use Rattle.zk_commands.specs.Diffs.{came_entry, came_text}
use Rattle.zk_commands.proofs.DiffLaws.{came_all}
use Rattle.zk_commands.proofs.diff.spell_came.Goals as goal

pub returns : goal.returns
returns c =
    let old = c.args.old.now in
    let new = c.args.new.now in
    let texts : flat_map (came_entry old) c.as_slice.result.now ≡ flat_map (came_text old new) (finite.entries new) =
    ap (flat_map (came_entry old)) c.as_slice.ensures.value ∙ came_all old new c.in_ok-entries.entries.items c.in_ok-entries.ensures in
    subst (λ (l : List ℕ). OnOk c.spell_came_entries.result (string_bytes c.spell_came_entries.new.page ≡ string_bytes c.args.page.now ++ l)) texts c.spell_came_entries.ensures
