use Rattle.std.proofs.Common.{◌≡◌, ◌∙◌, ◌++◌, ℕ, List, OnOk, ap, subst}
use Rattle.std.specs.FinMap as finite
use Rattle.std.specs.List.{flat_map}
use Rattle.std.specs.String.{string_bytes}
use Rattle.zk_commands.specs.Shown.{entry_in, line_in}
use Rattle.zk_commands.proofs.Parts.{lines_in}
use Rattle.zk_commands.proofs.shown.push_nodes_in.Goals as goal

pub returns : goal.returns
returns c =
    let nodes = c.args.tree.now in
    let path = c.args.path.now in
    let texts : flat_map (entry_in path) c.as_slice.result.now ≡ flat_map (line_in path nodes) (finite.entries nodes) =
    ap (flat_map (entry_in path)) c.as_slice.ensures.value ∙ lines_in path nodes c.in_ok-entries.entries.items c.in_ok-entries.ensures in
    subst (λ (l : List ℕ). OnOk c.push_entries_in.result (string_bytes c.push_entries_in.new.page ≡ string_bytes c.args.page.now ++ l)) texts c.push_entries_in.ensures
