use Rattle.std.proofs.Common.{◌≡◌, ap, sym, ◌∙◌}
use Rattle.std.specs.FinMap as finite
use Rattle.std.specs.String.{string_bytes}
use Rattle.zk_tree.specs.Views.{map_of}
use Rattle.zk_tree.proofs.Kept.{get-map_of, map_inserted}
use Rattle.zk_fold.specs.Slots.{new_place}
use Rattle.zk_fold.proofs.node_table.NodeTable.put.Goals as goal

pub returns-in-Ok-clause-before : goal.returns-in-Ok-clause-before
returns-in-Ok-clause-before c =
    let text : string_bytes c.in_ok-text.text ≡ c.args.path = c.in_ok-text.ensures.ok ∙ c.text.ensures.text in
    c.in-Ok.ensures.old
    ∙ sym (get-map_of c.self.inside.map (string_bytes c.in_ok-text.text))
    ∙ ap (finite.get (map_of c.self.inside.map.entries)) text
    ∙ ap (λ m. finite.get m c.args.path) c.self.view_is

pub returns-in-Ok-clause-there : goal.returns-in-Ok-clause-there
returns-in-Ok-clause-there c =
    let text : string_bytes c.in_ok-text.text ≡ c.args.path = c.in_ok-text.ensures.ok ∙ c.text.ensures.text in
    map_inserted (string_bytes c.in_ok-text.text) c.self.inside.map c.insert.new.self _ c.in-Ok.ensures.updates
    ∙ ap (λ m. finite.insert m (string_bytes c.in_ok-text.text) (new_place c.args.path c.args.node)) c.self.view_is
    ∙ ap (λ k. finite.insert c.args.self.now k (new_place c.args.path c.args.node)) text
