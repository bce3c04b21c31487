use Rattle.std.proofs.Common.{◌≡◌, false, true, w64, to_z, of_z, rules, sym, ap, ◌∙◌}
use Rattle.std.specs.FinMap as finite
use Rattle.std.specs.Prelude.{is_none}
use Rattle.zk_table.specs.Operations.{create_fault}
use Rattle.zk_fold.specs.Slots.{nodes_at, is_fit}
use Rattle.zk_fold.proofs.Counting.{contains-nodes_at, some_copied}
use Rattle.zk_fold.proofs.Making.{taken_fault, open_is, owner_test}
use Rattle.zk_fold.proofs.node_index.NodeIndex.is_open.Goals as goal

pub returns-then-is_some : goal.returns-then-is_some
returns-then-is_some c =
    let m = c.self.inside.places in
    let path = c.args.path.now in
    let there : finite.contains_key m path ≡ true = some_copied c.get.result (finite.get m path) (c.get.ensures ∙ ap (finite.get m) c.text.ensures.text) true (sym c.is_some.ensures ∙ c.if-is_some.true) in
    sym (taken_fault (nodes_at m) path (contains-nodes_at m path ∙ there)) ∙ ap (λ n. is_none (create_fault n path)) c.self.view_is

pub returns-in-Some-get : goal.returns-in-Some-get
returns-in-Some-get c =
    let m = c.self.inside.places in
    let path = c.args.path.now in
    let free : finite.contains_key m path ≡ false = some_copied c.get.result (finite.get m path) (c.get.ensures ∙ ap (finite.get m) c.text.ensures.text) false (sym c.is_some.ensures ∙ c.if-is_some.false) in
    let read : to_z w64 (of_z w64 c.in-Some-get.place.now.node.owner) ≡ c.in-Some-get.place.now.node.owner = search rules in
    owner_test c.in-Some-get.place.now.node.owner read
    ∙ ap is_fit c.in-Some-get.ensures
    ∙ open_is m path c.in-Some.parent.now c.in-Some.ensures free
    ∙ ap (λ n. is_none (create_fault n path)) c.self.view_is

pub returns-in-None : goal.returns-in-None
returns-in-None c =
    let m = c.self.inside.places in
    let path = c.args.path.now in
    let free : finite.contains_key m path ≡ false = some_copied c.get.result (finite.get m path) (c.get.ensures ∙ ap (finite.get m) c.text.ensures.text) false (sym c.is_some.ensures ∙ c.if-is_some.false) in
    ap is_fit c.in-None.ensures
    ∙ open_is m path c.in-Some.parent.now c.in-Some.ensures free
    ∙ ap (λ n. is_none (create_fault n path)) c.self.view_is
