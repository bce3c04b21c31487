use Rattle.std.proofs.Common.{◌≡◌, Some, true, is_some, length, sym, ap, ◌∙◌}
use Rattle.std.proofs.lemmas.Bool.{false≢true}
use Rattle.std.specs.FinMap as finite
use Rattle.std.specs.Option.{option_map}
use Rattle.zk_path.specs.Paths.{parent_of}
use Rattle.zk_table.specs.States.{children_of}
use Rattle.zk_tree.specs.Branches.{nodes_of}
use Rattle.zk_tree.proofs.Branching.{contains_key-nodes_of, get-nodes_of, left_there, branching_taken, nodes_taken}
use Rattle.zk_tree.proofs.branches.Branches.take.Goals as goal

pub unreachable-requires-in_default-remove : goal.unreachable-requires-in_default-remove
unreachable-requires-in_default-remove c =
    let m = c.self.inside.slots in
    let path = c.args.path.now in
    let here : finite.contains_key (nodes_of m) path ≡ true = ap (λ m. finite.contains_key m path) c.self.view_is ∙ c.requires.there in
    let below : Some c.in-Some.parent.now ≡ parent_of path = c.in-Some.ensures in
    let none : length (children_of (nodes_of m) path) ≡ 0 = ap (λ m. length (children_of m path)) c.self.view_is ∙ c.requires.childless in
    let kept : finite.get c.lose_child.new.self c.text-2.result.now ≡ finite.get m path = ap (finite.get c.lose_child.new.self) c.text-2.ensures.text ∙ left_there m path c.in-Some.parent.now c.self.invariant here below none c.text.result.now c.text.ensures.text c.lose_child.new.self c.lose_child.ensures in
    false≢true (ap is_some (c.in_default-remove.ensures.gone ∙ kept) ∙ sym (contains_key-nodes_of m path) ∙ here)

pub invariant_of-self : goal.invariant_of-self
invariant_of-self c =
    let m = c.self.inside.slots in
    let path = c.args.path.now in
    let here : finite.contains_key (nodes_of m) path ≡ true = ap (λ m. finite.contains_key m path) c.self.view_is ∙ c.requires.there in
    let below : Some c.in-Some.parent.now ≡ parent_of path = c.in-Some.ensures in
    let none : length (children_of (nodes_of m) path) ≡ 0 = ap (λ m. length (children_of m path)) c.self.view_is ∙ c.requires.childless in
    branching_taken m path c.in-Some.parent.now c.self.invariant here below none c.text.result.now c.text.ensures.text c.lose_child.new.self c.lose_child.ensures c.text-2.result.now c.text-2.ensures.text c.remove.new.self c.remove.ensures.rest

pub returns-clause-was : goal.returns-clause-was
returns-clause-was c =
    let m = c.self.inside.slots in
    let path = c.args.path.now in
    let here : finite.contains_key (nodes_of m) path ≡ true = ap (λ m. finite.contains_key m path) c.self.view_is ∙ c.requires.there in
    let below : Some c.in-Some.parent.now ≡ parent_of path = c.in-Some.ensures in
    let none : length (children_of (nodes_of m) path) ≡ 0 = ap (λ m. length (children_of m path)) c.self.view_is ∙ c.requires.childless in
    let kept : finite.get c.lose_child.new.self c.text-2.result.now ≡ finite.get m path = ap (finite.get c.lose_child.new.self) c.text-2.ensures.text ∙ left_there m path c.in-Some.parent.now c.self.invariant here below none c.text.result.now c.text.ensures.text c.lose_child.new.self c.lose_child.ensures in
    ap (λ m. finite.get m path) (sym c.self.view_is) ∙ get-nodes_of m path ∙ ap (option_map (λ s. s.node)) (sym (c.in-Some-remove.ensures.gone ∙ kept))

pub returns-clause-gone : goal.returns-clause-gone
returns-clause-gone c =
    let m = c.self.inside.slots in
    let path = c.args.path.now in
    let here : finite.contains_key (nodes_of m) path ≡ true = ap (λ m. finite.contains_key m path) c.self.view_is ∙ c.requires.there in
    let below : Some c.in-Some.parent.now ≡ parent_of path = c.in-Some.ensures in
    let none : length (children_of (nodes_of m) path) ≡ 0 = ap (λ m. length (children_of m path)) c.self.view_is ∙ c.requires.childless in
    nodes_taken m path c.in-Some.parent.now c.self.invariant here below none c.text.result.now c.text.ensures.text c.lose_child.new.self c.lose_child.ensures c.text-2.result.now c.text-2.ensures.text c.remove.new.self c.remove.ensures.rest
    ∙ ap (λ m. finite.remove m path) c.self.view_is
