use Rattle.std.proofs.Common.{◌≡◌, Some, None, true, unwrap_or, sym, ap, subst, ◌∙◌}
use Rattle.std.specs.FinMap as finite
use Rattle.zk_path.specs.Paths.{parent_of}
use Rattle.zk_tree.specs.Branches.{IsBranching, nodes_of, slot_changed, without_child}
use Rattle.zk_tree.proofs.Branching.{branching_placed, nodes_placed, unplaced}
use Rattle.zk_tree.proofs.branches.Branches.put.Goals as goal

pub invariant_of-self-in_default-insert : goal.invariant_of-self-in_default-insert
invariant_of-self-in_default-insert c =
    let m = c.self.inside.slots in
    let above = c.in-Some.parent.now in
    let free : finite.get (nodes_of m) c.args.path ≡ None = ap (λ m. finite.get m c.args.path) c.self.view_is ∙ c.requires.free in
    let below : Some above ≡ parent_of c.args.path = c.in-Some.ensures in
    let there : finite.contains_key (nodes_of m) above ≡ true = ap (λ m. finite.contains_key m above) c.self.view_is ∙ c.requires.below above (sym below) in
    branching_placed m c.args.path above c.self.invariant free below there _ (c.in-Ok-Ok.ensures'.ok ∙ c.text-2.ensures.text) _ c.in-Ok.ensures.noted c.args.node _ (c.in-Ok-Ok.ensures.ok ∙ c.text.ensures.text) _ c.new.ensures _ c.in_default-insert.ensures.inserted

pub returns-in_default-insert-clause-there : goal.returns-in_default-insert-clause-there
returns-in_default-insert-clause-there c =
    let m = c.self.inside.slots in
    let above = c.in-Some.parent.now in
    let free : finite.get (nodes_of m) c.args.path ≡ None = ap (λ m. finite.get m c.args.path) c.self.view_is ∙ c.requires.free in
    let below : Some above ≡ parent_of c.args.path = c.in-Some.ensures in
    let there : finite.contains_key (nodes_of m) above ≡ true = ap (λ m. finite.contains_key m above) c.self.view_is ∙ c.requires.below above (sym below) in
    nodes_placed m c.args.path above c.self.invariant free below there _ (c.in-Ok-Ok.ensures'.ok ∙ c.text-2.ensures.text) _ c.in-Ok.ensures.noted c.args.node _ (c.in-Ok-Ok.ensures.ok ∙ c.text.ensures.text) _ c.new.ensures _ c.in_default-insert.ensures.inserted
    ∙ ap (λ m. finite.insert m c.args.path c.args.node) c.self.view_is

pub invariant_of-self-2 : goal.invariant_of-self-2
invariant_of-self-2 c =
    let m = c.self.inside.slots in
    let above = c.in-Some.parent.now in
    let free : finite.get (nodes_of m) c.args.path ≡ None = ap (λ m. finite.get m c.args.path) c.self.view_is ∙ c.requires.free in
    let below : Some above ≡ parent_of c.args.path = c.in-Some.ensures in
    let there : finite.contains_key (nodes_of m) above ≡ true = ap (λ m. finite.contains_key m above) c.self.view_is ∙ c.requires.below above (sym below) in
    let path : c.in-Err.slot.path ≡ c.args.path = ap (λ both. both.1.path) c.in-Err.ensures.back in
    let parent : c.in-Some-parent.above.now ≡ above = ap (λ o. unwrap_or o above) (c.in-Some-parent.ensures ∙ ap parent_of path ∙ sym below) in
    let lost : c.lose_child.new.self ≡ slot_changed c.insert.new.self above (without_child c.args.path) = c.lose_child.ensures ∙ ap (λ k. slot_changed c.insert.new.self k (without_child c.text-3.result.now)) parent ∙ ap (λ k. slot_changed c.insert.new.self above (without_child k)) (c.text-3.ensures.text ∙ path) in
    let same : c.lose_child.new.self ≡ m = unplaced m c.args.path above c.self.invariant free below there _ (c.in-Ok-Ok.ensures'.ok ∙ c.text-2.ensures.text) _ c.in-Ok.ensures.noted c.insert.new.self c.lose_child.new.self c.in-Err.ensures.unchanged lost in
    subst IsBranching (sym same) c.self.invariant

pub returns-clause-unchanged : goal.returns-clause-unchanged
returns-clause-unchanged c =
    let m = c.self.inside.slots in
    let above = c.in-Some.parent.now in
    let free : finite.get (nodes_of m) c.args.path ≡ None = ap (λ m. finite.get m c.args.path) c.self.view_is ∙ c.requires.free in
    let below : Some above ≡ parent_of c.args.path = c.in-Some.ensures in
    let there : finite.contains_key (nodes_of m) above ≡ true = ap (λ m. finite.contains_key m above) c.self.view_is ∙ c.requires.below above (sym below) in
    let path : c.in-Err.slot.path ≡ c.args.path = ap (λ both. both.1.path) c.in-Err.ensures.back in
    let parent : c.in-Some-parent.above.now ≡ above = ap (λ o. unwrap_or o above) (c.in-Some-parent.ensures ∙ ap parent_of path ∙ sym below) in
    let lost : c.lose_child.new.self ≡ slot_changed c.insert.new.self above (without_child c.args.path) = c.lose_child.ensures ∙ ap (λ k. slot_changed c.insert.new.self k (without_child c.text-3.result.now)) parent ∙ ap (λ k. slot_changed c.insert.new.self above (without_child k)) (c.text-3.ensures.text ∙ path) in
    let same : c.lose_child.new.self ≡ m = unplaced m c.args.path above c.self.invariant free below there _ (c.in-Ok-Ok.ensures'.ok ∙ c.text-2.ensures.text) _ c.in-Ok.ensures.noted c.insert.new.self c.lose_child.new.self c.in-Err.ensures.unchanged lost in
    ap nodes_of same ∙ c.self.view_is
