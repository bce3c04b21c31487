use Rattle.std.proofs.Common.{◌≡◌, sym, ap, subst, ◌∙◌}
use Rattle.std.specs.FinMap as finite
use Rattle.std.specs.String.{string_bytes}
use Rattle.zk_tree.specs.Branches.{nodes_of, new_slot, IsBranching}
use Rattle.zk_tree.proofs.Branching.{branching-alone, nodes-alone}
use Rattle.zk_tree.proofs.branches.Branches.new.Goals as goal

pub invariant_of-result : goal.invariant_of-result
invariant_of-result c =
    let key : string_bytes c.in_ok-key.key ≡ c.args.root = c.in_ok-key.ensures.ok ∙ c.text.ensures.text in
    let is : c.insert.new.self ≡ finite.insert finite.empty c.args.root (new_slot c.args.root c.args.node) = c.in-Ok.ensures.inserted ∙ ap (λ m. finite.insert m (string_bytes c.in_ok-key.key) (record { path = c.args.root; node = c.args.node; children = c.new.result })) c.new-slots.ensures ∙ ap (λ k. finite.insert finite.empty k (record { path = c.args.root; node = c.args.node; children = c.new.result })) key ∙ ap (λ s. finite.insert finite.empty c.args.root (record { path = c.args.root; node = c.args.node; children = s })) c.new.ensures in
    subst IsBranching (sym is) (branching-alone c.args.root c.args.node c.requires)

pub returns : goal.returns
returns c =
    let key : string_bytes c.in_ok-key.key ≡ c.args.root = c.in_ok-key.ensures.ok ∙ c.text.ensures.text in
    let is : c.insert.new.self ≡ finite.insert finite.empty c.args.root (new_slot c.args.root c.args.node) = c.in-Ok.ensures.inserted ∙ ap (λ m. finite.insert m (string_bytes c.in_ok-key.key) (record { path = c.args.root; node = c.args.node; children = c.new.result })) c.new-slots.ensures ∙ ap (λ k. finite.insert finite.empty k (record { path = c.args.root; node = c.args.node; children = c.new.result })) key ∙ ap (λ s. finite.insert finite.empty c.args.root (record { path = c.args.root; node = c.args.node; children = s })) c.new.ensures in
    ap nodes_of is ∙ nodes-alone c.args.root c.args.node c.requires
