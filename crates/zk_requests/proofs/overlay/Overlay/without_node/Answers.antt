use Rattle.std.proofs.Common.{◌≡◌, ◌-◌, ap, ◌∙◌, w64}
use Rattle.std.proofs.lemmas.Int.{to_z-of_z}
use Rattle.std.proofs.lemmas.Result.{IfOk-weaker}
use Rattle.std.specs.FinMap as finite
use Rattle.std.specs.Option.{option_map}
use Rattle.zk_table.specs.Nodes.{without_child}
use Rattle.zk_requests.proofs.Recounts.{recounted_without, changed_without}
use Rattle.zk_requests.proofs.overlay.Overlay.without_node.Goals as goal

pub shaded-requires : goal.shaded-requires
shaded-requires c =
    let made : c.in_ok-above.above ≡ option_map (without_child c.args.zxid) (finite.get c.args.self c.in-Some.parent.now) = c.in_ok-above.ensures ∙ ap (λ z. option_map (without_child z) (finite.get c.args.self c.in-Some.parent.now)) (to_z-of_z w64 c.args.zxid c.ranges.zxid) in
    recounted_without c.args.self c.args.path.now c.in-Some.parent.now c.text.result.now c.text.ensures.text c.in-Some.ensures (without_child c.args.zxid) c.in_ok-above.above made c.requires _ (c.saturating_sub-children.ensures ∙ ap (λ n. n - 1) c.child_count.ensures)

pub returns : goal.returns
returns c =
    let made : c.in_ok-above.above ≡ option_map (without_child c.args.zxid) (finite.get c.args.self c.in-Some.parent.now) = c.in_ok-above.ensures ∙ ap (λ z. option_map (without_child z) (finite.get c.args.self c.in-Some.parent.now)) (to_z-of_z w64 c.args.zxid c.ranges.zxid) in
    IfOk-weaker c.shaded.result _ _ (λ after is. is ∙ changed_without c.args.self c.args.path.now c.in-Some.parent.now c.text.result.now c.text.ensures.text c.in-Some.ensures (without_child c.args.zxid) c.in_ok-above.above made c.requires) c.shaded.ensures
