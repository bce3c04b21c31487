use Rattle.std.proofs.Common.{◌≡◌, ◌+◌, ap, ◌∙◌, w32, w64}
use Rattle.std.proofs.lemmas.Int.{to_z-of_z}
use Rattle.std.proofs.lemmas.Result.{IfOk-weaker}
use Rattle.std.specs.FinMap as finite
use Rattle.std.specs.Option.{option_map}
use Rattle.zk_table.specs.Nodes.{with_child}
use Rattle.zk_requests.specs.Overlays.{count_of}
use Rattle.zk_requests.proofs.Recounts.{recounted_with, changed_with}
use Rattle.zk_requests.proofs.overlay.Overlay.with_node.Goals as goal

pub shaded-requires : goal.shaded-requires
shaded-requires c =
    let made : c.in_ok-above.above ≡ option_map (with_child c.args.zxid c.args.count) (finite.get c.args.self c.in-Some.parent.now) = c.in_ok-above.ensures ∙ (λ i. option_map (with_child (to_z-of_z w64 c.args.zxid c.ranges.zxid i) (to_z-of_z w32 c.args.count c.ranges.count i)) (finite.get c.args.self c.in-Some.parent.now)) in
    recounted_with c.args.self c.args.path.now c.in-Some.parent.now c.text-2.result.now c.text-2.ensures.text c.in-Some.ensures (with_child c.args.zxid c.args.count) c.in_ok-above.above made c.requires c.args.node _ _
    (c.child_count-2.ensures ∙ ap (count_of c.args.self) c.text.ensures.text)
    (c.in-Some-checked_add.ensures.1 ∙ ap (λ n. n + 1) c.child_count.ensures)

pub returns : goal.returns
returns c =
    let made : c.in_ok-above.above ≡ option_map (with_child c.args.zxid c.args.count) (finite.get c.args.self c.in-Some.parent.now) = c.in_ok-above.ensures ∙ (λ i. option_map (with_child (to_z-of_z w64 c.args.zxid c.ranges.zxid i) (to_z-of_z w32 c.args.count c.ranges.count i)) (finite.get c.args.self c.in-Some.parent.now)) in
    IfOk-weaker c.shaded.result _ _ (λ after is. is ∙ changed_with c.args.self c.args.path.now c.in-Some.parent.now c.text-2.result.now c.text-2.ensures.text c.in-Some.ensures (with_child c.args.zxid c.args.count) c.in_ok-above.above made c.requires c.args.node) c.shaded.ensures
