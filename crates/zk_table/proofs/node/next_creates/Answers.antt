use Rattle.std.proofs.Common.{◌≡◌, negsuc, pos, sym, ap, ◌∙◌, to_z, w32, rules}
use Rattle.std.proofs.lemmas.Int.{to_z-of_z, wrapping_add_is}
use Rattle.zk_table.specs.Nodes.{next_creates}
use Rattle.zk_table.proofs.node.next_creates.Goals as goal

pub returns-then-count-eqminus1 : goal.returns-then-count-eqminus1
returns-then-count-eqminus1 c =
    let one_more : c.args.count ≡ negsuc 0 = sym (to_z-of_z w32 c.args.count c.ranges.count) ∙ ap (to_z w32) c.if-count-eqminus1.true in
    wrapping_add_is w32 c.args.before (pos 1) c.ranges.before (search rules) ∙ ap (next_creates c.args.before) (sym one_more)
