use Rattle.std.proofs.Common.{◌≡◌, ◌<◌, ◌≤◌, ◌^◌, map, length, subst, arith}
use Rattle.std.specs.FinMap as finite
use Rattle.zk_tree.specs.Views.{map_of}
use Rattle.zk_tree.proofs.Sorting.{text_entry}
use Rattle.zk_fold.specs.Slots.{SlotMap}
use Rattle.zk_fold.proofs.Counting.{at_most, length_map}
use Rattle.zk_fold.proofs.node_table.NodeTable.counts.Goals as goal

pub returns : goal.returns
returns c =
    let es = c.self.inside.map.entries in
    let most : finite.len (map_of es) ≤ length (map text_entry es) = at_most (map text_entry es) in
    let same : length (map text_entry es) ≡ length es = length_map text_entry es in
    let bound : finite.len (map_of es) < 2 ^ 64 = omega (arith, most, same, c.len-count.ensures.len, c.len-count.ensures.small) in
    subst (λ (m : SlotMap). finite.len m < 2 ^ 64) c.self.view_is bound
