use Rattle.std.proofs.Common.{is_some, sym, ap, ◌∙◌}
use Rattle.std.specs.FinMap as finite
use Rattle.std.specs.Prelude.{is_none}
use Rattle.zk_table.specs.Operations.{delete_fault}
use Rattle.zk_fold.specs.Slots.{nodes_at}
use Rattle.zk_fold.proofs.Counting.{contains-nodes_at}
use Rattle.zk_fold.proofs.Deeds.{root_stays, nothing_goes, childless_goes}
use Rattle.zk_fold.proofs.node_index.NodeIndex.is_loose.Goals as goal

pub returns-in_default : goal.returns-in_default
returns-in_default c = root_stays c.args.self.now c.args.path.now c.in_default.ensures

pub returns-in-Some-get : goal.returns-in-Some-get
returns-in-Some-get c =
    let m = c.self.inside.places in
    let path = c.args.path.now in
    let found = c.in-Some-get.ensures ∙ ap (finite.get m) c.text.ensures.text in
    childless_goes (nodes_at m) path c.in-Some._parent.now c.in-Some.ensures (contains-nodes_at m path ∙ ap is_some (sym found)) c.in-Some-get.place.now.children (c.self.invariant.0.counts path c.in-Some-get.place.now (sym found))
    ∙ ap (λ n. is_none (delete_fault n path)) c.self.view_is

pub returns-in-None : goal.returns-in-None
returns-in-None c =
    let m = c.self.inside.places in
    let path = c.args.path.now in
    let found = c.in-None.ensures ∙ ap (finite.get m) c.text.ensures.text in
    nothing_goes (nodes_at m) path c.in-Some._parent.now c.in-Some.ensures (contains-nodes_at m path ∙ ap is_some (sym found))
    ∙ ap (λ n. is_none (delete_fault n path)) c.self.view_is
