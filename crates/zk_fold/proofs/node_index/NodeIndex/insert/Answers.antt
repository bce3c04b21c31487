use Rattle.std.proofs.Common.{◌≡◌, w32, w64, to_z, of_z, rules, sym, ap, subst, ◌∙◌}
use Rattle.std.specs.Prelude.{OnOk}
use Rattle.std.specs.Option.{option_copied}
use Rattle.zk_fold.proofs.Inserting.{somewhere, parent_is, stood_by}
use Rattle.zk_fold.proofs.node_index.NodeIndex.insert.Goals as goal

pub unreachable-requires-in_default-get : goal.unreachable-requires-in_default-get
unreachable-requires-in_default-get c =
    somewhere c.self.inside.places c.args.self.now c.args.path.now c.in-Some.above.now c.requires c.self.view_is c.in-Some.ensures (sym c.get.ensures ∙ ap option_copied c.in_default-get.is)

pub returns : goal.returns
returns c =
    let node = c.in-Some-get.place.now.node in
    let same = parent_is c.self.inside.places c.args.self.now c.args.path.now c.in-Some.above.now c.in-Some-get.place.now c.requires c.self.view_is c.in-Some.ensures c.in-Some-get.ensures in
    let zxid : to_z w64 (of_z w64 node.pzxid) ≡ node.pzxid = search rules in
    let count : to_z w32 (of_z w32 node.creates) ≡ node.creates = search rules in
    subst (λ nodes. OnOk c.put.result (c.put.new.self ≡ nodes)) (stood_by c.args.self.now c.args.path.now c.args.node c.requires _ _ (zxid ∙ ap (λ n. n.pzxid) same) (count ∙ ap (λ n. n.creates) same)) c.put.ensures
