use Rattle.std.proofs.Common.{◌∙◌, Option, None, refl, rules}
use Rattle.zk_peer_links.specs.Links.{LinkView}
use Rattle.zk_peer_links.proofs.Writing.{one_more}
use Rattle.zk_peer_links.proofs.links.Links.close_all.Goals as goal

pub loop-place-preserved : goal.loop-place-preserved
loop-place-preserved c = record {
  links = one_more (λ (link : Option LinkView). None) c.args.self.now.links.items c.loop-place.self.links.items c.loop-place.place c.index_mut.result.now None c.loop-place.invariant.links
      (search rules) (search rules) refl;
  me = c.loop-place.invariant.me;
}
