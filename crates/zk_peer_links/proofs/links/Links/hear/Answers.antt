use Rattle.std.proofs.Common.{◌∙◌, ℕ, [], subst}
use Rattle.zk_peer_links.specs.Links.{Hears, hearing}
use Rattle.zk_peer_links.proofs.Hearing.{hears_more}
use Rattle.zk_peer_links.proofs.links.Links.hear.Goals as goal

pub loop-index-preserved : goal.loop-index-preserved
loop-index-preserved c =
    let mid = hearing c.loop-index.self.links.items c.loop-index.heard.arrivals.items c.loop-index.heard.ended.items in
    let new = hearing c.hear_one.new.self.links.items c.hear_one.new.heard.arrivals.items c.hear_one.new.heard.ended.items in
    record {
      heard = hears_more c.args.self.now.me c.args.inputs.now (hearing c.args.self.now.links.items [] []) c.loop-index.index c.index-inputs-index.result mid new c.loop-index-test.true c.index-inputs-index.is
          c.loop-index.invariant.heard
          (subst (λ (m : ℕ). Hears m c.index-inputs-index.result mid new) c.loop-index.invariant.me c.in_ok-hear_one.ensures.hears);
      me = c.hear_one.ensures.me ∙ c.loop-index.invariant.me;
    }
