use Rattle.std.proofs.Common.{◌+◌, List, set, ℕ, rules, subst, sym}
use Rattle.zk_peer_links.proofs.Writing.{IsWrittenUpTo, writes_more}
use Rattle.zk_peer_links.proofs.links.Links.write.Goals as goal

pub loop-place-preserved : goal.loop-place-preserved
loop-place-preserved c =
    let links = c.args.self.now.links.items in
    let bytes = c.in_ok-bytes.bytes in
    record {
      written = subst (λ (outputs : List (List ℕ)). IsWrittenUpTo c.args.notice.now c.args.sessions.now c.args.messages.now links (c.loop-place.place + 1) (set c.loop-place.self.links.items c.loop-place.place c.write_to.new.link) outputs) (sym c.in_ok-push.ensures.items)
          (writes_more c.args.notice.now c.args.sessions.now c.args.messages.now links c.loop-place.place c.loop-place.self.links.items c.loop-place.outputs.items c.index_mut-link.result.now c.write_to.new.link bytes
          c.loop-place.invariant.written (search rules) (search rules) c.in_ok-bytes.ensures.told c.in_ok-bytes.ensures.written);
      me = c.loop-place.invariant.me;
    }
