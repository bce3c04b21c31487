use Rattle.std.proofs.Common.{sym, subst}
use Rattle.zk_quorum_server.specs.Servers.{IsAtRest}
use Rattle.zk_quorum_server.proofs.Settling.{rests_without_watches}
use Rattle.zk_server.specs.declared.site.Site.{Site}
use Rattle.zk_quorum_server.proofs.server.Server.remove_over.Goals as goal

pub invariant_of-self-2 : goal.invariant_of-self-2
invariant_of-self-2 g c = record {
  rests = subst (λ (site : Site _). IsAtRest g.S.Storage.may_recover c.args.self.now.me site) (sym c.drop_watches_at.ensures)
      (rests_without_watches g.S.Storage.may_recover c.args.self.now.me c.deref.result.now c.args.self.now.site c.args.self.now.rests);
}
