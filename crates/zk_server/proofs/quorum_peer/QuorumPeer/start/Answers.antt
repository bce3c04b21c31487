use Rattle.std.proofs.Common.{sym, subst}
use Rattle.zk_server.specs.declared.site.Site.TheVariants as sites
use Rattle.zk_server.specs.Elections.{ElectionView}
use Rattle.zk_server.specs.Peers.{StartsAt, peer}
use Rattle.zk_server.proofs.Settling.{starts_at}
use Rattle.zk_server.proofs.quorum_peer.QuorumPeer.start.Goals as goal

pub returns : goal.returns
returns g c =
    let clean = g.S.Storage.is_clean in
    let may_recover = g.S.Storage.may_recover in
    let boots = g.S.Storage.boots in
    subst (λ (e : ElectionView). StartsAt clean may_recover boots c.args.me c.args.storage (peer c.args.me e (sites.Runs c.in_ok-host.host))) (sym c.new-election.ensures)
    (starts_at clean may_recover boots c.args.me c.args.storage c.in_ok-host.host c.in_ok-host.ensures.host c.in_ok-host.ensures.tags c.in_ok-host.ensures.boots c.vote.result c.vote.ensures)
