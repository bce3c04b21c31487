use Rattle.zk_peers.proofs.Starting.{starts_next}
use Rattle.zk_peers.proofs.peers.start_next.Goals as goal

pub returns : goal.returns
returns g c =
    starts_next g.S.Storage.is_clean g.S.Storage.may_recover g.S.Storage.boots c.args.servers c.next_number-me.result c.args.storage c.in_ok-host.host c.args.places.now.items c.push.new.places.items
    c.next_number-me.ensures c.in_ok-host.ensures c.in_ok-push.ensures
