use Rattle.zk_peer_links.proofs.Streams.{exact}
use Rattle.zk_peer_links.proofs.laws.links_are_exact.Goals as goal

pub returns : goal.returns
returns c = exact
