use Rattle.std.proofs.Common.{rules, ◌++◌, map, take, drop}
use Rattle.zk_client_port.specs.Listings.{listed}
use Rattle.zk_client_port.proofs.Each.{one_more}
use Rattle.zk_client_port.proofs.Lists.{stopped, unwritten}
use Rattle.zk_client_port.proofs.listing.write_listings.Goals as goal

pub loop-index-preserved : goal.loop-index-preserved
loop-index-preserved c =
    one_more (listed c.args.connections_text.now c.args.sessions_text.now) c.args.connections.now.items c.loop-index.connections.items c.loop-index.index c.index_mut.result.now c.write_listing.new.connection
    c.loop-index.invariant (search rules) (search rules) c.in_ok-write_listing.ensures.written

pub returns-in_err-write_listing : goal.returns-in_err-write_listing
returns-in_err-write_listing c =
    stopped c.args.connections_text.now c.args.sessions_text.now c.args.connections.now.items _ c.from_residual.result c.loop-index.index (search rules)
    (unwritten (map (listed c.args.connections_text.now c.args.sessions_text.now) (take c.loop-index.index c.args.connections.now.items) ++ drop c.loop-index.index c.args.connections.now.items) c.loop-index.connections.items c.loop-index.index
    c.index_mut.result.now c.write_listing.new.connection c.loop-index.invariant (search rules) c.in_err-write_listing.ensures.unchanged)
