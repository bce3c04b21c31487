-- The watches so far are set or have fired, and those to come.
use Rattle.std.proofs.Common.{◌≡◌, ◌++◌, [], drop}
use Rattle.zk_hub.specs.Reads.{reader, KeepsNodes}
use Rattle.zk_hub.specs.Resumptions.{after_watches, events_of}
use Rattle.zk_hub.proofs.reading.resume_watches.Given as goal

abbrev pub invariant-loop-watch : goal.invariant-loop-watch
invariant-loop-watch g l = record {
  written : l.host.tree.news ≡ [];
  after : after_watches l.resumption (drop l.watch-index l.watches) (reader l.host.tree l.connection) ≡ after_watches l.fn.resumption l.fn.watches (reader l.fn.host.tree l.fn.connection);
  events : l.events.items ++ events_of l.resumption (drop l.watch-index l.watches) (reader l.host.tree l.connection) ≡ events_of l.fn.resumption l.fn.watches (reader l.fn.host.tree l.fn.connection);
  nodes : KeepsNodes (reader l.fn.host.tree l.fn.connection) (reader l.host.tree l.connection);
  rest : (l.host.host ≡ l.fn.host.host) × ((l.host.shown ≡ l.fn.host.shown) × (l.host.tags ≡ l.fn.host.tags));
}
