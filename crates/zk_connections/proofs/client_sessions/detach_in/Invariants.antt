-- No session so far is the one to change.
use Rattle.std.proofs.Common.{◌≡◌, ◌++◌, take, drop}
use Rattle.zk_connections.specs.Sessions.{is_at, with_first, detached}
use Rattle.zk_connections.proofs.client_sessions.detach_in.Given as goal

abbrev pub invariant-loop-index : goal.invariant-loop-index
invariant-loop-index l = record {
  same : l.sessions.items ≡ l.fn.sessions.items;
  changed : with_first (is_at l.connection) detached l.fn.sessions.items ≡ take l.index l.fn.sessions.items ++ with_first (is_at l.connection) detached (drop l.index l.fn.sessions.items);
}
