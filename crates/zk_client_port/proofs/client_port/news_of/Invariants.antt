-- The syncs so far, and those to come.
use Rattle.std.proofs.Common.{◌≡◌, ◌++◌, map, drop}
use Rattle.zk_client_port.specs.Turns.{synced}
use Rattle.zk_client_port.proofs.client_port.news_of.Given as goal

abbrev pub invariant-loop-one : goal.invariant-loop-one
invariant-loop-one l = l.news.items ++ map synced (drop l.one-index l.caught) ≡ map synced l.fn.caught
