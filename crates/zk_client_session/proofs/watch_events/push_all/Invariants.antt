use Rattle.std.proofs.Common.{◌≡◌, ◌++◌, take}
use Rattle.zk_client_session.specs.Replies.{events_bytes}
use Rattle.zk_client_session.proofs.watch_events.push_all.Given as goal

abbrev pub invariant-loop-event : goal.invariant-loop-event
invariant-loop-event l = l.out.items ≡ l.fn.out.items ++ events_bytes (take l.event-index l.events)
