use Rattle.std.proofs.Common.{◌≡◌, ◌≤◌, vec_len}
use Rattle.zk_servers.proofs.inbox.inboxes.Given as goal

abbrev pub invariant-loop : goal.invariant-loop
invariant-loop l = (vec_len l.inboxes ≡ l.counter) × (vec_len l.ends ≡ l.counter) × (l.servers ≤ l.inboxes.cap) × (l.servers ≤ l.ends.cap)
