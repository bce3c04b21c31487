-- The lists so far, and capacity for all.
use Rattle.std.proofs.Common.{◌≡◌, ◌≤◌, vec_len}
use Rattle.zk_serve.proofs.servers.no_jobs.Given as goal

abbrev pub invariant-loop : goal.invariant-loop
invariant-loop l = (vec_len l.jobs ≡ l.counter) × (l.servers ≤ l.jobs.cap)
