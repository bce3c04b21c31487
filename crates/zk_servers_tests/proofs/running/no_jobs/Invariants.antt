-- The vector has `n` lists so far, and room for all.
use Rattle.std.proofs.Common.{◌≡◌, ◌≤◌, vec_len}
use Rattle.zk_servers_tests.proofs.running.no_jobs.Given as goal

abbrev pub invariant-loop : goal.invariant-loop
invariant-loop l = (vec_len l.jobs ≡ l.counter) × (l.servers ≤ l.jobs.cap)
