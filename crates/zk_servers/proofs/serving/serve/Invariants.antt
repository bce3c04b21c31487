use Rattle.std.proofs.Common.{◌≡◌, ◌≤◌, length, take}
use Rattle.std.specs.Vec.Iter.{into_iter_items, into_iter_len}
use Rattle.zk_servers.specs.Turns.{DidTurns}
use Rattle.zk_servers.proofs.Turning.{Busy}
use Rattle.zk_servers.proofs.serving.serve.Given as goal

abbrev pub invariant-loop-job : goal.invariant-loop-job
invariant-loop-job g l = Busy (take l.turns l.fn.worker.jobs.items) l.fn.worker.seat (into_iter_items l.job-iterator) l.seat l.receipts.items l.passed l.turn

abbrev pub invariant-loop-turn : goal.invariant-loop-turn
invariant-loop-turn g l = DidTurns l.fn.worker.seat l.fn.worker.jobs.items l.turns l.seat l.receipts.items l.passed
