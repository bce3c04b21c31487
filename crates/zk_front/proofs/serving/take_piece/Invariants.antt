-- The bytes taken so far, and the rest of the chunk.
use Rattle.std.proofs.Common.{◌≡◌, ◌+◌, ◌≤◌, ◌++◌, List, ℕ, length}
use Rattle.zk_records.specs.Sinks.{writer_of, write_failures_of}
use Rattle.zk_front.specs.Reaching.{Goes}
use Rattle.zk_front.proofs.serving.take_piece.Given as goal

abbrev pub invariant-loop-front : goal.invariant-loop-front
invariant-loop-front g l =
    ((taken : List ℕ) × (l.piece ≡ taken ++ l.rest) × Goes g.S.Service.does l.fn.connection l.fn.service (g.W.Write.contents (writer_of l.fn.writer)) taken l.connection l.service (g.W.Write.contents (writer_of l.writer)))
    × (l.connection.lines + length l.rest ≤ l.fn.connection.lines + length l.piece)
    × (write_failures_of l.writer ≡ write_failures_of l.fn.writer)

abbrev pub decreases-loop-front : goal.decreases-loop-front
decreases-loop-front g l = length l.rest
