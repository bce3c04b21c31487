-- What was read so far is what the reader lost; no read failed, and none met the end.
use Rattle.std.proofs.Common.{◌≡◌, ◌+◌}
use Rattle.std.specs.Io.KnownBytes.{Consumes}
use Rattle.zk_log.specs.Devices.{AsksAtMost, reader_of, reads_of}
use Rattle.zk_log_commands.specs.Reading.{ReadsOn}
use Rattle.zk_log_commands.proofs.text.read_bytes.Given as goal

abbrev pub invariant-reads : goal.invariant-reads
invariant-reads g l =
    Consumes (g.F.Read.remaining (reader_of l.fn.source)) (g.F.Read.remaining (reader_of l.source)) l.bytes.items
    × (reads_of l.source + l.left ≡ reads_of l.fn.source + l.fn.turns)
    × ReadsOn l.fn.source l.source
    × AsksAtMost 65536 l.fn.source l.source

abbrev pub decreases-reads : goal.decreases-reads
decreases-reads g l = l.left
