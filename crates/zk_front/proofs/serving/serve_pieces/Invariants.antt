-- All bytes read were taken, and all replies are written.
use Rattle.std.proofs.Common.{◌≡◌, ◌+◌, ◌*◌, ◌<◌, ◌≤◌, [], List, ℕ, length}
use Rattle.std.specs.Io.KnownBytes.{Consumes}
use Rattle.std.specs.String.{string_bytes}
use Rattle.zk_records.specs.Sinks.{writer_of, write_failures_of}
use Rattle.zk_log.specs.Devices.{AsksAtMost, reader_of, reads_of, read_failures_of}
use Rattle.zk_front.specs.Reaching.{Reached}
use Rattle.zk_front.proofs.serving.serve_pieces.Given as goal

abbrev pub invariant-reads : goal.invariant-reads
invariant-reads g l =
    let remaining = g.R.Read.remaining in
    let contents = g.W.Write.contents in
    record {
      reached : (read : List ℕ) × Consumes (remaining (reader_of l.fn.reader)) (remaining (reader_of l.reader)) read × Reached g.S.Service.does l.fn.service (contents (writer_of l.fn.writer)) read l.connection l.service (contents (writer_of l.writer));
      written : string_bytes l.connection.page ≡ [];
      lines : l.connection.lines + 65536 * l.left ≤ 65536 * l.fn.turns;
      reads : reads_of l.reader + l.left ≡ reads_of l.fn.reader + l.fn.turns;
      asks : AsksAtMost 65536 l.fn.reader l.reader;
      read_failures : read_failures_of l.reader ≡ read_failures_of l.fn.reader;
      write_failures : write_failures_of l.writer ≡ write_failures_of l.fn.writer;
      some : 0 < length l.piece;
      most : length l.piece ≤ 65536;
    }

abbrev pub decreases-reads : goal.decreases-reads
decreases-reads g l = l.left
