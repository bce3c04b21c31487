-- The entries so far are those of records that were consumed, and the bytes held are a prefix of
-- the rest.
use Rattle.std.proofs.Common.{◌≡◌, ◌+◌, ◌*◌, ◌≤◌, length}
use Rattle.std.specs.Io.KnownBytes.{prepend_known}
use Rattle.zk_log.specs.Devices.{AsksAtMost, reader_of, reads_of, read_failures_of, ends_of}
use Rattle.zk_mend.proofs.Sparing.{Seen}
use Rattle.zk_mend.specs.Walking.{Walked}
use Rattle.zk_mend.proofs.mending.walk_entries.Given as goal

abbrev pub invariant-entries : goal.invariant-entries
invariant-entries g l =
    let remaining = g.R.Read.remaining in
    record {
      walked : Walked (prepend_known l.fn.held.items (remaining (reader_of l.fn.source))) (prepend_known l.held.items (remaining (reader_of l.source))) l.walk;
      seen : Seen remaining l.fn.source l.fn.held.items l.source l.held.items l.walk;
      steps : l.walk.machine.steps ≤ l.walk.at;
      failures : read_failures_of l.source ≡ read_failures_of l.fn.source;
      ends : ends_of l.source ≡ ends_of l.fn.source;
      reads : reads_of l.source + l.turns ≡ reads_of l.fn.source + l.fn.turns;
      asks : AsksAtMost 65536 l.fn.source l.source;
      room : l.walk.at + length l.held.items + 65536 * l.turns ≤ 16 + length l.fn.held.items + 65536 * l.fn.turns;
    }

abbrev pub decreases-entries : goal.decreases-entries
decreases-entries g l = 65537 * l.turns + length l.held.items
