-- The output for the lines so far was written.
use Rattle.std.proofs.Common.{◌≡◌, ◌-◌, ◌^◌}
use Rattle.zk_records.specs.Sinks.{writer_of, write_failures_of}
use Rattle.zk_log.specs.Devices.{reader_of, reads_of, read_failures_of}
use Rattle.zk_commands.proofs.TalkLaws.{Reached}
use Rattle.zk_commands.proofs.talking.talk.Given as goal

abbrev pub invariant-turns : goal.invariant-turns
invariant-turns g l =
    Reached l.prompts l.fn.session (g.L.Read.remaining (reader_of l.fn.lines)) (g.L.Read.remaining (reader_of l.lines)) (g.O.Write.contents (writer_of l.fn.output)) (g.O.Write.contents (writer_of l.output)) l.session
    × (read_failures_of l.lines ≡ read_failures_of l.fn.lines)
    × (write_failures_of l.output ≡ write_failures_of l.fn.output)

abbrev pub decreases-turns : goal.decreases-turns
decreases-turns g l = 2 ^ 64 - 1 - reads_of l.lines
