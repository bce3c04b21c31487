-- What was read of the line so far, without a newline.
use Rattle.std.proofs.Common.{◌≡◌, ◌-◌, ◌≤◌, ◌^◌, ℕ, List}
use Rattle.std.specs.Io.KnownBytes.{Consumes}
use Rattle.zk_log.specs.Devices.{reader_of, reads_of, read_failures_of}
use Rattle.zk_commands.specs.Lines.{Holds, IsUnended}
use Rattle.zk_commands.proofs.hearing_lines.hear_line.Given as goal

abbrev pub invariant-bytes : goal.invariant-bytes
invariant-bytes g l =
    ((text : List ℕ) × Consumes (g.L.Read.remaining (reader_of l.fn.lines)) (g.L.Read.remaining (reader_of l.lines)) text × IsUnended text × Holds l.line text)
    × (read_failures_of l.lines ≡ read_failures_of l.fn.lines)
    × (reads_of l.fn.lines ≤ reads_of l.lines)

abbrev pub decreases-bytes : goal.decreases-bytes
decreases-bytes g l = 2 ^ 64 - 1 - reads_of l.lines
