-- The weights so far stand in front of those that are still read.
use Rattle.std.proofs.Common.{◌≡◌, ◌-◌, length}
use Rattle.zk_listing.specs.Reading.{many_at, behind}
use Rattle.zk_run_script.specs.FirstLineReading.{weight_at}
use Rattle.zk_run_script.proofs.first_line_reading.each.Given as goal

abbrev pub invariant-loop : goal.invariant-loop
invariant-loop l =
    (behind l.weights (many_at weight_at (l.count - l.counter) l.input.now) ≡ many_at weight_at l.fn.count l.fn.input.now)
    × (length l.weights ≡ l.counter)
