-- What was written so far.
use Rattle.std.proofs.Common.{◌≡◌}
use Rattle.zk_listings.specs.Followings.{Writes, first_place, place_of}
use Rattle.zk_records.specs.Sinks.{write_failures_of}
use Rattle.zk_listings.proofs.polling.follow.Given as goal

abbrev pub invariant-looks : goal.invariant-looks
invariant-looks g l = record {
  writes : Writes g.O.Write.contents (g.G.GrowingLogs.gives l.fn.logs) (first_place l.fn.form) l.fn.output l.output (place_of l.follower);
  failures : write_failures_of l.output ≡ write_failures_of l.fn.output;
  faults : l.faults ≡ l.fn.faults;
}
