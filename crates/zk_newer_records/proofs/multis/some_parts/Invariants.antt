use Rattle.std.proofs.Common.{◌≡◌, ◌-◌, length}
use Rattle.zk_jute.specs.Reading.{many_at}
use Rattle.zk_jute.proofs.Turns.{with_front}
use Rattle.zk_newer_records.specs.NewerRecords.{paired}
use Rattle.zk_newer_records.specs.Reading.{newer_part_at}
use Rattle.zk_newer_records.proofs.multis.some_parts.Given as goal

abbrev pub invariant-loop : goal.invariant-loop
invariant-loop l = record {
  so_far : with_front (paired l.parts.items l.forms.items) (many_at newer_part_at (l.count - l.counter) l.input.now) ≡ many_at newer_part_at l.fn.count l.fn.input.now;
  as_many : length l.forms.items ≡ length l.parts.items;
}
