use Rattle.std.proofs.Common.{◌≡◌, ◌-◌}
use Rattle.zk_jute.specs.Reading.{many_at, path_at}
use Rattle.zk_jute.proofs.Turns.{with_front}
use Rattle.zk_newer_records.proofs.operations.some_paths.Given as goal

abbrev pub invariant-loop : goal.invariant-loop
invariant-loop l = with_front l.paths.items (many_at path_at (l.count - l.counter) l.input.now) ≡ many_at path_at l.fn.count l.fn.input.now
