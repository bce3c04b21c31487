-- No step so far has an end.
use Rattle.std.proofs.Common.{◌≡◌, ◌+◌, ◌*◌, drop}
use Rattle.std.specs.List.{position_or_len}
use Rattle.zk_listing.specs.Reading.{is_end}
use Rattle.zk_listing.proofs.fields.steps_len.Given as goal

abbrev pub invariant-loop-step : goal.invariant-loop-step
invariant-loop-step l = position_or_len is_end l.bytes ≡ 32 * l.step + position_or_len is_end (drop (32 * l.step) l.bytes)
