-- The events so far were appended.
use Rattle.std.proofs.Common.{◌≡◌, ◌++◌, take}
use Rattle.std.specs.List.{flat_map}
use Rattle.std.specs.String.{string_bytes}
use Rattle.zk_line_protocol.specs.Answers.{event_line}
use Rattle.zk_line_protocol.proofs.telling.push_events.Given as goal

abbrev pub invariant-loop-event : goal.invariant-loop-event
invariant-loop-event l = string_bytes l.page ≡ string_bytes l.fn.page ++ flat_map event_line (take l.event-index l.events)
