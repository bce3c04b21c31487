-- The lines so far were appended.
use Rattle.std.proofs.Common.{◌≡◌, ◌++◌, take}
use Rattle.std.specs.List.{flat_map}
use Rattle.std.specs.String.{string_bytes}
use Rattle.zk_directory_state.specs.UnreadFiles.{unread_snapshot}
use Rattle.zk_directory_state.proofs.unread_lines.push_unread_snapshots.Given as goal

abbrev pub invariant-loop-name : goal.invariant-loop-name
invariant-loop-name l = string_bytes l.text ≡ string_bytes l.fn.text ++ flat_map (λ name. unread_snapshot (string_bytes name)) (take l.name-index l.names)
