-- The bytes so far and the rest, given the byte before it, are plain if and only if the whole is.
use Rattle.std.proofs.Common.{◌≡◌, ◌&&◌, true, drop}
use Rattle.zk_path.specs.Plain.{is_plain_behind}
use Rattle.zk_path.proofs.grammar.is_plain.Given as goal

abbrev pub invariant-loop-byte : goal.invariant-loop-byte
invariant-loop-byte l = (l.plain && is_plain_behind l.behind_slash (drop l.byte-index l.names)) ≡ is_plain_behind true l.names
