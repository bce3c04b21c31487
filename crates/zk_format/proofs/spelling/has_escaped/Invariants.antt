-- An escape is found so far, or in the rest.
use Rattle.std.proofs.Common.{◌≡◌, ◌||◌, drop}
use Rattle.std.specs.List.{list_any}
use Rattle.zk_format.specs.Spelling.{is_escaped}
use Rattle.zk_format.proofs.spelling.has_escaped.Given as goal

abbrev pub invariant-loop-byte : goal.invariant-loop-byte
invariant-loop-byte l = (l.found || list_any is_escaped (drop l.byte-index l.text)) ≡ list_any is_escaped l.text
