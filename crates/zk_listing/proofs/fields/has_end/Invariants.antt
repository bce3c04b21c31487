-- An end is found so far, or in the rest.
use Rattle.std.proofs.Common.{◌≡◌, ◌||◌, drop}
use Rattle.std.specs.List.{list_any}
use Rattle.zk_listing.specs.Reading.{is_end}
use Rattle.zk_listing.proofs.fields.has_end.Given as goal

abbrev pub invariant-loop-byte : goal.invariant-loop-byte
invariant-loop-byte l = (l.found || list_any is_end (drop l.byte-index l.bytes)) ≡ list_any is_end l.bytes
