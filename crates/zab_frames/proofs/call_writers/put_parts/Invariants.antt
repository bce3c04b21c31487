use Rattle.std.proofs.Common.{◌≡◌, ◌++◌, length, take}
use Rattle.std.specs.List.{flat_map, AllByRecursion}
use Rattle.zab_frames.specs.Messages.{long_word, part_of}
use Rattle.zab_frames.specs.Ranges.{IsPart}
use Rattle.zab_frames.proofs.call_writers.put_parts.Given as goal

abbrev pub invariant-loop-part : goal.invariant-loop-part
invariant-loop-part l = record {
  written : l.out.items ≡ l.fn.out.items ++ (long_word (length l.part-items) ++ flat_map part_of (take l.part-index l.part-items));
  known : AllByRecursion IsPart (take l.part-index l.part-items);
}
