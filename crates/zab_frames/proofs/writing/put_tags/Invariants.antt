use Rattle.std.proofs.Common.{◌≡◌, ◌++◌, length, take}
use Rattle.std.specs.List.{flat_map, AllByRecursion}
use Rattle.zab_frames.specs.Messages.{long_word}
use Rattle.zab_frames.specs.Ranges.{IsLongWord}
use Rattle.zab_frames.proofs.writing.put_tags.Given as goal

abbrev pub invariant-loop-tag : goal.invariant-loop-tag
invariant-loop-tag l = record {
  written : l.out.items ≡ l.fn.out.items ++ (long_word (length l.tags) ++ flat_map long_word (take l.tag-index l.tags));
  known : AllByRecursion IsLongWord (take l.tag-index l.tags);
}
