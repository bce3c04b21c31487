use Rattle.std.proofs.Common.{◌≡◌, ◌++◌, length, take}
use Rattle.std.specs.List.{flat_map, AllByRecursion}
use Rattle.zab_frames.specs.Messages.{long_word, identity}
use Rattle.zab_frames.specs.Ranges.{IsIdentity}
use Rattle.zab_frames.proofs.field_writers.put_identities.Given as goal

abbrev pub invariant-loop-id : goal.invariant-loop-id
invariant-loop-id l = record {
  written : l.out.items ≡ l.fn.out.items ++ (long_word (length l.id-items) ++ flat_map identity (take l.id-index l.id-items));
  known : AllByRecursion IsIdentity (take l.id-index l.id-items);
}
