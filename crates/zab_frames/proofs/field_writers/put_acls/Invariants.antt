use Rattle.std.proofs.Common.{◌≡◌, ◌++◌, length, take}
use Rattle.std.specs.List.{flat_map, AllByRecursion}
use Rattle.zab_frames.specs.Messages.{long_word, acl_entry}
use Rattle.zab_frames.specs.Ranges.{IsAcl}
use Rattle.zab_frames.proofs.field_writers.put_acls.Given as goal

abbrev pub invariant-loop-acl : goal.invariant-loop-acl
invariant-loop-acl l = record {
  written : l.out.items ≡ l.fn.out.items ++ (long_word (length l.acl-items) ++ flat_map acl_entry (take l.acl-index l.acl-items));
  known : AllByRecursion IsAcl (take l.acl-index l.acl-items);
}
