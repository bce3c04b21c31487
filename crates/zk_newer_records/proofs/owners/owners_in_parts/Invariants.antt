use Rattle.std.proofs.Common.{◌≡◌, take}
use Rattle.zk_newer_records.specs.Changes.{owners_in_parts}
use Rattle.zk_newer_records.specs.NewerRecords.{paired}
use Rattle.zk_newer_records.proofs.owners.owners_in_parts.Given as goal

abbrev pub invariant-loop-index : goal.invariant-loop-index
invariant-loop-index l = l.owners.items ≡ owners_in_parts (take l.index (paired l.parts l.forms))
