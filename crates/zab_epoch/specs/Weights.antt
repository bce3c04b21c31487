-- Which weights are accepted.
use Rattle.std.specs.Prelude.{ℕ, ◌==◌, ◌&&◌, nat_le, List, length, Option, Some, None, if◌then◌else◌}
use Rattle.std.specs.List.{sum}
use Rattle.zab_epoch.specs.declared.weight_fault.WeightFault.{WeightFault}
use Rattle.zab_epoch.specs.declared.weight_fault.WeightFault.TheVariants as faults

-- why weights are rejected: there must be 2 to 15, and not all 0
abbrev pub weight_fault : List ℕ → Option WeightFault
weight_fault weights =
    if nat_le 2 (length weights) && nat_le (length weights) 15
    then (if sum weights == 0 then Some faults.NoWeight else None)
    else Some faults.Count
