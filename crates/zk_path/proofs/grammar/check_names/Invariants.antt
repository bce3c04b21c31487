use Rattle.std.proofs.Common.{◌≡◌, length, drop}
use Rattle.std.specs.List.{slice_split}
use Rattle.zk_path.specs.Paths.{is_slash, first_fault}
use Rattle.zk_path.proofs.grammar.check_names.Given as goal

-- the fault of the remaining names is that of all
abbrev pub invariant-loop-name : goal.invariant-loop-name
invariant-loop-name l =
    first_fault (drop (length l.yielded) (slice_split is_slash l.names)) ≡ first_fault (slice_split is_slash l.names)
