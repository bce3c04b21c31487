-- The lines so far were appended.
use Rattle.std.proofs.Common.{◌≡◌, ◌++◌, take}
use Rattle.std.specs.List.{flat_map}
use Rattle.std.specs.String.{string_bytes}
use Rattle.zk_format.specs.Listings.{line_of}
use Rattle.zk_run_script.proofs.reports.push_txns.Given as goal

abbrev pub invariant-loop-txn : goal.invariant-loop-txn
invariant-loop-txn l =
    string_bytes l.page ≡ string_bytes l.fn.page ++ flat_map line_of (take l.txn-index l.txns)
