-- The lines so far.
use Rattle.std.specs.String.{string_bytes}
use Rattle.zk_listings.proofs.Finished.{AreListed}
use Rattle.zk_listings.proofs.formed_lines.push_txn_lines.Given as goal

abbrev pub invariant-loop-txn : goal.invariant-loop-txn
invariant-loop-txn l = AreListed l.fn.form l.fn.txns l.txn-index (string_bytes l.fn.text) (string_bytes l.text)
