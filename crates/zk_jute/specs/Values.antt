-- Transactions as values.
use Rattle.std.specs.Prelude.{List}
use Rattle.zk_jute.specs.declared.txns.Values.{Values}
use Rattle.zk_jute.specs.declared.txns.Values.TheVariants as values
use Rattle.zk_table.specs.declared.txn.Txn.{Txn}

abbrev pub txns_of : Values → List Txn
txns_of (values.Borrowed txns) = txns.now
txns_of (values.Owned txns) = txns.items
