-- A transaction and its time.
use Rattle.zk_sessions.specs.declared.moment.Moment.{Moment}
use Rattle.zk_table.specs.declared.txn.Txn.{Txn}

abbrev pub moment_of : Txn → Moment
moment_of txn = record { zxid = txn.zxid; time = txn.time }
