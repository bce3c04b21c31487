-- What a server has delivered.
use Rattle.std.specs.Prelude.{ℤ, List, [], ◌∷◌, take}
use Rattle.std.specs.List.{flat_map}
use Rattle.zab_broadcast.specs.declared.state.State.{State}
use Rattle.zab_epoch.specs.declared.history.Entry.{Entry}
use Rattle.zab_epoch.specs.Entries.{txns_of}
use Rattle.zk_table.specs.declared.txn.Op.{Op}
use Rattle.zk_table.specs.declared.txn.Op.TheVariants.{CloseSession}
use Rattle.zk_table.specs.declared.txn.Txn.{Txn}

abbrev pub delivered_in : State → List Entry
delivered_in state = take state.delivered state.peer.stable.history

-- the session that a transaction closes, if any: a client's closeSession, or an expiry
abbrev pub session_closed_by : Op → ℤ → List ℤ
session_closed_by CloseSession session = session ∷ []
session_closed_by op session = []

abbrev pub closed_by : Txn → List ℤ
closed_by txn = session_closed_by txn.op txn.session

-- the sessions that entries close, in order
abbrev pub closed_in : List Entry → List ℤ
closed_in entries = flat_map closed_by (txns_of entries)
