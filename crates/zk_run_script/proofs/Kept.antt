-- What is kept of a server's history is the history.
use Rattle.std.proofs.Common.{◌≡◌, ℕ, List, [], Option, Some, None, refl}
use Rattle.std.specs.Option.{option_map}
use Rattle.zab_epoch.specs.Entries.{txns_of}
use Rattle.zab_model.specs.Runs.{kept, stable_of, history_list, history_of}
use Rattle.zab_model.specs.ProcessStates.{ProcessState}
use Rattle.zab_model.specs.Worlds.{World, server_at}
use Rattle.zk_requests.specs.declared.call.Call.{Call}
use Rattle.zk_table.specs.declared.txn.Txn.{Txn}

told_by : (o : Option ProcessState) (txns : List Txn) → Some txns ≡ option_map (λ stable. txns_of stable.history) (kept o) → txns ≡ txns_of (history_list o)
told_by None txns is = absurd cc
told_by (Some it) txns is = cc

none_by : (o : Option ProcessState) → (let none : Option (List Txn) = None in none ≡ option_map (λ stable. txns_of stable.history) (kept o)) → txns_of (history_list o) ≡ []
none_by None is = refl
none_by (Some it) is = absurd cc

pub history_told : (w : World Call) (server : ℕ) (txns : List Txn) → Some txns ≡ option_map (λ stable. txns_of stable.history) (stable_of w server) → txns ≡ txns_of (history_of w server)
history_told w server txns is = told_by (server_at w.servers server) txns is

pub none_told : (w : World Call) (server : ℕ) → (let none : Option (List Txn) = None in none ≡ option_map (λ stable. txns_of stable.history) (stable_of w server)) → txns_of (history_of w server) ≡ []
none_told w server is = none_by (server_at w.servers server) is
