-- Sessions that are closed, one after another, and those of a new leader.
use Rattle.std.proofs.Common.{◌≡◌, ◌∙◌, ℕ, ℤ, List, ◌∷◌, Option, Result, Ok, Err, OnOk, refl, ap}
use Rattle.zab_broadcast.specs.Calls.{Setting}
use Rattle.zk_client_port.specs.Execution.{RequestsTo}
use Rattle.zk_client_port.specs.declared.fault.ServeFault.{ServeFault}
use Rattle.zk_client_port.specs.Sessions.{adopted, renewed}
use Rattle.zk_client_port.specs.declared.admission.Admission.{Admission}
use Rattle.zk_client_service.specs.Expiries.{closing, AllKnown, Closes, NoMemory, Renews}
use Rattle.zk_host.specs.declared.replica_host.ReplicaHost.{ReplicaHost}
use Rattle.zk_path.specs.declared.memory.NoMemory.{NoMemory as Fault}
use Rattle.zk_requests.specs.declared.call.Call.{Call}

pub closes_next : {S : Type 0} (setting : Setting Call) (now session : ℤ) (sessions : List ℤ) (old between new : ReplicaHost S) (result : Result (Option ℕ) ServeFault) → RequestsTo setting (closing session now) old between result
    → Closes setting now sessions between new → Closes setting now (session ∷ sessions) old new
closes_next setting now session sessions old between new result asks rest = (between, result, asks, rest)

pub renews : (now : ℤ) (known : List (ℕ × ℤ)) (old between new : Admission) (result : Result (Unit {0}) Fault) → OnOk result (between ≡ record old { sessions = adopted now known old.sessions })
    → new ≡ record between { sessions = renewed now known between.sessions } → Renews now known old new
renews now known old between new (Ok x) adopts is =
    AllKnown (is ∙ ap (λ (it : Admission). record it { sessions = renewed now known it.sessions }) adopts)
renews now known old between new (Err fault) adopts is = NoMemory between is
