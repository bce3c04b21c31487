-- Memory runs out while a connection is served.
use Rattle.std.proofs.Common.{◌≡◌, ◌<◌, ℕ, length, get_or, refl}
use Rattle.std.proofs.lemmas.Option.{slice_get_read}
use Rattle.zab_broadcast.specs.Calls.{Setting}
use Rattle.zk_client_port.proofs.Frames.{ServedSoFar}
use Rattle.zk_client_port.specs.Execution.{Served, served}
use Rattle.zk_client_port.specs.Serving.{Breaks, BreaksFrames, BreaksNext}
use Rattle.zk_client_port.specs.Turns.{Server, FailsAtPlace, FailsToServe, ServesFirst}
use Rattle.zk_client_port.specs.declared.admission.Admission.{Admission}
use Rattle.zk_client_port.specs.declared.execution.Moment.{Moment}
use Rattle.zk_client_port.specs.declared.fault.ServeFault.{ServeFault}
use Rattle.zk_client_port.specs.declared.fault.ServeFault.TheVariants as faults
use Rattle.zk_connections.specs.declared.connection.Connection.{Connection}
use Rattle.zk_host.specs.declared.replica_host.ReplicaHost.{ReplicaHost}
use Rattle.zk_requests.specs.declared.call.Call.{Call}

module _ {S : Type 0} (setting : Setting Call) (moment : Moment) where
  pub breaks_after : (count : ℕ) (old between new : Served S) (admission middle heard : Admission) (fault : ServeFault)
      → ServedSoFar setting moment count old admission between middle → BreaksNext setting moment between middle new heard fault
      → BreaksFrames setting moment old admission new heard fault
  breaks_after count old between new admission middle heard fault so_far breaks = record {
    frames = so_far.frames;
    between = between;
    middle = middle;
    serves = so_far.serves;
    breaks = breaks;
  }

  pub fails_at : (place : ℕ) (old : Server S) (before : Connection) (after : Served S) (heard : Admission) (host : ReplicaHost S)
      → place < length old.connections → before ≡ get_or old.connections place before
      → Breaks setting moment (served old.host old.hub before) old.admission after heard faults.Host → host ≡ after.host
      → FailsAtPlace setting moment place old host
  fails_at place old before after heard host within is breaks same = record {
    before = before;
    is = slice_get_read old.connections (length old.connections) place before refl within is;
    after = after;
    heard = heard;
    breaks = breaks;
    host_is = same;
  }

  pub fails_after : (places : ℕ) (old between : Server S) (host : ReplicaHost S) → ServesFirst setting moment places old between
      → FailsAtPlace setting moment places between host → FailsToServe setting moment old host
  fails_after places old between host first fails = record { places = places; between = between; first = first; fails = fails }
