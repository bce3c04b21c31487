-- Which servers run. Own.
use Rattle.std.specs.Prelude.{ℕ, Bool, false, Option, Some, None, Result, Ok, Err}
use Rattle.zab_model.specs.declared.fault.WorldFault.{WorldFault}
use Rattle.zab_model.specs.ProcessStates.{ProcessState}
use Rattle.zab_model.specs.Worlds.{World, server_at}

abbrev pub is_up : Option ProcessState → Bool
is_up None = false
is_up (Some it) = it.up

-- the server exists and runs
abbrev pub is_running : {C : Type 0} → World C → ℕ → Bool
is_running w number = is_up (server_at w.servers number)

-- why a server does not run
abbrev pub if_running : Result ProcessState WorldFault → Result (Unit {0}) WorldFault
if_running (Ok it) = Ok tt
if_running (Err fault) = Err fault
