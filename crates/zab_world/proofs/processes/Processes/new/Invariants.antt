use Rattle.std.proofs.Common.{◌≡◌}
use Rattle.zab_model.specs.ProcessStates.{new_servers}
use Rattle.zab_world.proofs.processes.Processes.new.Given as goal

abbrev pub invariant-loop-before : goal.invariant-loop-before
invariant-loop-before g l = l.places.items ≡ new_servers l.servers l.before
