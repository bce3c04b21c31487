-- Agreement across recoveries, and of hosts.
use Rattle.std.specs.Prelude.{◌⊎◌, ℕ, List, [], ◌++◌, take}
use Rattle.std.specs.List.{AllByRecursion}
use Rattle.zab_laws.specs.Prefixes.{IsPrefix}
use Rattle.zab_model.specs.declared.event.Event.{Event}
use Rattle.zab_model.specs.Worlds.{Profile}
use Rattle.zab_model.specs.Runs.{after, run, delivered_of, delivered_after}
use Rattle.zab_host_laws.specs.Hosts.{Step, new_network, after_steps, MayStepAll}
use Rattle.zab_host_laws.specs.Recovery.{IsNew, past_of_world, recovered_world}

-- Of two lists that any servers delivered at any times, the first before all servers recovered from what they had stored and the second
-- after it, one is a prefix of the other.
abbrev pub RecoveriesAgree : {C : Type 0} → Profile C → Type 0
RecoveriesAgree {C} profile = (servers : ℕ) (first second : List (Event C)) → AllByRecursion (IsNew profile (past_of_world (run profile servers first).0)) second
    → (i j p q : ℕ)
    → IsPrefix (delivered_after profile servers first i p) (delivered_of (after profile (recovered_world (run profile servers first).0.servers) (take j second)) q)
    ⊎ IsPrefix (delivered_of (after profile (recovered_world (run profile servers first).0.servers) (take j second)) q) (delivered_after profile servers first i p)

-- Of two lists that hosts delivered, each after any number of steps, one is a prefix of the other.
abbrev pub HostsAgree : {C : Type 0} → Profile C → Type 0
HostsAgree {C} profile = (servers : ℕ) (before between : List (Step C)) → MayStepAll profile (new_network servers) [] [] (before ++ between)
    → (p q : ℕ)
    → IsPrefix (delivered_of (after_steps profile (new_network servers) before) p) (delivered_of (after_steps profile (new_network servers) (before ++ between)) q)
    ⊎ IsPrefix (delivered_of (after_steps profile (new_network servers) (before ++ between)) q) (delivered_of (after_steps profile (new_network servers) before) p)
