-- What the clients of hosts see.
use Rattle.std.specs.Prelude.{◌≢◌, ℕ, ℤ, pos, ◌≤ℤ◌, List, [], ◌++◌}
use Rattle.std.specs.List.{AllByRecursion}
use Rattle.zab_epoch.specs.declared.history.Entry.{Entry}
use Rattle.zab_laws.specs.Prefixes.{IsPrefix, last_key}
use Rattle.zab_model.specs.Worlds.{Profile}
use Rattle.zab_model.specs.Runs.{delivered_of}
use Rattle.zab_host_laws.specs.Hosts.{Step, Restarts, new_network, after_steps, MayStepAll}

-- a host's delivered list after steps of `servers` hosts
abbrev pub delivered_by : {C : Type 0} → Profile C → ℕ → List (Step C) → ℕ → List Entry
delivered_by profile servers steps number = delivered_of (after_steps profile (new_network servers) steps) number

-- the last zxid of a list, 0 if it is empty
abbrev pub last_zxid : List Entry → ℤ
last_zxid entries = last_key (λ entry. entry.txn.zxid) (pos 0) entries

-- A host's delivered list only grows while its process runs.
abbrev pub HostsOnlyGrow : {C : Type 0} → Profile C → Type 0
HostsOnlyGrow {C} profile = (servers : ℕ) (before between : List (Step C)) → MayStepAll profile (new_network servers) [] [] (before ++ between)
    → (number : ℕ) → AllByRecursion (λ step. step ≢ Restarts number) between
    → IsPrefix (delivered_by profile servers before number) (delivered_by profile servers (before ++ between) number)

-- A client has seen what some host had delivered. Later it asks a host, the same or another,
-- restarted or not. If that host has delivered the last transaction that the client has seen, or a
-- later one, then its list has the client's as a prefix.
abbrev pub HostsNeverGoBack : {C : Type 0} → Profile C → Type 0
HostsNeverGoBack {C} profile = (servers : ℕ) (before between : List (Step C)) → MayStepAll profile (new_network servers) [] [] (before ++ between)
    → (seen_at asked_at : ℕ) (seen : ℤ)
    → last_zxid (delivered_by profile servers before seen_at) ≤ℤ seen
    → seen ≤ℤ last_zxid (delivered_by profile servers (before ++ between) asked_at)
    → IsPrefix (delivered_by profile servers before seen_at) (delivered_by profile servers (before ++ between) asked_at)
