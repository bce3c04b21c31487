-- How the command ends once its servers have: by their calls and receipts, and the chronicle.
use Rattle.std.specs.Prelude.{◌≡◌, ◌⊎◌, ℕ, List}
use Rattle.zk_servers.specs.Closing.{IsRefusal, IsWhole}
use Rattle.zk_servers.specs.declared.calls.Made.{Made}
use Rattle.zk_servers.specs.declared.fault.CloseFault.TheVariants as faults
use Rattle.zk_servers.specs.declared.record.Receipt.{Receipt}
use Rattle.zk_servers.specs.declared.record.Record.{Record}
use Rattle.zk_serve.specs.declared.accepting.Served.{Served}
use Rattle.zk_serve.specs.declared.accepting.Served.TheVariants as served

-- A chronicle that calls and receipts match leaves what the connections ended with. A rejected one
-- is reported in its place. `records` are those under the lock.
abbrev pub Closes : List (List Made) → List Receipt → Served → Served → Type 0
Closes seats receipts before after =
    (records : List Record)
    × ((IsWhole records seats receipts × (after ≡ before))
    ⊎ ((IsRefusal records seats receipts faults.Count × (after ≡ served.Miscounted))
    ⊎ ((at : ℕ) × IsRefusal records seats receipts (faults.Receipt at) × (after ≡ served.Mismatched at))))
