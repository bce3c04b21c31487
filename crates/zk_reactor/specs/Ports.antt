-- The ports of an ensemble's servers.
use Rattle.std.specs.Prelude.{ℕ, ◌+◌, ◌-◌, ◌/◌, nat_lt, Option, Some, None, if◌then◌else◌}
use Rattle.zk_reactor.specs.declared.setup.Settings.{Settings}

-- the port of the server at an index, from 0 on
abbrev pub port_at : Settings → ℕ → Option ℕ
port_at settings index = if nat_lt (settings.port + index) 65536 then Some (settings.port + index) else None

-- the most connections of one address: all but a sixteenth, which are for others
abbrev pub most_per_address : Settings → ℕ
most_per_address settings = settings.most_connections - settings.most_connections / 16
