-- The file `ensemble` of a data directory.
use Rattle.std.specs.Prelude.{ℕ, List, ◌∷◌}
use Rattle.zk_data_files.specs.declared.identity.Identity.{Identity}

-- the number of servers, and the secret
abbrev pub bytes_of : Identity → List ℕ
bytes_of it = it.servers ∷ it.secret
