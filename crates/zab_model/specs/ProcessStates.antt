-- The state of a server in a world.
use Rattle.std.specs.Prelude.{ℕ, zero, suc, Bool, true, List, [], ◌∷◌, ◌++◌}
use Rattle.zab_broadcast.specs.declared.state.State.{State}
use Rattle.zab_broadcast.specs.Rules.{restored}

-- whether it is up, and its state; if it is down, the state in which it will restart
pub record ProcessState : Type 0 where
  pub up : Bool
  pub state : State

abbrev pub standing : Bool → State → ProcessState
standing up state = record { up = up; state = state }

-- a new server: it has promised nothing and has no history
abbrev pub new_server : ℕ → ℕ → ProcessState
new_server servers me = standing true (restored servers me (record { promised = 0; current = 0; history = [] }))

-- the first `n` servers
abbrev pub new_servers : ℕ → ℕ → List ProcessState
new_servers servers zero = []
new_servers servers (suc more) = new_servers servers more ++ new_server servers (suc more) ∷ []
