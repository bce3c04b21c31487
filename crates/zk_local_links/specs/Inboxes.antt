-- What comes to a server on its links, since its last turn. Servers have places: server 1 is at 0.
use Rattle.std.specs.Prelude.{ℕ, ◌+◌, ◌==◌, ◌||◌, List, [], ◌∷◌, ◌++◌, set, get_or, slice_get, length, replicate, Option, Some, None, if◌then◌else◌}
use Rattle.zk_peer_links.specs.declared.link_input.LinkInput.{LinkInput}
use Rattle.zk_peer_links.specs.declared.link_input.LinkInput.TheVariants as inputs

pub record InboxView : Type 0 where
  -- by place: the connection on which the server there writes to this one; 0 for none
  pub lines : List ℕ
  -- in order
  pub inputs : List LinkInput

abbrev pub inbox : List ℕ → List LinkInput → InboxView
inbox lines its = record { lines = lines; inputs = its }

abbrev pub new_inbox : ℕ → InboxView
new_inbox servers = inbox (replicate servers 0) []

-- what has come is taken
abbrev pub emptied : InboxView → InboxView
emptied it = inbox it.lines []

-- what has come to the server at a place
abbrev pub inputs_in : Option InboxView → List LinkInput
inputs_in None = []
inputs_in (Some it) = it.inputs

abbrev pub inputs_at : ℕ → List InboxView → List LinkInput
inputs_at place boxes = inputs_in (slice_get boxes place)

abbrev pub line_of : ℕ → InboxView → ℕ
line_of writer it = get_or it.lines writer 0

-- on which connection one server writes to another
abbrev pub line_in : ℕ → Option InboxView → ℕ
line_in writer None = 0
line_in writer (Some it) = line_of writer it

abbrev pub line_at : ℕ → ℕ → List InboxView → ℕ
line_at reader writer boxes = line_in writer (slice_get boxes reader)

abbrev pub led : InboxView → InboxView
led it = inbox it.lines (it.inputs ++ inputs.Lead ∷ [])

-- a server writes on a new connection from now on
abbrev pub opened : ℕ → ℕ → InboxView → InboxView
opened writer line it = inbox (set it.lines writer line) (it.inputs ++ inputs.Opened (writer + 1) line ∷ [])

-- the connection on which a server writes ends after what it has written
abbrev pub closed : ℕ → InboxView → InboxView
closed writer it = if line_of writer it == 0 then it else inbox (set it.lines writer 0) (it.inputs ++ inputs.Closed (line_of writer it) ∷ [])

-- a server has written bytes: they come after all that has come before, or are lost without a connection
abbrev pub brought : ℕ → List ℕ → InboxView → InboxView
brought writer bytes it = if (line_of writer it == 0) || (length bytes == 0) then it else inbox it.lines (it.inputs ++ inputs.Brought (line_of writer it) bytes ∷ [])
