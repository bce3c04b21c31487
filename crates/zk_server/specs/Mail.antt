-- The messages that arrive at a server in a turn.
use Rattle.std.specs.Prelude.{ℕ, ◌==◌, List, [], ◌∷◌, ◌++◌, Option, Some, None, if◌then◌else◌}
use Rattle.zab_epoch.specs.declared.message.Message.{Message}
use Rattle.zk_requests.specs.declared.call.Call.{Call}
use Rattle.zk_peer_links.specs.declared.arrival.Arrival.{Arrival}
use Rattle.zk_peer_links.specs.declared.arrival.Arrival.TheVariants.{Mail}
use Rattle.zk_server.specs.declared.member.Member.{Member}

abbrev pub listed : {A : Type 0} → Option A → List A
listed None = []
listed (Some x) = x ∷ []

abbrev pub mail_of : Arrival → List (Message Call)
mail_of (Mail line messages) = messages
mail_of arrival = []

-- all messages, in order
abbrev pub mail_in : List Arrival → List (Message Call)
mail_in [] = []
mail_in (arrival ∷ arrivals) = mail_of arrival ++ mail_in arrivals

-- what one connection has brought
abbrev pub brought_by : ℕ → Arrival → List (Message Call)
brought_by line (Mail number messages) = if number == line then messages else []
brought_by line arrival = []

abbrev pub brought_on : List Arrival → ℕ → List (Message Call)
brought_on [] line = []
brought_on (arrival ∷ arrivals) line = brought_by line arrival ++ brought_on arrivals line

-- the only server of its ensemble has no link
abbrev pub mail_for : Member → List Arrival → List (Message Call)
mail_for me arrivals = if me.servers == 1 then [] else mail_in arrivals
