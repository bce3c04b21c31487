-- Which of a server's connections are closed. ZooKeeper Programmer's Guide, "ZooKeeper Sessions".
use Rattle.std.specs.Prelude.{ℕ, ℤ, ◌==◌, Bool, true, not, List, [], ◌∷◌, map, filter, Option, Some, None, false, if◌then◌else◌}
use Rattle.std.specs.List.{list_any}
use Rattle.std.specs.Ordering.{int_eq}
use Rattle.zk_client_port.specs.declared.client_port.Selection.{Selection}
use Rattle.zk_client_port.specs.declared.client_port.Selection.TheVariants.{Number, Served, All}
use Rattle.zk_client_port.specs.declared.expected.Expected.{Expected}
use Rattle.zk_connections.specs.Connections.{closing, is_new, is_over, lost, session_of}
use Rattle.zk_connections.specs.declared.connection.Connection.{Connection}
use Rattle.zk_hub.specs.declared.outcome.Outcome.{Outcome}
use Rattle.zk_hub.specs.Hubs.{without_connection}
use Rattle.zk_hub.specs.declared.request.Outstanding.{Outstanding}
use Rattle.zk_connections.specs.Sessions.{is_at, detached, with_first}
use Rattle.zk_connections.specs.declared.session.Session.{Session}

abbrev pub is_selected : Selection → Connection → Bool
is_selected (Number number) it = it.number == number
is_selected Served it = not (is_new it.phase)
is_selected All it = true

abbrev pub cut_off_if : Selection → Connection → Connection
cut_off_if selection it = if is_selected selection it then lost it else it

-- a connection ends with its session
abbrev pub is_among : List ℤ → Option ℤ → Bool
is_among ended None = false
is_among ended (Some session) = list_any (λ it. int_eq it session) ended

abbrev pub closed_if : List ℤ → Connection → Connection
closed_if ended it = if is_among ended (session_of it) then closing it else it

-- ---- the connections that are over

abbrev pub numbers_over : List Connection → List ℕ
numbers_over its = map (λ it. it.number) (filter is_over its)

abbrev pub without_over : List Connection → List Connection
without_over its = filter (λ it. not (is_over it)) its

-- their outstanding requests are dropped
abbrev pub without_requests : List ℕ → List (Outstanding Expected Outcome) → List (Outstanding Expected Outcome)
without_requests [] requests = requests
without_requests (number ∷ numbers) requests = without_requests numbers (without_connection number requests)

-- their sessions have no connection; each goes on to its deadline
abbrev pub all_detached : List ℕ → List Session → List Session
all_detached [] sessions = sessions
all_detached (number ∷ numbers) sessions = all_detached numbers (with_first (is_at number) detached sessions)
