-- What the input of a connection asks of its server. ZooKeeper Programmer's Guide, "ZooKeeper
-- Sessions".
use Rattle.std.specs.Prelude.{ℕ, ℤ, pos, List, [], Bool, false, ◌&&◌, int_lt, find, is_some, Option, Some, None, option_map, if◌then◌else◌}
use Rattle.std.specs.Ordering.{int_eq}
use Rattle.std.specs.Str.{bytes_eq}
use Rattle.zk_client_port.specs.declared.admission.Admission.{Admission}
use Rattle.zk_client_port.specs.declared.demand.Demand.{Demand}
use Rattle.zk_client_port.specs.declared.demand.Demand.TheVariants as demands
use Rattle.zk_client_port.specs.declared.expected.Expected.TheVariants as expected
use Rattle.zk_client_port.specs.declared.expected.Opening.{Opening}
use Rattle.zk_connections.specs.declared.input.Taken.{Taken}
use Rattle.zk_connections.specs.declared.input.Taken.TheVariants as taken
use Rattle.zk_frames.specs.declared.records.ConnectRequest.{ConnectRequest}
use Rattle.zk_client_session.specs.declared.ask.Action.{Action}
use Rattle.zk_client_session.specs.declared.ask.Action.TheVariants as actions
use Rattle.zk_client_session.specs.declared.ask.Ask.{Ask}
use Rattle.zk_client_session.specs.declared.ask.Ask.TheVariants as asks
use Rattle.zk_client_session.specs.declared.expected_reply.ExpectedReply.{ExpectedReply}
use Rattle.zk_connections.specs.Passwords.{password_of}
use Rattle.zk_requests.specs.declared.call.Request.TheVariants as requests
use Rattle.zk_connections.specs.Sessions.{has_id}
use Rattle.zk_connections.specs.declared.session.Session.{Session}

-- ---- who may have a session

abbrev pub is_open : ℤ → List Session → Bool
is_open session sessions = is_some (find (has_id session) sessions)

abbrev pub is_right : List ℕ → ℤ → Option (List ℕ) → Bool
is_right secret session None = false
is_right secret session (Some password) = bytes_eq password (password_of secret session)

-- it is open, and the password is its own
abbrev pub is_admitted : ℤ → Option (List ℕ) → Admission → Bool
is_admitted session password it = is_right it.secret session password && is_open session it.sessions

-- ---- a connect request

-- no server is read-only
abbrev pub opening_of : ConnectRequest → Opening
opening_of request = record {
  timeout = request.timeout;
  seen = request.last_zxid_seen;
  read_only = option_map (λ _. false) request.read_only;
}

-- A client that has seen more than the server is to try another. A session is attached only once
-- the server has caught up with its leader.
abbrev pub demand_at : Admission → ℤ → ConnectRequest → Demand
demand_at admission last request =
    if int_lt last request.last_zxid_seen then demands.CutOff
    else (if int_eq request.session (pos 0)
    then demands.Submit (pos 0) (pos 0) [] (requests.OpenSession request.timeout) (expected.Opened (opening_of request))
    else (if is_admitted request.session request.password admission
    then demands.Sync (expected.Attached request.session (opening_of request))
    else demands.Reject (opening_of request).read_only))

-- ---- a frame

abbrev pub ask_of : ℤ → Ask → ExpectedReply → Demand
ask_of now (asks.Write session cxid auths request) reply = demands.Submit session cxid auths request (expected.Replied reply now)
ask_of now (asks.Sync session) reply = demands.Sync (expected.Replied reply now)
ask_of now ask reply = demands.Read (expected.Read ask reply)

abbrev pub demand_by : ℤ → Action → Demand
demand_by now (actions.Replies immediate) = demands.Reply (expected.Known immediate)
demand_by now (actions.Asks ask reply) = ask_of now ask reply
demand_by now actions.Closes = demands.Reply expected.Closed

-- ---- any input

-- of a server whose last transaction is this, at this time
abbrev pub demand_of : Admission → ℤ → ℤ → Taken → Demand
demand_of admission last now (taken.Word word) = demands.Print word
demand_of admission last now (taken.Connects request) = demand_at admission last request
demand_of admission last now (taken.Acts action) = demand_by now action
demand_of admission last now taken.Breaks = demands.Reply expected.Closed
