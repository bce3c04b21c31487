-- The outstanding requests of a server's connections, in the order in which they came.
-- ZooKeeper Programmer's Guide, "Consistency Guarantees".
use Rattle.std.specs.Prelude.{ℕ, ◌==◌, ◌&&◌, nat_le, Bool, true, false, not, List, [], ◌∷◌, length, filter, find, Option, Some, None, if◌then◌else◌}
use Rattle.std.specs.List.{list_any}
use Rattle.zk_hub.specs.declared.hub.HubFault.{HubFault}
use Rattle.zk_hub.specs.declared.hub.HubFault.TheVariants as faults
use Rattle.zk_hub.specs.declared.request.Outstanding.{Outstanding}
use Rattle.zk_hub.specs.declared.request.Reply.{Reply}
use Rattle.zk_hub.specs.declared.request.Stage.{Stage}
use Rattle.zk_hub.specs.declared.request.Stage.TheVariants.{Waits, Reads, Done}

-- ---- a connection's requests

abbrev pub is_of : {E R : Type 0} → ℕ → Outstanding E R → Bool
is_of connection request = request.connection == connection

abbrev pub requests_of : {E R : Type 0} → ℕ → List (Outstanding E R) → List (Outstanding E R)
requests_of connection requests = filter (is_of connection) requests

abbrev pub is_read : {R : Type 0} → Stage R → Bool
is_read Reads = true
is_read (Waits tag) = false
is_read (Done result) = false

abbrev pub is_read_of : {E R : Type 0} → ℕ → Outstanding E R → Bool
is_read_of connection request = is_of connection request && is_read request.stage

-- a connection's read waits: a later write is not to be applied before it
abbrev pub is_blocked : {E R : Type 0} → ℕ → List (Outstanding E R) → Bool
is_blocked connection requests = list_any (is_read_of connection) requests

-- a connection's read waits
abbrev pub has_read : {E R : Type 0} → List (Outstanding E R) → Bool
has_read requests = list_any (λ request. is_read request.stage) requests

-- why no request of the connection is taken, where there may be this many
abbrev pub push_fault : {E R : Type 0} → ℕ → ℕ → List (Outstanding E R) → Option HubFault
push_fault most connection requests =
    if is_blocked connection requests then Some faults.Blocked
    else (if nat_le most (length requests) then Some faults.Full else None)

-- ---- results

abbrev pub awaits : {R : Type 0} → ℕ → Stage R → Bool
awaits tag (Waits other) = other == tag
awaits tag Reads = false
awaits tag (Done result) = false

abbrev pub waits_for : {E R : Type 0} → ℕ → Outstanding E R → Bool
waits_for tag request = awaits tag request.stage

-- the first request that waits for the tag has its result
abbrev pub with_result : {E R : Type 0} → ℕ → R → List (Outstanding E R) → List (Outstanding E R)
with_result tag result [] = []
with_result tag result (request ∷ requests) =
    if waits_for tag request then record request { stage = Done result } ∷ requests
    else request ∷ with_result tag result requests

abbrev pub connection_of : {E R : Type 0} → Option (Outstanding E R) → Option ℕ
connection_of None = None
connection_of (Some request) = Some request.connection

-- ---- replies

abbrev pub reply_with : {E R : Type 0} → E → Stage R → Option (Reply E R)
reply_with expected (Done result) = Some (record { expected = expected; result = result })
reply_with expected (Waits tag) = None
reply_with expected Reads = None

abbrev pub reply_to : {E R : Type 0} → Outstanding E R → Option (Reply E R)
reply_to request = reply_with request.expected request.stage

abbrev pub before_replies : {E R : Type 0} → Option (Reply E R) → List (Reply E R) → List (Reply E R)
before_replies None replies = []
before_replies (Some reply) replies = reply ∷ replies

-- the replies up to the first request that has no result
abbrev pub ready : {E R : Type 0} → List (Outstanding E R) → List (Reply E R)
ready [] = []
ready (request ∷ requests) = before_replies (reply_to request) (ready requests)

-- a connection's replies that can be written
abbrev pub replies_for : {E R : Type 0} → ℕ → List (Outstanding E R) → List (Reply E R)
replies_for connection requests = ready (requests_of connection requests)

abbrev pub is_done : {R : Type 0} → Stage R → Bool
is_done (Done result) = true
is_done (Waits tag) = false
is_done Reads = false

-- the requests that are left when these replies are written
abbrev pub without_ready : {E R : Type 0} → ℕ → List (Outstanding E R) → List (Outstanding E R)
without_ready connection [] = []
without_ready connection (request ∷ requests) =
    if is_of connection request
    then (if is_done request.stage then without_ready connection requests else request ∷ requests)
    else request ∷ without_ready connection requests

-- ---- reads

abbrev pub read_in : {E R : Type 0} → Option (Outstanding E R) → Option E
read_in None = None
read_in (Some request) = if is_read request.stage then Some request.expected else None

-- the read that a connection's first request is
abbrev pub next_read : {E R : Type 0} → ℕ → List (Outstanding E R) → Option E
next_read connection requests = read_in (find (is_of connection) requests)

-- the requests without a connection's first, if that is a read
abbrev pub without_read : {E R : Type 0} → ℕ → List (Outstanding E R) → List (Outstanding E R)
without_read connection [] = []
without_read connection (request ∷ requests) =
    if is_of connection request
    then (if is_read request.stage then requests else request ∷ requests)
    else request ∷ without_read connection requests

-- ---- the end of a connection

abbrev pub without_connection : {E R : Type 0} → ℕ → List (Outstanding E R) → List (Outstanding E R)
without_connection connection requests = filter (λ request. not (is_of connection request)) requests
