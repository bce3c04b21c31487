-- What holds of a connection over every list of inputs of a hub. ZooKeeper Programmer's Guide,
-- "Consistency Guarantees", sequential consistency: "updates from a client will be applied in the
-- order that they were sent".
use Rattle.std.specs.Prelude.{◌≡◌, ℕ, ◌==◌, ◌||◌, Bool, false, List, [], ◌∷◌, ◌++◌, map, find, Option, Some, None, if◌then◌else◌}
use Rattle.std.specs.List.{AllByRecursion, flat_map}
use Rattle.zk_hub.specs.declared.news.News.{News}
use Rattle.zk_hub.specs.declared.news.News.TheVariants.{Event, Outcome}
use Rattle.zk_hub.specs.declared.news.Output.{Output}
use Rattle.zk_hub.specs.declared.news.Output.TheVariants as outputs
use Rattle.zk_hub.specs.declared.request.Outstanding.{Outstanding}
use Rattle.zk_hub.specs.Deliveries.{outputs_of, left_for, left_after}
use Rattle.zk_hub.specs.Hubs.{is_of, requests_of, waits_for, connection_of, replies_for, without_ready, next_read, without_read, without_connection}

pub data Input (V E R : Type 0) : Type 0 where
  -- a connection sends a request
  Pushes : (request : Outstanding E R) → Input V E R
  -- the server has news
  Delivers : (news : List (News V R)) → Input V E R
  -- a connection's replies are taken, its read is taken, it ends
  TakesReplies : (connection : ℕ) → Input V E R
  TakesRead : (connection : ℕ) → Input V E R
  Closes : (connection : ℕ) → Input V E R

abbrev pub after_input : {V E R : Type 0} → Input V E R → List (Outstanding E R) → List (Outstanding E R)
after_input (Pushes request) requests = requests ++ request ∷ []
after_input (Delivers news) requests = left_after news requests
after_input (TakesReplies connection) requests = without_ready connection requests
after_input (TakesRead connection) requests = without_read connection requests
after_input (Closes connection) requests = without_connection connection requests

abbrev pub after_inputs : {V E R : Type 0} → List (Input V E R) → List (Outstanding E R) → List (Outstanding E R)
after_inputs [] requests = requests
after_inputs (input ∷ inputs) requests = after_inputs inputs (after_input input requests)

-- ---- one connection

-- what the replies to its outstanding requests need, in order
abbrev pub outstanding : {E R : Type 0} → ℕ → List (Outstanding E R) → List E
outstanding connection requests = map (λ request. request.expected) (requests_of connection requests)

-- the requests that it sends
abbrev pub sent_by : {V E R : Type 0} → ℕ → Input V E R → List E
sent_by connection (Pushes request) = if is_of connection request then request.expected ∷ [] else []
sent_by connection other = []

abbrev pub sent : {V E R : Type 0} → ℕ → List (Input V E R) → List E
sent connection [] = []
sent connection (input ∷ inputs) = sent_by connection input ++ sent connection inputs

abbrev pub one_or_none : {E : Type 0} → Option E → List E
one_or_none None = []
one_or_none (Some expected) = expected ∷ []

abbrev pub reply_in : {V E R : Type 0} → ℕ → Output V E R → List E
reply_in connection (outputs.Event other event) = []
reply_in connection (outputs.Reply other expected outcome) = if other == connection then expected ∷ [] else []

-- the requests that leave the hub, to be replied to
abbrev pub taken_by : {V E R : Type 0} → ℕ → Input V E R → List (Outstanding E R) → List E
taken_by connection (TakesReplies other) requests =
    if other == connection then map (λ reply. reply.expected) (replies_for other requests) else []
taken_by connection (TakesRead other) requests =
    if other == connection then one_or_none (next_read other requests) else []
taken_by connection (Delivers news) requests = flat_map (reply_in connection) (outputs_of news requests)
taken_by connection other requests = []

abbrev pub taken : {V E R : Type 0} → ℕ → List (Input V E R) → List (Outstanding E R) → List E
taken connection [] requests = []
taken connection (input ∷ inputs) requests =
    taken_by connection input requests ++ taken connection inputs (after_input input requests)

abbrev pub closes : {V E R : Type 0} → ℕ → Input V E R → Bool
closes connection (Closes other) = other == connection
closes connection other = false

-- ---- the laws

-- while a connection is open, its requests are replied to in the order in which it sent them:
-- those that were replied to, and then those that are outstanding, are those sent
abbrev pub FirstInFirstOut : Type 0 → Type 0 → Type 0 → Type 0
FirstInFirstOut V E R = (connection : ℕ) (inputs : List (Input V E R)) →
    AllByRecursion (λ input. closes connection input ≡ false) inputs →
    taken connection inputs [] ++ outstanding connection (after_inputs inputs []) ≡ sent connection inputs

abbrev pub is_at : ℕ → Option ℕ → Bool
is_at connection None = false
is_at connection (Some other) = other == connection

-- whether some of the news is the result of a connection's request
abbrev pub has_result : {V E R : Type 0} → ℕ → List (News V R) → List (Outstanding E R) → Bool
has_result connection [] requests = false
has_result connection (Event other event ∷ news) requests = has_result connection news requests
has_result connection (Outcome tag outcome ∷ news) requests =
    is_at connection (connection_of (find (waits_for tag) requests)) || has_result connection news (left_for tag outcome requests)

-- whether an input is for a connection
abbrev pub concerns : {V E R : Type 0} → ℕ → Input V E R → List (Outstanding E R) → Bool
concerns connection (Pushes request) requests = is_of connection request
concerns connection (Delivers news) requests = has_result connection news requests
concerns connection (TakesReplies other) requests = other == connection
concerns connection (TakesRead other) requests = other == connection
concerns connection (Closes other) requests = other == connection

-- an input for other connections changes no request of this one, and takes none
abbrev pub OthersStay : Type 0 → Type 0 → Type 0 → Type 0
OthersStay V E R = (connection : ℕ) (input : Input V E R) (requests : List (Outstanding E R)) →
    concerns connection input requests ≡ false →
    (requests_of connection (after_input input requests) ≡ requests_of connection requests) × (taken_by connection input requests ≡ [])
