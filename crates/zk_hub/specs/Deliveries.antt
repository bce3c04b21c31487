-- What a server's news writes to connections. ZooKeeper Programmer's Guide, "ZooKeeper Watches":
-- "a client will see the watch event for a znode it's watching before seeing the new data that
-- corresponds to that znode".
use Rattle.std.specs.Prelude.{ℕ, List, [], ◌∷◌, ◌++◌, map, find, Option, Some, None}
use Rattle.zk_hub.specs.declared.news.News.{News}
use Rattle.zk_hub.specs.declared.news.News.TheVariants.{Event, Outcome}
use Rattle.zk_hub.specs.declared.news.Output.{Output}
use Rattle.zk_hub.specs.declared.news.Output.TheVariants as outputs
use Rattle.zk_hub.specs.declared.request.Outstanding.{Outstanding}
use Rattle.zk_hub.specs.declared.request.Reply.{Reply}
use Rattle.zk_hub.specs.Hubs.{waits_for, with_result, connection_of, replies_for, without_ready}

-- ---- one result

abbrev pub reply_output : {V E R : Type 0} → ℕ → Reply E R → Output V E R
reply_output connection reply = outputs.Reply connection reply.expected reply.result

abbrev pub replies_at : {V E R : Type 0} → Option ℕ → List (Outstanding E R) → List (Output V E R)
replies_at None requests = []
replies_at (Some connection) requests = map (reply_output connection) (replies_for connection requests)

abbrev pub left_at : {E R : Type 0} → Option ℕ → List (Outstanding E R) → List (Outstanding E R)
left_at None requests = requests
left_at (Some connection) requests = without_ready connection requests

-- the request that waits for the tag has its result, and its connection gets the replies that are
-- ready then
abbrev pub outputs_for : {V E R : Type 0} → ℕ → R → List (Outstanding E R) → List (Output V E R)
outputs_for tag outcome requests = replies_at (connection_of (find (waits_for tag) requests)) (with_result tag outcome requests)

abbrev pub left_for : {E R : Type 0} → ℕ → R → List (Outstanding E R) → List (Outstanding E R)
left_for tag outcome requests = left_at (connection_of (find (waits_for tag) requests)) (with_result tag outcome requests)

-- ---- news, in order

abbrev pub output_of : {V E R : Type 0} → News V R → List (Outstanding E R) → List (Output V E R)
output_of (Event connection event) requests = outputs.Event connection event ∷ []
output_of (Outcome tag outcome) requests = outputs_for tag outcome requests

abbrev pub left_by : {V E R : Type 0} → News V R → List (Outstanding E R) → List (Outstanding E R)
left_by (Event connection event) requests = requests
left_by (Outcome tag outcome) requests = left_for tag outcome requests

-- what is written: an event or a result's replies are written before those of later news
abbrev pub outputs_of : {V E R : Type 0} → List (News V R) → List (Outstanding E R) → List (Output V E R)
outputs_of [] requests = []
outputs_of (one ∷ news) requests = output_of one requests ++ outputs_of news (left_by one requests)

-- the requests that are left
abbrev pub left_after : {V E R : Type 0} → List (News V R) → List (Outstanding E R) → List (Outstanding E R)
left_after [] requests = requests
left_after (one ∷ news) requests = left_after news (left_by one requests)
