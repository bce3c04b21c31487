-- What comes on one direction of a connection between servers, in order. ZooKeeper, classes
-- `LearnerHandler` and `QuorumCnxManager`.
use Rattle.std.specs.Prelude.{◌≡◌, ℕ, ℤ, pos, ◌-◌, ◌==◌, ◌<◌, ◌≤◌, ◌^◌, ◌⊎◌, List, [], ◌∷◌, ◌++◌, length, Bool, if◌then◌else◌}
use Rattle.std.specs.Ordering.{int_eq}
use Rattle.std.specs.List.{flat_map}
use Rattle.zk_quorum_records.specs.declared.item.Item.{Item}
use Rattle.zk_quorum_records.specs.declared.item.Item.TheVariants as items
use Rattle.zk_quorum_records.specs.declared.item.Phase.{Phase}
use Rattle.zk_quorum_records.specs.declared.item.Phase.TheVariants as phases
use Rattle.zk_quorum_records.specs.Elections.{hello, notification, IsHello, IsNotification}
use Rattle.zk_quorum_records.specs.Packets.{packet, most_bytes, IsPacket}
use Rattle.zk_records.specs.Records.{int, ustring}
use Rattle.zk_snapshot.specs.Snapshots.{slash, lease, access, stored, IsLease, IsAccess, IsStored}

-- the count of a vector
abbrev pub count : ℕ → List ℕ
count n = int (pos n)

abbrev pub IsCount : ℕ → Type 0
IsCount n = n < 2 ^ 31

-- "BenWasHere"
abbrev pub signature : List ℕ
signature = 66 ∷ 101 ∷ 110 ∷ 87 ∷ 97 ∷ 115 ∷ 72 ∷ 101 ∷ 114 ∷ 101 ∷ []

-- after a SNAP come the tree's sessions, access control lists and nodes as in a snapshot file, and
-- the signature
abbrev pub bytes_of : Item → List ℕ
bytes_of (items.Packet p) = packet p
bytes_of (items.SessionCount n) = count n
bytes_of (items.Session session) = lease session
bytes_of (items.AccessCount n) = count n
bytes_of (items.Access list) = access list
bytes_of (items.Node node) = stored node
bytes_of items.TreeEnd = ustring slash
bytes_of items.Signature = ustring signature
bytes_of (items.Hello h) = hello h
bytes_of (items.Notification n) = notification n

abbrev pub all_bytes_of : List Item → List ℕ
all_bytes_of its = flat_map bytes_of its

-- ---- which item may come

-- an item of one kind
abbrev pub IsMade : {A : Type 0} → (A → Item) → (A → Type 0) → Item → Type 0
IsMade {A} make Fits item = (a : A) × ((item ≡ make a) × Fits a)

abbrev pub IsNodeOrEnd : Item → Type 0
IsNodeOrEnd item = IsMade items.Node IsStored item ⊎ (item ≡ items.TreeEnd)

abbrev pub IsItem : Phase → Item → Type 0
IsItem phases.Packets item = IsMade items.Packet IsPacket item
IsItem phases.SessionCount item = IsMade items.SessionCount IsCount item
IsItem (phases.Sessions n) item = IsMade items.Session IsLease item
IsItem phases.AccessCount item = IsMade items.AccessCount IsCount item
IsItem (phases.Accesses n) item = IsMade items.Access IsAccess item
IsItem phases.Nodes item = IsNodeOrEnd item
IsItem phases.Signature item = item ≡ items.Signature
IsItem phases.Hello item = IsMade items.Hello IsHello item
IsItem phases.Notifications item = IsMade items.Notification IsNotification item

abbrev pub sessions_left : ℕ → Phase
sessions_left n = if n == 0 then phases.AccessCount else phases.Sessions n

abbrev pub accesses_left : ℕ → Phase
accesses_left n = if n == 0 then phases.Nodes else phases.Accesses n

abbrev pub after_session : Phase → Phase
after_session (phases.Sessions n) = sessions_left (n - 1)
after_session phase = phase

abbrev pub after_access : Phase → Phase
after_access (phases.Accesses n) = accesses_left (n - 1)
after_access phase = phase

-- a tree follows a SNAP
abbrev pub after_kind : ℤ → Phase
after_kind kind = if int_eq kind (pos 15) then phases.SessionCount else phases.Packets

-- the phase after an item
abbrev pub after : Phase → Item → Phase
after phase (items.Packet p) = after_kind p.kind
after phase (items.SessionCount n) = sessions_left n
after phase (items.Session session) = after_session phase
after phase (items.AccessCount n) = accesses_left n
after phase (items.Access list) = after_access phase
after phase (items.Node node) = phases.Nodes
after phase items.TreeEnd = phases.Signature
after phase items.Signature = phases.Packets
after phase (items.Hello h) = phases.Notifications
after phase (items.Notification n) = phases.Notifications

-- the items come in order from the first phase, and lead to the second one
abbrev pub Follows : Phase → List Item → Phase → Type 0
Follows phase [] last = phase ≡ last
Follows phase (item ∷ its) last = IsItem phase item × Follows (after phase item) its last

-- the item is not too long for a stream
abbrev pub IsWithin : Item → Type 0
IsWithin item = length (bytes_of item) ≤ most_bytes
