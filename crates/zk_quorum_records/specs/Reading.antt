-- Reading one item from left to right, up to the first fault.
use Rattle.std.specs.Prelude.{ℕ, ◌<◌, get_or, ℤ, zero, suc, pos, negsuc, List, [], ◌∷◌, Bool, length, ◌||◌, int_lt, ◌==◌, Option, Some, None, Result, Ok, Err, if◌then◌else◌}
use Rattle.std.specs.Int.{w32, w64}
use Rattle.std.specs.Ordering.{int_eq}
use Rattle.std.specs.Str.{bytes_eq}
use Rattle.zk_acl.specs.declared.acl.Id.{Id}
use Rattle.zk_jute.specs.declared.fault.JuteFault.{JuteFault}
use Rattle.zk_jute.specs.declared.fault.JuteFault.TheVariants as faults
use Rattle.zk_jute.specs.Reading.{◌>>=◌, number_at, count_at, counted_at, text_at, content_at, many_at, made_of, whole}
use Rattle.zk_quorum_records.specs.declared.hello.Hello.{Hello}
use Rattle.zk_quorum_records.specs.declared.hello.Hello.TheVariants as hellos
use Rattle.zk_quorum_records.specs.declared.item.Item.{Item}
use Rattle.zk_quorum_records.specs.declared.item.Item.TheVariants as items
use Rattle.zk_quorum_records.specs.declared.item.Phase.{Phase}
use Rattle.zk_quorum_records.specs.declared.item.Phase.TheVariants as phases
use Rattle.zk_quorum_records.specs.declared.notification.Notification.{Notification}
use Rattle.zk_quorum_records.specs.declared.notification.ServerState.{ServerState}
use Rattle.zk_quorum_records.specs.declared.notification.ServerState.TheVariants as states
use Rattle.zk_quorum_records.specs.declared.packet.QuorumPacket.{QuorumPacket}
use Rattle.zk_quorum_records.specs.Items.{signature}
use Rattle.zk_snapshot.specs.declared.snapshot.Stored.{Stored}
use Rattle.zk_snapshot.specs.Reading.{lease_at, access_at, next_at}

abbrev pub AreBytes : List ℕ → Type 0
AreBytes bytes = (i : ℕ) → get_or bytes i 0 < 256

-- a reader of a field: its value, and the bytes after it
abbrev pub Reader : Type 0 → Type 0
Reader A = List ℕ → Result (A × List ℕ) JuteFault

-- one field after another
infixl 20 ◌&◌
abbrev pub ◌&◌ : {A B : Type 0} → Reader A → Reader B → Reader (A × B)
(first & second) bytes = do
  one ← first bytes
  other ← second one.1
  Ok ((one.0, other.0), other.1)

-- ---- lengths

-- the length that comes next, if it is within its bounds
unfoldable pub length_in : ℤ → ℤ → List ℕ → Result ℤ JuteFault
length_in least most bytes = do
  len ← number_at w32 bytes
  if int_lt len.0 least || int_lt most len.0 then Err faults.Length else Ok len.0

-- a field whose length is tested before its bytes are there
abbrev pub bounded : {A : Type 0} → ℤ → ℤ → Reader A → Reader A
bounded least most read bytes = do
  len ← length_in least most bytes
  read bytes

-- ---- packets

unfoldable pub data_at : Reader (Option (List ℕ))
data_at bytes = bounded (negsuc 0) (pos 16777216) content_at bytes

abbrev pub identity_from : List ℕ × List ℕ → Id
identity_from fields = record { scheme = fields.0; id = fields.1 }

unfoldable pub identity_at : Reader Id
identity_at bytes = made_of identity_from ((text_at & text_at) bytes)

abbrev pub identities_of : ℤ → Reader (Option (List Id))
identities_of (pos n) rest = made_of Some (many_at identity_at n rest)
identities_of (negsuc zero) rest = Ok (None, rest)
identities_of (negsuc (suc n)) rest = Err faults.Length

unfoldable pub identities_at : Reader (Option (List Id))
identities_at bytes = do
  count ← number_at w32 bytes
  identities_of count.0 count.1

abbrev pub packet_from : ((ℤ × ℤ) × Option (List ℕ)) × Option (List Id) → QuorumPacket
packet_from fields = record { kind = fields.0.0.0; zxid = fields.0.0.1; content = fields.0.1; authinfo = fields.1 }

unfoldable pub packet_at : Reader QuorumPacket
packet_at bytes = made_of packet_from ((number_at w32 & number_at w64 & data_at & identities_at) bytes)

-- ---- elections

unfoldable pub addresses_at : Reader (List ℕ)
addresses_at bytes = bounded (pos 1) (pos 2048) text_at bytes

unfoldable pub address_of : (ℤ → List ℕ → Hello) → Reader Hello
address_of make bytes = made_of (λ fields. make fields.0 fields.1) ((number_at w64 & addresses_at) bytes)

abbrev pub hello_by : ℤ → Reader Hello
hello_by (pos n) rest = Ok (hellos.Server (pos n), rest)
hello_by (negsuc n) rest =
    if n == 65535 then address_of hellos.Address rest else
    (if n == 65534 then address_of hellos.Addresses rest else Err faults.Kind)

unfoldable pub hello_at : Reader Hello
hello_at bytes = do
  version ← number_at w64 bytes
  hello_by version.0 version.1

abbrev pub state_of : ℤ → Reader ServerState
state_of number rest =
    if int_eq number (pos 0) then Ok (states.Looking, rest) else
    (if int_eq number (pos 1) then Ok (states.Following, rest) else
    (if int_eq number (pos 2) then Ok (states.Leading, rest) else
    (if int_eq number (pos 3) then Ok (states.Observing, rest) else Err faults.Kind)))

unfoldable pub state_at : Reader ServerState
state_at bytes = do
  number ← number_at w32 bytes
  state_of number.0 number.1

abbrev pub configuration_by : Bool → Reader (Option (List ℕ))
configuration_by has rest = if has then made_of Some (counted_at rest) else Ok (None, rest)

-- a version, and from 2 on the configuration
unfoldable pub version_at : Reader (ℤ × Option (List ℕ))
version_at bytes = do
  version ← number_at w32 bytes
  configuration ← configuration_by (int_lt (pos 1) version.0) version.1
  Ok ((version.0, configuration.0), configuration.1)

abbrev pub notification_from : ((((ServerState × ℤ) × ℤ) × ℤ) × ℤ) × (ℤ × Option (List ℕ)) → Notification
notification_from fields = record {
  state = fields.0.0.0.0.0;
  leader = fields.0.0.0.0.1;
  zxid = fields.0.0.0.1;
  round = fields.0.0.1;
  epoch = fields.0.1;
  version = fields.1.0;
  configuration = fields.1.1;
}

unfoldable pub contents_at : Reader Notification
contents_at bytes =
    made_of notification_from ((state_at & number_at w64 & number_at w64 & number_at w64 & number_at w64 & version_at) bytes)

-- a frame that is too short for its fields needs no more bytes
abbrev pub in_frame : JuteFault → JuteFault
in_frame faults.Short = faults.Length
in_frame fault = fault

abbrev pub inside : {A : Type 0} → Result A JuteFault → Result A JuteFault
inside (Ok x) = Ok x
inside (Err fault) = Err (in_frame fault)

-- a frame, and the notification of all its contents
unfoldable pub frame_at : Reader (List ℕ)
frame_at bytes = bounded (pos 1) (pos 524288) counted_at bytes

unfoldable pub notification_at : Reader Notification
notification_at bytes = do
  frame ← frame_at bytes
  notification ← inside (whole (contents_at frame.0))
  Ok (notification, frame.1)

-- ---- items

abbrev pub node_or_end : Option Stored → Item
node_or_end (Some node) = items.Node node
node_or_end None = items.TreeEnd

unfoldable pub signature_at : Reader Item
signature_at bytes = do
  text ← text_at bytes
  if bytes_eq text.0 signature then Ok (items.Signature, text.1) else Err faults.Kind

abbrev pub item_at : Phase → Reader Item
item_at phases.Packets bytes = made_of items.Packet (packet_at bytes)
item_at phases.SessionCount bytes = made_of items.SessionCount (count_at bytes)
item_at (phases.Sessions n) bytes = made_of items.Session (lease_at bytes)
item_at phases.AccessCount bytes = made_of items.AccessCount (count_at bytes)
item_at (phases.Accesses n) bytes = made_of items.Access (access_at bytes)
item_at phases.Nodes bytes = made_of node_or_end (next_at bytes)
item_at phases.Signature bytes = signature_at bytes
item_at phases.Hello bytes = made_of items.Hello (hello_at bytes)
item_at phases.Notifications bytes = made_of items.Notification (notification_at bytes)
