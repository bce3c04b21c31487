-- Reading the contents of a frame from left to right, up to the first fault.
use Rattle.std.specs.Prelude.{ℕ, ℤ, pos, negsuc, List, [], ◌∷◌, ◌==◌, ◌&&◌, nat_lt, int_lt, Bool, true, false, length, take, drop, Option, Some, None, Result, Ok, Err, if◌then◌else◌}
use Rattle.std.specs.Int.{Width, w32, w64, byte_len, from_be_bytes}
use Rattle.std.specs.Ordering.{int_eq}
use Rattle.std.specs.Str.{is_utf8}
use Rattle.zk_acl.specs.declared.acl.Acl.{Acl}
use Rattle.zk_acl.specs.declared.acl.Id.{Id}
use Rattle.zk_jute.specs.declared.fault.JuteFault.{JuteFault}
use Rattle.zk_jute.specs.declared.fault.JuteFault.TheVariants as faults
use Rattle.zk_jute.specs.Reading.{◌>>=◌, number_at, bytes_at, boolean_at, many_at, made_of, whole, all_of}
use Rattle.zk_records.specs.Checksum.{adler_of}
use Rattle.zk_requests.specs.declared.call.Call.{Call}
use Rattle.zk_requests.specs.declared.call.Part.{Part}
use Rattle.zk_requests.specs.declared.call.Part.TheVariants as parts
use Rattle.zk_requests.specs.declared.call.Request.{Request}
use Rattle.zk_requests.specs.declared.call.Request.TheVariants as requests
use Rattle.zk_table.specs.declared.txn.Txn.{Txn}
use Rattle.zab_epoch.specs.declared.history.Entry.{Entry}
use Rattle.zab_epoch.specs.declared.message.Body.{Body}
use Rattle.zab_epoch.specs.declared.message.Body.TheVariants as bodies
use Rattle.zab_epoch.specs.declared.message.Message.{Message}
use Rattle.zab_frames.specs.declared.calls.CreateFields.{CreateFields}
use Rattle.zab_frames.specs.declared.calls.SetAclFields.{SetAclFields}
use Rattle.zab_frames.specs.declared.calls.SetDataFields.{SetDataFields}
use Rattle.zab_frames.specs.declared.calls.VersionFields.{VersionFields}

-- a reader of a field: its value, and the bytes after it
abbrev pub Reader : Type 0 → Type 0
Reader A = List ℕ → Result (A × List ℕ) JuteFault

-- one field after another
infixl 20 ◌&◌
abbrev pub ◌&◌ : {A B : Type 0} → Reader A → Reader B → Reader (A × B)
(first & second) bytes = do
  one ← first bytes
  other ← second one.1
  Ok ((one.0, other.0), other.1)

-- ---- fields

abbrev pub natural_at : Width → Reader ℕ
natural_at w bytes = if nat_lt (length bytes) (byte_len w) then Err faults.Short else Ok (from_be_bytes w (take (byte_len w) bytes), drop (byte_len w) bytes)

unfoldable pub counted_at : Reader (List ℕ)
counted_at bytes = do
  count ← natural_at w64 bytes
  bytes_at count.0 count.1

unfoldable pub text_at : Reader (List ℕ)
text_at bytes = do
  text ← counted_at bytes
  if is_utf8 text.0 then Ok text else Err faults.Text

abbrev pub optional_by : Bool → Reader (Option (List ℕ))
optional_by true rest = made_of Some (counted_at rest)
optional_by false rest = Ok (None, rest)

unfoldable pub optional_at : Reader (Option (List ℕ))
optional_at bytes = do
  flag ← boolean_at bytes
  optional_by flag.0 flag.1

unfoldable pub list_at : {A : Type 0} → Reader A → Reader (List A)
list_at read bytes = do
  count ← natural_at w64 bytes
  many_at read count.0 count.1

abbrev pub id_from : List ℕ × List ℕ → Id
id_from fields = record { scheme = fields.0; id = fields.1 }

unfoldable pub identity_at : Reader Id
identity_at bytes = made_of id_from ((text_at & text_at) bytes)

abbrev pub acl_from : ℤ × Id → Acl
acl_from fields = record { perms = fields.0; id = fields.1 }

unfoldable pub acl_at : Reader Acl
acl_at bytes = made_of acl_from ((number_at w32 & identity_at) bytes)

-- ---- calls

abbrev pub create_from : ((List ℕ × Option (List ℕ)) × List Acl) × ℤ → CreateFields
create_from fields = record { path = fields.0.0.0; content = fields.0.0.1; acl = fields.0.1; flags = fields.1 }

unfoldable pub create_at : Reader CreateFields
create_at bytes = made_of create_from ((text_at & optional_at & list_at acl_at & number_at w32) bytes)

abbrev pub version_from : List ℕ × ℤ → VersionFields
version_from fields = record { path = fields.0; version = fields.1 }

unfoldable pub version_at : Reader VersionFields
version_at bytes = made_of version_from ((text_at & number_at w32) bytes)

abbrev pub set_data_from : (List ℕ × Option (List ℕ)) × ℤ → SetDataFields
set_data_from fields = record { path = fields.0.0; content = fields.0.1; version = fields.1 }

unfoldable pub set_data_at : Reader SetDataFields
set_data_at bytes = made_of set_data_from ((text_at & optional_at & number_at w32) bytes)

abbrev pub set_acl_from : (List ℕ × List Acl) × ℤ → SetAclFields
set_acl_from fields = record { path = fields.0.0; acl = fields.0.1; version = fields.1 }

unfoldable pub set_acl_at : Reader SetAclFields
set_acl_at bytes = made_of set_acl_from ((text_at & list_at acl_at & number_at w32) bytes)

abbrev pub create_part : CreateFields → Part
create_part f = parts.Create f.path f.content f.acl f.flags

abbrev pub delete_part : VersionFields → Part
delete_part f = parts.Delete f.path f.version

abbrev pub set_data_part : SetDataFields → Part
set_data_part f = parts.SetData f.path f.content f.version

abbrev pub check_part : VersionFields → Part
check_part f = parts.Check f.path f.version

unfoldable pub part_by : ℤ → Reader Part
part_by kind bytes =
    if int_eq kind (pos 1) then made_of create_part (create_at bytes) else
    (if int_eq kind (pos 2) then made_of delete_part (version_at bytes) else
    (if int_eq kind (pos 5) then made_of set_data_part (set_data_at bytes) else
    (if int_eq kind (pos 13) then made_of check_part (version_at bytes) else Err faults.Kind)))

-- a kind, and then what it says
abbrev pub tagged_at : {A : Type 0} → (ℤ → Reader A) → Reader A
tagged_at read bytes = do
  kind ← number_at w32 bytes
  read kind.0 kind.1

unfoldable pub part_at : Reader Part
part_at bytes = tagged_at part_by bytes

abbrev pub create_request : CreateFields → Request
create_request f = requests.Create f.path f.content f.acl f.flags

abbrev pub delete_request : VersionFields → Request
delete_request f = requests.Delete f.path f.version

abbrev pub set_data_request : SetDataFields → Request
set_data_request f = requests.SetData f.path f.content f.version

abbrev pub set_acl_request : SetAclFields → Request
set_acl_request f = requests.SetAcl f.path f.acl f.version

unfoldable pub request_by : ℤ → Reader Request
request_by kind bytes =
    if int_eq kind (pos 1) then made_of create_request (create_at bytes) else
    (if int_eq kind (pos 2) then made_of delete_request (version_at bytes) else
    (if int_eq kind (pos 5) then made_of set_data_request (set_data_at bytes) else
    (if int_eq kind (pos 7) then made_of set_acl_request (set_acl_at bytes) else
    (if int_eq kind (pos 14) then made_of requests.Multi (list_at part_at bytes) else
    (if int_eq kind (negsuc 9) then made_of requests.OpenSession (number_at w32 bytes) else
    (if int_eq kind (negsuc 10) then Ok (requests.CloseSession, bytes) else Err faults.Kind))))))

unfoldable pub request_at : Reader Request
request_at bytes = tagged_at request_by bytes

abbrev pub call_from : ((((ℕ × ℤ) × ℤ) × List Id) × ℤ) × Request → Call
call_from fields = record {
  tag = fields.0.0.0.0.0;
  session = fields.0.0.0.0.1;
  cxid = fields.0.0.0.1;
  auths = fields.0.0.1;
  now = fields.0.1;
  request = fields.1;
}

unfoldable pub call_at : Reader Call
call_at bytes = made_of call_from ((natural_at w64 & number_at w64 & number_at w32 & list_at identity_at & number_at w64 & request_at) bytes)

-- ---- entries

-- at most the bytes of a record
abbrev pub record_by : ℕ → Reader (List ℕ)
record_by count rest = if nat_lt 16777216 count then Err faults.Length else bytes_at count rest

unfoldable pub record_at : Reader (List ℕ)
record_at bytes = do
  count ← natural_at w32 bytes
  record_by count.0 count.1

-- the transaction, if the checksum is that of its record, and the entry ends
abbrev pub checked_txn : ℕ → List ℕ → Bool → Txn → List ℕ → Result (Txn × List ℕ) JuteFault
checked_txn sum bytes ended txn rest = if ended && (sum == adler_of bytes) then Ok (txn, rest) else Err faults.Kind

abbrev pub ends_at : Reader Bool
ends_at [] = Err faults.Short
ends_at (byte ∷ rest) = Ok (byte == 0x42, rest)

unfoldable pub entry_at : Reader Txn
entry_at bytes = do
  sum ← natural_at w64 bytes
  bytes_of ← record_at sum.1
  ended ← ends_at bytes_of.1
  txn ← all_of bytes_of.0
  checked_txn sum.0 bytes_of.0 ended.0 txn ended.1

abbrev pub entry_from : ℕ × Txn → Entry
entry_from fields = record { tag = fields.0; txn = fields.1 }

unfoldable pub tagged_entry_at : Reader Entry
tagged_entry_at bytes = made_of entry_from ((natural_at w64 & entry_at) bytes)

-- the entries with these tags, whose zxids rise from above the last one
unfoldable pub entries_at : ℤ → List ℕ → Reader (List Entry)
entries_at last [] bytes = Ok ([], bytes)
entries_at last (tag ∷ tags) bytes = do
  txn ← entry_at bytes
  others ← if int_lt last txn.0.zxid then entries_at txn.0.zxid tags txn.1 else Err faults.Kind
  Ok (entry_from (tag, txn.0) ∷ others.0, others.1)

unfoldable pub history_at : Reader (List Entry)
history_at bytes = do
  tags ← list_at (natural_at w64) bytes
  entries_at (pos 0) tags.0 tags.1

-- ---- messages

abbrev pub ack_epoch : ((ℕ × Bool) × ℕ) × ℤ → Body Call
ack_epoch fields = bodies.AckEpoch fields.0.0.0 fields.0.0.1 fields.0.1 fields.1

abbrev pub new_leader : (ℕ × ℤ) × List Entry → Body Call
new_leader fields = bodies.NewLeader fields.0.0 fields.0.1 fields.1

abbrev pub ack_leader : ℕ × ℕ → Body Call
ack_leader fields = bodies.AckLeader fields.0 fields.1

abbrev pub propose : (ℕ × ℕ) × Entry → Body Call
propose fields = bodies.Propose fields.0.0 fields.0.1 fields.1

abbrev pub ack : ℕ × ℕ → Body Call
ack fields = bodies.Ack fields.0 fields.1

abbrev pub commit : ℕ × ℕ → Body Call
commit fields = bodies.Commit fields.0 fields.1

abbrev pub request : ℕ × Call → Body Call
request fields = bodies.Request fields.0 fields.1

abbrev pub sync_ask : ℕ × ℕ → Body Call
sync_ask fields = bodies.SyncAsk fields.0 fields.1

abbrev pub sync_tell : (ℕ × ℕ) × ℕ → Body Call
sync_tell fields = bodies.SyncTell fields.0.0 fields.0.1 fields.1

unfoldable pub fields_by : ℤ → Reader (Body Call)
fields_by kind bytes =
    if int_eq kind (pos 1) then made_of bodies.CEpoch (natural_at w32 bytes) else
    (if int_eq kind (pos 2) then made_of bodies.NewEpoch (natural_at w32 bytes) else
    (if int_eq kind (pos 3) then made_of ack_epoch ((natural_at w32 & boolean_at & natural_at w32 & number_at w64) bytes) else
    (if int_eq kind (pos 4) then made_of new_leader ((natural_at w32 & number_at w64 & history_at) bytes) else
    (if int_eq kind (pos 5) then made_of ack_leader ((natural_at w32 & natural_at w64) bytes) else
    (if int_eq kind (pos 6) then made_of propose ((natural_at w32 & natural_at w64 & tagged_entry_at) bytes) else
    (if int_eq kind (pos 7) then made_of ack ((natural_at w32 & natural_at w64) bytes) else
    (if int_eq kind (pos 8) then made_of commit ((natural_at w32 & natural_at w64) bytes) else
    (if int_eq kind (pos 9) then made_of request ((natural_at w32 & call_at) bytes) else
    (if int_eq kind (pos 10) then made_of sync_ask ((natural_at w32 & natural_at w64) bytes) else
    (if int_eq kind (pos 11) then made_of sync_tell ((natural_at w32 & natural_at w64 & natural_at w64) bytes) else Err faults.Kind))))))))))

unfoldable pub body_at : Reader (Body Call)
body_at bytes = tagged_at fields_by bytes

abbrev pub message_from : (ℕ × ℕ) × Body Call → Message Call
message_from fields = record { sender = fields.0.0; addressee = fields.0.1; body = fields.1 }

unfoldable pub message_at : Reader (Message Call)
message_at bytes = made_of message_from ((natural_at w64 & natural_at w64 & body_at) bytes)

-- the message of all the bytes
abbrev pub message_in : List ℕ → Result (Message Call) JuteFault
message_in bytes = whole (message_at bytes)
