-- The contents of a frame: a message from one server of Zab to another. Numbers are big-endian,
-- signed ones in two's complement; a length or a count has eight bytes. The types of requests are
-- those of `ZooDefs.OpCode`, an entry is that of "The 3.4 server's transaction log". The rest is this
-- project's own.
use Rattle.std.specs.Prelude.{ℕ, ℤ, pos, negsuc, List, [], ◌++◌, length, true, false, Option, Some, None}
use Rattle.std.specs.Int.{w32, w64, to_be_bytes}
use Rattle.std.specs.List.{flat_map}
use Rattle.zk_acl.specs.declared.acl.Acl.{Acl}
use Rattle.zk_acl.specs.declared.acl.Id.{Id}
use Rattle.zk_records.specs.Records.{int, long, boolean}
use Rattle.zk_records.specs.Written.{entry_of}
use Rattle.zk_requests.specs.declared.call.Call.{Call}
use Rattle.zk_requests.specs.declared.call.Part.{Part}
use Rattle.zk_requests.specs.declared.call.Part.TheVariants as parts
use Rattle.zk_requests.specs.declared.call.Request.{Request}
use Rattle.zk_requests.specs.declared.call.Request.TheVariants as requests
use Rattle.zab_epoch.specs.declared.history.Entry.{Entry}
use Rattle.zab_epoch.specs.declared.message.Body.{Body}
use Rattle.zab_epoch.specs.declared.message.Body.TheVariants as bodies
use Rattle.zab_epoch.specs.declared.message.Message.{Message}
use Rattle.zab_epoch.specs.Entries.{tags_of, txns_of}

-- ---- fields

abbrev pub word : ℕ → List ℕ
word number = to_be_bytes w32 number

abbrev pub long_word : ℕ → List ℕ
long_word number = to_be_bytes w64 number

-- a length, and that number of bytes
abbrev pub counted : List ℕ → List ℕ
counted bytes = long_word (length bytes) ++ bytes

-- whether there are bytes, and then these
abbrev pub optional : Option (List ℕ) → List ℕ
optional None = boolean false
optional (Some bytes) = boolean true ++ counted bytes

-- a count, and that number of elements
abbrev pub counted_list : {A : Type 0} → (A → List ℕ) → List A → List ℕ
counted_list element xs = long_word (length xs) ++ flat_map element xs

abbrev pub identity : Id → List ℕ
identity id = counted id.scheme ++ counted id.id

unfoldable pub acl_entry : Acl → List ℕ
acl_entry acl = int acl.perms ++ identity acl.id

-- ---- calls

abbrev pub create : List ℕ → Option (List ℕ) → List Acl → ℤ → List ℕ
create path content acl flags =
    counted path ++ optional content ++ counted_list acl_entry acl ++ int flags

abbrev pub with_version : List ℕ → ℤ → List ℕ
with_version path version = counted path ++ int version

abbrev pub set_data : List ℕ → Option (List ℕ) → ℤ → List ℕ
set_data path content version = counted path ++ optional content ++ int version

abbrev pub set_acl : List ℕ → List Acl → ℤ → List ℕ
set_acl path acl version = counted path ++ counted_list acl_entry acl ++ int version

abbrev pub part_kind_of : Part → ℤ
part_kind_of (parts.Create path content acl flags) = pos 1
part_kind_of (parts.Delete path version) = pos 2
part_kind_of (parts.SetData path content version) = pos 5
part_kind_of (parts.Check path version) = pos 13

abbrev pub part_body_of : Part → List ℕ
part_body_of (parts.Create path content acl flags) = create path content acl flags
part_body_of (parts.Delete path version) = with_version path version
part_body_of (parts.SetData path content version) = set_data path content version
part_body_of (parts.Check path version) = with_version path version

unfoldable pub part_of : Part → List ℕ
part_of part = int (part_kind_of part) ++ part_body_of part

abbrev pub request_kind_of : Request → ℤ
request_kind_of (requests.Create path content acl flags) = pos 1
request_kind_of (requests.Delete path version) = pos 2
request_kind_of (requests.SetData path content version) = pos 5
request_kind_of (requests.SetAcl path acl version) = pos 7
request_kind_of (requests.Multi parts) = pos 14
request_kind_of (requests.OpenSession timeout) = negsuc 9
request_kind_of requests.CloseSession = negsuc 10

abbrev pub request_body_of : Request → List ℕ
request_body_of (requests.Create path content acl flags) = create path content acl flags
request_body_of (requests.Delete path version) = with_version path version
request_body_of (requests.SetData path content version) = set_data path content version
request_body_of (requests.SetAcl path acl version) = set_acl path acl version
request_body_of (requests.Multi parts) = counted_list part_of parts
request_body_of (requests.OpenSession timeout) = int timeout
request_body_of requests.CloseSession = []

abbrev pub request_of : Request → List ℕ
request_of request = int (request_kind_of request) ++ request_body_of request

unfoldable pub call_of : Call → List ℕ
call_of call =
    long_word call.tag ++ long call.session ++ int call.cxid ++ counted_list identity call.auths
    ++ long call.now ++ request_of call.request

-- ---- messages

abbrev pub tagged_entry : Entry → List ℕ
tagged_entry entry = long_word entry.tag ++ entry_of entry.txn

-- the tags of all entries, and then the entries
abbrev pub history_of : List Entry → List ℕ
history_of history = counted_list long_word (tags_of history) ++ flat_map entry_of (txns_of history)

abbrev pub kind_of : Body Call → ℤ
kind_of (bodies.CEpoch promised) = pos 1
kind_of (bodies.NewEpoch epoch) = pos 2
kind_of (bodies.AckEpoch epoch vote current last) = pos 3
kind_of (bodies.NewLeader epoch keep rest) = pos 4
kind_of (bodies.AckLeader epoch count) = pos 5
kind_of (bodies.Propose epoch index entry) = pos 6
kind_of (bodies.Ack epoch count) = pos 7
kind_of (bodies.Commit epoch count) = pos 8
kind_of (bodies.Request epoch call) = pos 9
kind_of (bodies.SyncAsk epoch tag) = pos 10
kind_of (bodies.SyncTell epoch tag count) = pos 11

abbrev pub fields_of : Body Call → List ℕ
fields_of (bodies.CEpoch promised) = word promised
fields_of (bodies.NewEpoch epoch) = word epoch
fields_of (bodies.AckEpoch epoch vote current last) =
    word epoch ++ boolean vote ++ word current ++ long last
fields_of (bodies.NewLeader epoch keep rest) = word epoch ++ long keep ++ history_of rest
fields_of (bodies.AckLeader epoch count) = word epoch ++ long_word count
fields_of (bodies.Propose epoch index entry) = word epoch ++ long_word index ++ tagged_entry entry
fields_of (bodies.Ack epoch count) = word epoch ++ long_word count
fields_of (bodies.Commit epoch count) = word epoch ++ long_word count
fields_of (bodies.Request epoch call) = word epoch ++ call_of call
fields_of (bodies.SyncAsk epoch tag) = word epoch ++ long_word tag
fields_of (bodies.SyncTell epoch tag count) = word epoch ++ long_word tag ++ long_word count

unfoldable pub body_of : Body Call → List ℕ
body_of body = int (kind_of body) ++ fields_of body

-- the sender, the addressee, the kind and the fields
unfoldable pub contents_of : Message Call → List ℕ
contents_of message =
    long_word message.sender ++ long_word message.addressee ++ body_of message.body
