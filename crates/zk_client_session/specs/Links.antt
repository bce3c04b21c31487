-- A client's connection that has a session: its state, and the action of each frame. ZooKeeper
-- Programmer's Guide, "ZooKeeper Sessions" and "ZooKeeper access control using ACLs"; the requests
-- are those of `zookeeper.jute`, module `org.apache.zookeeper.proto`.
use Rattle.std.specs.Prelude.{ℕ, nat_le, ℤ, pos, negsuc, List, [], ◌∷◌, ◌++◌, length, map, Bool, false, if◌then◌else◌, Option, Some, None, is_none, Result, Ok, Err, codes}
use Rattle.std.specs.Int.{w32, int_wrap, int_max}
use Rattle.std.specs.Ordering.{int_eq}
use Rattle.std.specs.Str.{bytes_eq, is_utf8}
use Rattle.zk_acl.specs.Digests.{digest_of}
use Rattle.zk_acl.specs.declared.acl.Id.{Id}
use Rattle.zk_frames.specs.AclRecords.{acls_of}
use Rattle.zk_frames.specs.Reading.{request_in}
use Rattle.zk_frames.specs.declared.fault.RequestFault.{RequestFault}
use Rattle.zk_frames.specs.declared.fault.RequestFault.TheVariants as faults
use Rattle.zk_frames.specs.declared.records.AuthPacket.{AuthPacket}
use Rattle.zk_frames.specs.declared.records.CreateRequest.{CreateRequest}
use Rattle.zk_frames.specs.declared.records.RemoveWatchesRequest.{RemoveWatchesRequest}
use Rattle.zk_frames.specs.declared.records.SetWatches.{SetWatches}
use Rattle.zk_frames.specs.declared.request.ClientRequest.{ClientRequest}
use Rattle.zk_frames.specs.declared.multi.MultiPart.{MultiPart}
use Rattle.zk_frames.specs.declared.multi.MultiPart.TheVariants as parts
use Rattle.zk_frames.specs.declared.request.RequestBody.{RequestBody}
use Rattle.zk_frames.specs.declared.request.RequestBody.TheVariants as bodies
use Rattle.zk_client_session.specs.SavedWatches.{saved_in}
use Rattle.zk_client_session.specs.declared.ask.Action.{Action}
use Rattle.zk_client_session.specs.declared.ask.Action.TheVariants as actions
use Rattle.zk_client_session.specs.declared.ask.Ask.TheVariants as asks
use Rattle.zk_client_session.specs.declared.ask.Immediate.TheVariants as immediates
use Rattle.zk_client_session.specs.declared.ask.WatcherType.{WatcherType}
use Rattle.zk_client_session.specs.declared.ask.WatcherType.TheVariants as watchers
use Rattle.zk_client_session.specs.declared.expected_reply.ExpectedReply.{ExpectedReply}
use Rattle.zk_client_session.specs.declared.expected_reply.PartKind.{PartKind}
use Rattle.zk_client_session.specs.declared.expected_reply.PartKind.TheVariants as part_kinds
use Rattle.zk_client_session.specs.declared.expected_reply.ReplyKind.{ReplyKind}
use Rattle.zk_client_session.specs.declared.expected_reply.ReplyKind.TheVariants as kinds
use Rattle.zk_client_session.specs.declared.link.Link.{Link}
use Rattle.zk_client_session.specs.declared.read_kind.ReadKind.{ReadKind}
use Rattle.zk_client_session.specs.declared.read_kind.ReadKind.TheVariants as reads
use Rattle.zk_path.specs.Paths.{fault_of}
use Rattle.zk_requests.specs.Requests.{is_ephemeral}
use Rattle.zk_requests.specs.declared.call.Part.{Part}
use Rattle.zk_requests.specs.declared.call.Part.TheVariants as asked
use Rattle.zk_requests.specs.declared.call.Request.{Request}
use Rattle.zk_requests.specs.declared.call.Request.TheVariants as requests
use Rattle.zk_table.specs.Codes.{no_node}
use Rattle.zk_table.specs.Nodes.{content_length}
use Rattle.zk_table.specs.declared.read.ReadCall.{ReadCall}
use Rattle.zk_table.specs.declared.read.ReadCall.TheVariants as calls

-- ---- codes, as `KeeperException.Code` numbers them

-- -5: the body of a request is unreadable
abbrev pub marshalling_error : ℤ
marshalling_error = negsuc 4

-- -121
abbrev pub no_watcher : ℤ
no_watcher = negsuc 120

-- ---- the state

-- the client of a session has seen a transaction, and proved no identity
abbrev pub attached : ℤ → ℤ → Link
attached session seen = record { session = session; seen = seen; auths = [] }

-- what the client has seen never decreases
abbrev pub seeing : Link → ℤ → Link
seeing link zxid = record link { seen = int_max link.seen zxid }

-- ---- writes

-- the request's xid is its number in the session
abbrev pub write : Link → ℤ → ReplyKind → Request → Action
write link xid kind request = actions.Asks (asks.Write link.session xid link.auths request) (record { xid = xid; kind = kind })

abbrev pub create : Link → ℤ → ReplyKind → CreateRequest → Action
create link xid kind r = write link xid kind (requests.Create r.path r.content (acls_of r.acl) r.flags)

-- a new ephemeral node belongs to the session
abbrev pub owner_by : ℤ → ℤ → ℤ
owner_by session flags = if is_ephemeral flags then session else pos 0

-- what `create2` needs for the stat of the new node
abbrev pub created_with_stat : ℤ → CreateRequest → ReplyKind
created_with_stat session r = kinds.CreatedWithStat (owner_by session r.flags) (int_wrap w32 (pos (content_length r.content)))

abbrev pub part_of : MultiPart → Part
part_of (parts.Create r) = asked.Create r.path r.content (acls_of r.acl) r.flags
part_of (parts.Create2 r) = asked.Create r.path r.content (acls_of r.acl) r.flags
part_of (parts.Delete r) = asked.Delete r.path r.version
part_of (parts.SetData r) = asked.SetData r.path r.content r.version
part_of (parts.Check r) = asked.Check r.path r.version

abbrev pub kind_of : MultiPart → PartKind
kind_of (parts.Create r) = part_kinds.Create
kind_of (parts.Create2 r) = part_kinds.Create
kind_of (parts.Delete r) = part_kinds.Delete
kind_of (parts.SetData r) = part_kinds.SetData
kind_of (parts.Check r) = part_kinds.Check

abbrev pub multi : Link → ℤ → List MultiPart → Action
multi link xid parts = write link xid (kinds.Multi (map kind_of parts)) (requests.Multi (map part_of parts))

-- ---- reads

abbrev pub rejected : ℤ → ℤ → Action
rejected xid code = actions.Replies (immediates.Rejected xid code)

abbrev pub path_in : List ℕ → Option (List ℕ)
path_in text = if is_none (fault_of text) then Some text else None

abbrev pub call_of : ReadKind → List ℕ → ReadCall
call_of reads.Exists path = calls.Exists path
call_of reads.GetData path = calls.GetData path
call_of reads.GetAcl path = calls.GetAcl path
call_of reads.GetChildren path = calls.GetChildren path
call_of reads.GetChildren2 path = calls.GetChildren path

abbrev pub reply_kind : ReadKind → ReplyKind
reply_kind reads.Exists = kinds.Existence
reply_kind reads.GetData = kinds.Data
reply_kind reads.GetAcl = kinds.Acl
reply_kind reads.GetChildren = kinds.Children
reply_kind reads.GetChildren2 = kinds.ChildrenWithStat

-- at an invalid path there is no node
abbrev pub read_at : Option (List ℕ) → Link → ℤ → ReadKind → Bool → Action
read_at None link xid kind watch = rejected xid no_node
read_at (Some path) link xid kind watch = actions.Asks (asks.Read link.session link.seen link.auths (call_of kind path) watch) (record { xid = xid; kind = reply_kind kind })

abbrev pub read : Link → ℤ → ReadKind → List ℕ → Bool → Action
read link xid kind path watch = read_at (path_in path) link xid kind watch

abbrev pub count_at : Option (List ℕ) → Link → ℤ → Action
count_at None link xid = rejected xid no_node
count_at (Some path) link xid = actions.Asks (asks.CountDescendants link.session link.seen link.auths path) (record { xid = xid; kind = kinds.Count })

-- ---- watches

abbrev pub set_watches : Link → ℤ → SetWatches → Action
set_watches link xid r = actions.Asks (asks.SetWatches link.session r.relative_zxid link.auths (saved_in r)) (record { xid = xid; kind = kinds.WatchesSet })

-- `Watcher.WatcherType`
abbrev pub watcher_type : ℤ → Option WatcherType
watcher_type number = if int_eq number (pos 1) then Some watchers.Children else (if int_eq number (pos 2) then Some watchers.Data else (if int_eq number (pos 3) then Some watchers.Any else None))

-- at an invalid path there is no watch
abbrev pub remove_watches_at : Option (List ℕ) → ℤ → WatcherType → Action
remove_watches_at None xid kind = rejected xid no_watcher
remove_watches_at (Some path) xid kind = actions.Asks (asks.RemoveWatches path kind) (record { xid = xid; kind = kinds.WatchesRemoved })

abbrev pub remove_watches_by : Option WatcherType → ℤ → List ℕ → Action
remove_watches_by None xid path = rejected xid marshalling_error
remove_watches_by (Some kind) xid path = remove_watches_at (path_in path) xid kind

abbrev pub remove_watches : ℤ → RemoveWatchesRequest → Action
remove_watches xid r = remove_watches_by (watcher_type r.kind) xid r.path

-- ---- proofs of identity

abbrev pub digest_in : Option (List ℕ) → Option Id
digest_in None = None
digest_in (Some bytes) = if is_utf8 bytes then digest_of bytes else None

-- a connection has at most 100 identities, since each of its requests takes them along
abbrev pub are_all : List Id → Bool
are_all ids = nat_le 100 (length ids)

abbrev pub with_another : Link → ℤ → Id → Link × Action
with_another link xid id = (record link { auths = link.auths ++ id ∷ [] }, actions.Replies (immediates.Authenticated xid))

abbrev pub without_another : Link → ℤ → Link × Action
without_another link xid = (link, actions.Replies (immediates.NotAuthenticated xid))

abbrev pub with_identity : Link → ℤ → Option Id → Link × Action
with_identity link xid None = without_another link xid
with_identity link xid (Some id) = if are_all link.auths then without_another link xid else with_another link xid id

-- A user and password prove an identity of scheme digest. Scheme ip always succeeds: the address is
-- the connection's, and no list of this server names it.
abbrev pub authenticated : Link → ℤ → AuthPacket → Link × Action
authenticated link xid r = if bytes_eq r.scheme (codes "ip") then (link, actions.Replies (immediates.Authenticated xid)) else (if bytes_eq r.scheme (codes "digest") then with_identity link xid (digest_in r.auth) else with_identity link xid None)

-- ---- frames

-- the action of a request, and the connection's state after it
abbrev pub action_by : Link → ℤ → RequestBody → Link × Action
action_by link xid (bodies.Create r) = (link, create link xid kinds.Created r)
action_by link xid (bodies.Create2 r) = (link, create link xid (created_with_stat link.session r) r)
action_by link xid (bodies.Delete r) = (link, write link xid kinds.Deleted (requests.Delete r.path r.version))
action_by link xid (bodies.SetData r) = (link, write link xid kinds.Changed (requests.SetData r.path r.content r.version))
action_by link xid (bodies.SetAcl r) = (link, write link xid kinds.Changed (requests.SetAcl r.path (acls_of r.acl) r.version))
action_by link xid (bodies.Multi parts) = (link, multi link xid parts)
action_by link xid bodies.CloseSession = (link, write link xid kinds.Closed requests.CloseSession)
action_by link xid (bodies.Exists r) = (link, read link xid reads.Exists r.path r.watch)
action_by link xid (bodies.GetData r) = (link, read link xid reads.GetData r.path r.watch)
action_by link xid (bodies.GetAcl path) = (link, read link xid reads.GetAcl path false)
action_by link xid (bodies.GetChildren r) = (link, read link xid reads.GetChildren r.path r.watch)
action_by link xid (bodies.GetChildren2 r) = (link, read link xid reads.GetChildren2 r.path r.watch)
action_by link xid (bodies.GetEphemerals prefix) = (link, actions.Asks (asks.Ephemerals link.session prefix) (record { xid = xid; kind = kinds.Paths }))
action_by link xid (bodies.GetAllChildrenNumber path) = (link, count_at (path_in path) link xid)
action_by link xid (bodies.Sync path) = (link, actions.Asks (asks.Sync link.session) (record { xid = xid; kind = kinds.Synced path }))
action_by link xid bodies.Ping = (link, actions.Replies immediates.Ping)
action_by link xid (bodies.Auth r) = authenticated link xid r
action_by link xid (bodies.SetWatches r) = (link, set_watches link xid r)
action_by link xid (bodies.RemoveWatches r) = (link, remove_watches xid r)

-- a frame without a whole header closes the connection; any other has a reply
abbrev pub action_read : Link → Result ClientRequest RequestFault → Link × Action
action_read link (Ok request) = action_by link request.xid request.body
action_read link (Err (faults.Body xid fault)) = (link, rejected xid marshalling_error)
action_read link (Err (faults.Type xid)) = (link, actions.Replies (immediates.Unimplemented xid))
action_read link (Err fault) = (link, actions.Closes)

abbrev pub action_of : Link → List ℕ → Link × Action
action_of link frame = action_read link (request_in frame)
