-- The bytes of replies and events: `zookeeper.jute`, `ReplyHeader`, and the response records of
-- module `org.apache.zookeeper.proto`. ZooKeeper Programmer's Guide, "ZooKeeper Watches": events
-- come before what they announce can be seen.
use Rattle.std.specs.Prelude.{◌≡◌, ℕ, ℤ, pos, negsuc, List, [], ◌∷◌, ◌++◌, map, Bool, true, false, if◌then◌else◌, Option, Some, None, option_map}
use Rattle.std.specs.List.{flat_map}
use Rattle.std.specs.Ordering.{int_eq}
use Rattle.zk_acl.specs.declared.stat.Stat.{Stat}
use Rattle.zk_frames.specs.Frames.{framed}
use Rattle.zk_frames.specs.Replies.{reply_of, event_of}
use Rattle.zk_frames.specs.declared.reply.ClientReply.{ClientReply}
use Rattle.zk_frames.specs.declared.reply.MultiResult.{MultiResult}
use Rattle.zk_frames.specs.declared.reply.MultiResult.TheVariants as multi_results
use Rattle.zk_frames.specs.declared.reply.ReplyBody.{ReplyBody}
use Rattle.zk_frames.specs.declared.reply.ReplyBody.TheVariants as bodies
use Rattle.zk_client_session.specs.Links.{seeing, no_watcher}
use Rattle.zk_client_session.specs.declared.ask.Immediate.{Immediate}
use Rattle.zk_client_session.specs.declared.ask.Immediate.TheVariants as immediates
use Rattle.zk_client_session.specs.declared.expected_reply.ExpectedReply.{ExpectedReply}
use Rattle.zk_client_session.specs.declared.expected_reply.PartKind.{PartKind}
use Rattle.zk_client_session.specs.declared.expected_reply.PartKind.TheVariants as part_kinds
use Rattle.zk_client_session.specs.declared.expected_reply.ReplyKind.{ReplyKind}
use Rattle.zk_client_session.specs.declared.expected_reply.ReplyKind.TheVariants as kinds
use Rattle.zk_client_session.specs.declared.link.Link.{Link}
use Rattle.zk_client_session.specs.declared.reply.Reply.{Reply}
use Rattle.zk_client_session.specs.declared.reply.Reply.TheVariants as answers
use Rattle.zk_client_session.specs.declared.reply.WatchEvent.{WatchEvent}
use Rattle.zk_machine.specs.declared.change.ChangeKind.{ChangeKind}
use Rattle.zk_machine.specs.declared.change.ChangeKind.TheVariants as changes
use Rattle.zk_table.specs.declared.read.ReadReply.{ReadReply}
use Rattle.zk_table.specs.declared.read.ReadReply.TheVariants as replies
use Rattle.zk_table.specs.declared.result.PartResult.{PartResult}
use Rattle.zk_table.specs.declared.result.TxnResult.{TxnResult}

-- ---- codes, as `KeeperException.Code` numbers them

-- -1
abbrev pub system_error : ℤ
system_error = negsuc 0

-- -6
abbrev pub unimplemented : ℤ
unimplemented = negsuc 5

-- -115
abbrev pub auth_failed : ℤ
auth_failed = negsuc 114

-- ---- immediate replies

abbrev pub header_alone : ℤ → ℤ → ℤ → ClientReply
header_alone xid zxid err = record { xid = xid; zxid = zxid; err = err; body = bodies.Empty }

-- the reply to a ping has xid -2
abbrev pub immediate_reply : ℤ → Immediate → ClientReply
immediate_reply zxid immediates.Ping = header_alone (negsuc 1) zxid (pos 0)
immediate_reply zxid (immediates.Authenticated xid) = header_alone xid (pos 0) (pos 0)
immediate_reply zxid (immediates.NotAuthenticated xid) = header_alone xid (pos 0) auth_failed
immediate_reply zxid (immediates.Unimplemented xid) = header_alone xid (negsuc 0) unimplemented
immediate_reply zxid (immediates.Rejected xid code) = header_alone xid zxid code

abbrev pub closes_after : Immediate → Bool
closes_after (immediates.NotAuthenticated xid) = true
closes_after other = false

-- ---- replies to writes

-- A node that was just created, of this owner and with this many bytes. The numbers are those of
-- the transaction.
abbrev pub new_stat : ℤ → ℤ → ℤ → ℤ → Stat
new_stat zxid time owner length = record {
  czxid = zxid;
  mzxid = zxid;
  ctime = time;
  mtime = time;
  version = pos 0;
  cversion = pos 0;
  aversion = pos 0;
  ephemeral_owner = owner;
  data_length = length;
  num_children = pos 0;
  pzxid = zxid;
}

abbrev pub or_error : Option MultiResult → MultiResult
or_error None = multi_results.Error system_error
or_error (Some result) = result

-- the result of a part of a multi that was applied
abbrev pub part_done : PartKind → PartResult → MultiResult
part_done part_kinds.Create part = or_error (option_map multi_results.Create part.path)
part_done part_kinds.Delete part = multi_results.Delete
part_done part_kinds.SetData part = or_error (option_map multi_results.SetData part.stat)
part_done part_kinds.Check part = multi_results.Check

abbrev pub parts_done : List PartResult → List PartKind → List MultiResult
parts_done [] kinds = []
parts_done (part ∷ parts) [] = []
parts_done (part ∷ parts) (kind ∷ kinds) = part_done kind part ∷ parts_done parts kinds

-- the body of the reply to a write that succeeded; none if another reply is expected
abbrev pub body_done : ReplyKind → TxnResult → ℤ → Option ReplyBody
body_done kinds.Created result time = option_map bodies.Path result.path
body_done (kinds.CreatedWithStat owner length) result time = option_map (λ path. bodies.PathAndStat path (new_stat result.zxid time owner length)) result.path
body_done kinds.Deleted result time = Some bodies.Empty
body_done kinds.Changed result time = option_map bodies.Stat result.stat
body_done (kinds.Multi parts) result time = Some (bodies.Multi (parts_done result.parts parts))
body_done kinds.Closed result time = Some bodies.Empty
body_done other result time = None

abbrev pub replied : ℤ → ℤ → Option ReplyBody → ClientReply
replied xid zxid None = header_alone xid zxid system_error
replied xid zxid (Some body) = record { xid = xid; zxid = zxid; err = pos 0; body = body }

abbrev pub part_failed : PartResult → MultiResult
part_failed part = multi_results.Error part.err

-- a failed multi has a code for each part, and none in the header; one that failed as a whole has
-- no parts
abbrev pub multi_failed : ℤ → TxnResult → List PartResult → ClientReply
multi_failed xid result [] = header_alone xid result.zxid result.err
multi_failed xid result (part ∷ parts) = record { xid = xid; zxid = result.zxid; err = pos 0; body = bodies.Multi (map part_failed (part ∷ parts)) }

-- a write that failed has a transaction too, and its reply that zxid
abbrev pub write_failed : ReplyKind → ℤ → TxnResult → ClientReply
write_failed (kinds.Multi parts) xid result = multi_failed xid result result.parts
write_failed kind xid result = header_alone xid result.zxid result.err

abbrev pub write_reply : ExpectedReply → TxnResult → ℤ → ClientReply
write_reply expected result time = if int_eq result.err (pos 0) then replied expected.xid result.zxid (body_done expected.kind result time) else write_failed expected.kind expected.xid result

-- ---- replies to reads

abbrev pub body_read : ReplyKind → ReadReply → Option ReplyBody
body_read kinds.Existence (replies.Found stat) = Some (bodies.Stat stat)
body_read kinds.Data (replies.Content content stat) = Some (bodies.Data content stat)
body_read kinds.Acl (replies.AclIs acl stat) = Some (bodies.Acl acl stat)
body_read kinds.Children (replies.Children names stat) = Some (bodies.Children names)
body_read kinds.ChildrenWithStat (replies.Children names stat) = Some (bodies.ChildrenAndStat names stat)
body_read kind reply = None

abbrev pub read_reply : ExpectedReply → ReadReply → ℤ → ClientReply
read_reply expected (replies.Refused code) zxid = header_alone expected.xid zxid code
read_reply expected reply zxid = replied expected.xid zxid (body_read expected.kind reply)

-- ---- other replies

abbrev pub body_synced : ReplyKind → Option ReplyBody
body_synced (kinds.Synced path) = Some (bodies.Path path)
body_synced other = None

abbrev pub body_set : ReplyKind → Option ReplyBody
body_set kinds.WatchesSet = Some bodies.Empty
body_set other = None

abbrev pub body_paths : ReplyKind → List (List ℕ) → Option ReplyBody
body_paths kinds.Paths paths = Some (bodies.Children paths)
body_paths other paths = None

abbrev pub body_count : ReplyKind → ℤ → Option ReplyBody
body_count kinds.Count count = Some (bodies.Count count)
body_count other count = None

abbrev pub body_removed : ReplyKind → Option ReplyBody
body_removed kinds.WatchesRemoved = Some bodies.Empty
body_removed other = None

abbrev pub removed_reply : ExpectedReply → Bool → ℤ → ClientReply
removed_reply expected found zxid = if found then replied expected.xid zxid (body_removed expected.kind) else header_alone expected.xid zxid no_watcher

abbrev pub reply_to : ExpectedReply → Reply → ClientReply
reply_to expected (answers.Wrote result time) = write_reply expected result time
reply_to expected (answers.Read reply zxid) = read_reply expected reply zxid
reply_to expected (answers.CaughtUp zxid) = replied expected.xid zxid (body_synced expected.kind)
reply_to expected (answers.WatchesSet events zxid) = replied expected.xid zxid (body_set expected.kind)
reply_to expected (answers.WatchesRemoved found zxid) = removed_reply expected found zxid
reply_to expected (answers.Paths paths zxid) = replied expected.xid zxid (body_paths expected.kind paths)
reply_to expected (answers.Count count zxid) = replied expected.xid zxid (body_count expected.kind count)

-- closeSession ends the connection, done or not
abbrev pub closes_by : ReplyKind → Bool
closes_by kinds.Closed = true
closes_by other = false

-- ---- what is written

-- `WatcherEvent`, and `Watcher.EventType`
abbrev pub event_number : ChangeKind → ℤ
event_number changes.Created = pos 1
event_number changes.Deleted = pos 2
event_number changes.DataChanged = pos 3
event_number changes.ChildrenChanged = pos 4

abbrev pub event_frame : ChangeKind → List ℕ → List ℕ
event_frame kind path = framed (event_of (record { kind = event_number kind; path = path }))

abbrev pub events_bytes : List WatchEvent → List ℕ
events_bytes events = flat_map (λ event. event_frame event.kind event.path) events

abbrev pub events_in : Reply → List WatchEvent
events_in (answers.WatchesSet events zxid) = events
events_in other = []

abbrev pub zxid_in : Reply → ℤ
zxid_in (answers.Wrote result time) = result.zxid
zxid_in (answers.Read reply zxid) = zxid
zxid_in (answers.CaughtUp zxid) = zxid
zxid_in (answers.WatchesSet events zxid) = zxid
zxid_in (answers.WatchesRemoved found zxid) = zxid
zxid_in (answers.Paths paths zxid) = zxid
zxid_in (answers.Count count zxid) = zxid

-- the first watches of a setWatches have events, and no reply
abbrev pub is_begun : ReplyKind → Bool
is_begun kinds.WatchesBegun = true
is_begun other = false

-- A header names the greatest transaction that the client has seen: it is at least the reply's own,
-- and never falls. A client remembers the last header's, and shows it to its next server.
abbrev pub headed : Link → ClientReply → ClientReply
headed link reply = record reply { zxid = link.seen }

abbrev pub reply_frame : Link → ExpectedReply → Reply → List ℕ
reply_frame link expected reply = if is_begun expected.kind then [] else framed (reply_of (headed link (reply_to expected reply)))

-- events come before the reply that they came with, to a client that has seen what its server has
abbrev pub bytes_of : Link → ExpectedReply → Reply → List ℕ
bytes_of link expected reply = events_bytes (events_in reply) ++ reply_frame link expected reply

-- the state after a reply
abbrev pub after_reply : Link → Reply → Link
after_reply link reply = seeing link (zxid_in reply)

-- the bytes of an immediate reply, from a client that has seen what its server has
abbrev pub immediate_bytes : Link → Immediate → List ℕ
immediate_bytes link immediate = framed (reply_of (immediate_reply link.seen immediate))
