-- The bytes of replies, watch events and connect responses: `zookeeper.jute`, modules
-- `org.apache.zookeeper.proto` and `org.apache.zookeeper.data`, in Jute's binary encoding.
use Rattle.std.specs.Prelude.{ℕ, ℤ, pos, negsuc, List, [], ◌++◌, Bool, true, false, Option, Some, None}
use Rattle.std.specs.List.{flat_map}
use Rattle.zk_acl.specs.declared.stat.Stat.{Stat}
use Rattle.zk_frames.specs.declared.reply.ClientReply.{ClientReply}
use Rattle.zk_frames.specs.declared.reply.ConnectResponse.{ConnectResponse}
use Rattle.zk_frames.specs.declared.reply.MultiResult.{MultiResult}
use Rattle.zk_frames.specs.declared.reply.MultiResult.TheVariants as results
use Rattle.zk_frames.specs.declared.reply.ReplyBody.{ReplyBody}
use Rattle.zk_frames.specs.declared.reply.ReplyBody.TheVariants as bodies
use Rattle.zk_frames.specs.declared.reply.WatcherEvent.{WatcherEvent}
use Rattle.zk_records.specs.Records.{int, long, boolean, ustring, buffer, vector, acl_vector}

-- ---- `Stat`

abbrev pub stat_zxids_and_times : Stat → List ℕ
stat_zxids_and_times s = long s.czxid ++ long s.mzxid ++ long s.ctime ++ long s.mtime

abbrev pub stat_versions : Stat → List ℕ
stat_versions s = int s.version ++ int s.cversion ++ int s.aversion

abbrev pub stat_rest : Stat → List ℕ
stat_rest s = long s.ephemeral_owner ++ int s.data_length ++ int s.num_children ++ long s.pzxid

unfoldable pub stat_record : Stat → List ℕ
stat_record s = stat_zxids_and_times s ++ stat_versions s ++ stat_rest s

-- ---- the results of a multi

-- `MultiHeader`
abbrev pub multi_header : ℤ → Bool → ℤ → List ℕ
multi_header kind done err = int kind ++ boolean done ++ int err

unfoldable pub result_of : MultiResult → List ℕ
result_of (results.Create path) = multi_header (pos 1) false (pos 0) ++ ustring path
result_of results.Delete = multi_header (pos 2) false (pos 0)
result_of (results.SetData stat) = multi_header (pos 5) false (pos 0) ++ stat_record stat
result_of results.Check = multi_header (pos 13) false (pos 0)
result_of (results.Error err) = multi_header (negsuc 0) false err ++ int err

abbrev pub multi_end : List ℕ
multi_end = multi_header (negsuc 0) true (negsuc 0)

-- ---- replies

abbrev pub body_of : ReplyBody → List ℕ
body_of bodies.Empty = []
body_of (bodies.Path path) = ustring path
body_of (bodies.PathAndStat path stat) = ustring path ++ stat_record stat
body_of (bodies.Stat stat) = stat_record stat
body_of (bodies.Data content stat) = buffer content ++ stat_record stat
body_of (bodies.Acl acl stat) = acl_vector acl ++ stat_record stat
body_of (bodies.Children children) = vector ustring children
body_of (bodies.ChildrenAndStat children stat) = vector ustring children ++ stat_record stat
body_of (bodies.Count count) = int count
body_of (bodies.Multi results) = flat_map result_of results ++ multi_end

-- `ReplyHeader`
abbrev pub reply_header : ℤ → ℤ → ℤ → List ℕ
reply_header xid zxid err = int xid ++ long zxid ++ int err

unfoldable pub reply_of : ClientReply → List ℕ
reply_of reply = reply_header reply.xid reply.zxid reply.err ++ body_of reply.body

-- ---- watch events

-- `WatcherEvent` after a header with the number and the transaction -1; the state is
-- `SyncConnected`
unfoldable pub event_of : WatcherEvent → List ℕ
event_of event = reply_header (negsuc 0) (negsuc 0) (pos 0) ++ int event.kind ++ int (pos 3) ++ ustring event.path

-- ---- connect responses

abbrev pub read_only_bytes : Option Bool → List ℕ
read_only_bytes None = []
read_only_bytes (Some flag) = boolean flag

-- `ConnectResponse`
unfoldable pub connect_response_of : ConnectResponse → List ℕ
connect_response_of r = int (pos 0) ++ int r.timeout ++ long r.session ++ buffer (Some r.password) ++ read_only_bytes r.read_only
