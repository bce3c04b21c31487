-- Reading requests from left to right, up to the first fault.
use Rattle.std.specs.Prelude.{◌≡◌, ℕ, zero, suc, ℤ, pos, negsuc, List, [], ◌∷◌, length, Bool, true, false, Option, Some, None, Result, Ok, Err, if◌then◌else◌}
use Rattle.std.specs.Int.{w32, w64}
use Rattle.std.specs.Ordering.{int_eq}
use Rattle.zk_frames.specs.declared.acl_records.AclRecord.{AclRecord}
use Rattle.zk_frames.specs.declared.fault.RequestFault.{RequestFault}
use Rattle.zk_frames.specs.declared.fault.RequestFault.TheVariants as request_faults
use Rattle.zk_frames.specs.declared.multi.MultiHeader.{MultiHeader}
use Rattle.zk_frames.specs.declared.multi.MultiPart.{MultiPart}
use Rattle.zk_frames.specs.declared.multi.MultiPart.TheVariants as parts
use Rattle.zk_frames.specs.declared.records.AuthPacket.{AuthPacket}
use Rattle.zk_frames.specs.declared.records.ConnectRequest.{ConnectRequest}
use Rattle.zk_frames.specs.declared.records.CreateRequest.{CreateRequest}
use Rattle.zk_frames.specs.declared.records.DeleteRequest.{DeleteRequest}
use Rattle.zk_frames.specs.declared.records.PathRequest.{PathRequest}
use Rattle.zk_frames.specs.declared.records.RemoveWatchesRequest.{RemoveWatchesRequest}
use Rattle.zk_frames.specs.declared.records.RequestHeader.{RequestHeader}
use Rattle.zk_frames.specs.declared.records.SetAclRequest.{SetAclRequest}
use Rattle.zk_frames.specs.declared.records.SetDataRequest.{SetDataRequest}
use Rattle.zk_frames.specs.declared.records.SetWatches.{SetWatches}
use Rattle.zk_frames.specs.declared.request.ClientRequest.{ClientRequest}
use Rattle.zk_frames.specs.declared.request.RequestBody.{RequestBody}
use Rattle.zk_frames.specs.declared.request.RequestBody.TheVariants as bodies
use Rattle.zk_frames.specs.declared.request_kind.RequestKind.{RequestKind}
use Rattle.zk_frames.specs.declared.request_kind.RequestKind.TheVariants as kinds
use Rattle.zk_jute.specs.declared.fault.JuteFault.{JuteFault}
use Rattle.zk_jute.specs.declared.fault.JuteFault.TheVariants as faults
use Rattle.zk_jute.specs.Reading.{◌>>=◌, number_at, text_at, content_at, boolean_at, vector_at, made_of, whole}

-- ---- access control lists

-- whether null comes next; otherwise nothing is read
unfoldable pub null_at : List ℕ → Result (Bool × List ℕ) JuteFault
null_at bytes = do
  len ← number_at w32 bytes
  if int_eq len.0 (negsuc 0) then Ok (true, len.1) else Ok (false, bytes)

abbrev pub unless_null : {A : Type 0} → (List ℕ → Result (A × List ℕ) JuteFault) → Bool → List ℕ → Result (Option A × List ℕ) JuteFault
unless_null read true rest = Ok (None, rest)
unless_null read false rest = made_of Some (read rest)

-- a field that may be null
unfoldable pub null_or : {A : Type 0} → (List ℕ → Result (A × List ℕ) JuteFault) → List ℕ → Result (Option A × List ℕ) JuteFault
null_or read bytes = do
  null ← null_at bytes
  unless_null read null.0 null.1

unfoldable pub acl_record_at : List ℕ → Result (AclRecord × List ℕ) JuteFault
acl_record_at bytes = do
  perms ← number_at w32 bytes
  scheme ← null_or text_at perms.1
  id ← null_or text_at scheme.1
  Ok (record { perms = perms.0; scheme = scheme.0; id = id.0 }, id.1)

abbrev pub acl_records_at : List ℕ → Result (Option (List AclRecord) × List ℕ) JuteFault
acl_records_at bytes = null_or (vector_at acl_record_at) bytes

-- ---- records

unfoldable pub header_at : List ℕ → Result (RequestHeader × List ℕ) JuteFault
header_at bytes = do
  xid ← number_at w32 bytes
  kind ← number_at w32 xid.1
  Ok (record { xid = xid.0; kind = kind.0 }, kind.1)

unfoldable pub create_at : List ℕ → Result (CreateRequest × List ℕ) JuteFault
create_at bytes = do
  path ← text_at bytes
  content ← content_at path.1
  acl ← acl_records_at content.1
  flags ← number_at w32 acl.1
  Ok (record { path = path.0; content = content.0; acl = acl.0; flags = flags.0 }, flags.1)

unfoldable pub delete_at : List ℕ → Result (DeleteRequest × List ℕ) JuteFault
delete_at bytes = do
  path ← text_at bytes
  version ← number_at w32 path.1
  Ok (record { path = path.0; version = version.0 }, version.1)

unfoldable pub path_request_at : List ℕ → Result (PathRequest × List ℕ) JuteFault
path_request_at bytes = do
  path ← text_at bytes
  watch ← boolean_at path.1
  Ok (record { path = path.0; watch = watch.0 }, watch.1)

unfoldable pub set_data_at : List ℕ → Result (SetDataRequest × List ℕ) JuteFault
set_data_at bytes = do
  path ← text_at bytes
  content ← content_at path.1
  version ← number_at w32 content.1
  Ok (record { path = path.0; content = content.0; version = version.0 }, version.1)

unfoldable pub set_acl_at : List ℕ → Result (SetAclRequest × List ℕ) JuteFault
set_acl_at bytes = do
  path ← text_at bytes
  acl ← acl_records_at path.1
  version ← number_at w32 acl.1
  Ok (record { path = path.0; acl = acl.0; version = version.0 }, version.1)

unfoldable pub remove_watches_at : List ℕ → Result (RemoveWatchesRequest × List ℕ) JuteFault
remove_watches_at bytes = do
  path ← text_at bytes
  kind ← number_at w32 path.1
  Ok (record { path = path.0; kind = kind.0 }, kind.1)

unfoldable pub auth_at : List ℕ → Result (AuthPacket × List ℕ) JuteFault
auth_at bytes = do
  kind ← number_at w32 bytes
  scheme ← text_at kind.1
  auth ← content_at scheme.1
  Ok (record { kind = kind.0; scheme = scheme.0; auth = auth.0 }, auth.1)

unfoldable pub set_watches_at : List ℕ → Result (SetWatches × List ℕ) JuteFault
set_watches_at bytes = do
  relative_zxid ← number_at w64 bytes
  data_watches ← vector_at text_at relative_zxid.1
  exist_watches ← vector_at text_at data_watches.1
  child_watches ← vector_at text_at exist_watches.1
  Ok (record { relative_zxid = relative_zxid.0; data_watches = data_watches.0; exist_watches = exist_watches.0; child_watches = child_watches.0 }, child_watches.1)

-- ---- multis

unfoldable pub multi_header_at : List ℕ → Result (MultiHeader × List ℕ) JuteFault
multi_header_at bytes = do
  kind ← number_at w32 bytes
  done ← boolean_at kind.1
  err ← number_at w32 done.1
  Ok (record { kind = kind.0; done = done.0; err = err.0 }, err.1)

unfoldable pub part_at : ℤ → List ℕ → Result (MultiPart × List ℕ) JuteFault
part_at kind bytes = if int_eq kind (pos 1) then made_of parts.Create (create_at bytes) else (if int_eq kind (pos 2) then made_of parts.Delete (delete_at bytes) else (if int_eq kind (pos 5) then made_of parts.SetData (set_data_at bytes) else (if int_eq kind (pos 13) then made_of parts.Check (delete_at bytes) else (if int_eq kind (pos 15) then made_of parts.Create2 (create_at bytes) else Err faults.Kind))))

-- after a header: a part, or the end
abbrev pub part_or_end : ℤ → Bool → List ℕ → Result (Option MultiPart × List ℕ) JuteFault
part_or_end kind true bytes = if int_eq kind (negsuc 0) then Ok (None, bytes) else Err faults.Kind
part_or_end kind false bytes = made_of Some (part_at kind bytes)

abbrev pub item_by : MultiHeader → List ℕ → Result (Option MultiPart × List ℕ) JuteFault
item_by header bytes = if int_eq header.err (negsuc 0) then part_or_end header.kind header.done bytes else Err faults.Kind

unfoldable pub item_at : List ℕ → Result (Option MultiPart × List ℕ) JuteFault
item_at bytes = do
  header ← multi_header_at bytes
  item_by header.0 header.1

-- nothing follows the end, and the other parts follow a part
abbrev pub after_item : (List ℕ → Result (List MultiPart × List ℕ) JuteFault) → Option MultiPart → List ℕ → Result (List MultiPart × List ℕ) JuteFault
after_item others None bytes = Ok ([], bytes)
after_item others (Some part) bytes = do
  more ← others bytes
  Ok (part ∷ more.0, more.1)

-- fewer than n parts, up to the end
unfoldable pub parts_at : ℕ → List ℕ → Result (List MultiPart × List ℕ) JuteFault
parts_at zero bytes = Err faults.Short
parts_at (suc n) bytes = do
  item ← item_at bytes
  after_item (parts_at n) item.0 item.1

abbrev pub multi_at : List ℕ → Result (List MultiPart × List ℕ) JuteFault
multi_at bytes = parts_at (length bytes) bytes

-- ---- requests

-- the types that a server knows: `ZooDefs.OpCode`
abbrev pub known_kind : ℤ → Option RequestKind
known_kind kind = if int_eq kind (pos 1) then Some kinds.Create else (if int_eq kind (pos 2) then Some kinds.Delete else (if int_eq kind (pos 3) then Some kinds.Exists else (if int_eq kind (pos 4) then Some kinds.GetData else (if int_eq kind (pos 5) then Some kinds.SetData else (if int_eq kind (pos 6) then Some kinds.GetAcl else (if int_eq kind (pos 7) then Some kinds.SetAcl else (if int_eq kind (pos 8) then Some kinds.GetChildren else (if int_eq kind (pos 9) then Some kinds.Sync else (if int_eq kind (pos 11) then Some kinds.Ping else (if int_eq kind (pos 12) then Some kinds.GetChildren2 else (if int_eq kind (pos 14) then Some kinds.Multi else (if int_eq kind (pos 15) then Some kinds.Create2 else (if int_eq kind (pos 18) then Some kinds.RemoveWatches else (if int_eq kind (pos 100) then Some kinds.Auth else (if int_eq kind (pos 101) then Some kinds.SetWatches else (if int_eq kind (pos 103) then Some kinds.GetEphemerals else (if int_eq kind (pos 104) then Some kinds.GetAllChildrenNumber else (if int_eq kind (negsuc 10) then Some kinds.CloseSession else None))))))))))))))))))

-- the body, by its type
abbrev pub body_at : RequestKind → List ℕ → Result (RequestBody × List ℕ) JuteFault
body_at kinds.Create bytes = made_of bodies.Create (create_at bytes)
body_at kinds.Delete bytes = made_of bodies.Delete (delete_at bytes)
body_at kinds.Exists bytes = made_of bodies.Exists (path_request_at bytes)
body_at kinds.GetData bytes = made_of bodies.GetData (path_request_at bytes)
body_at kinds.SetData bytes = made_of bodies.SetData (set_data_at bytes)
body_at kinds.GetAcl bytes = made_of bodies.GetAcl (text_at bytes)
body_at kinds.SetAcl bytes = made_of bodies.SetAcl (set_acl_at bytes)
body_at kinds.GetChildren bytes = made_of bodies.GetChildren (path_request_at bytes)
body_at kinds.Sync bytes = made_of bodies.Sync (text_at bytes)
body_at kinds.Ping bytes = Ok (bodies.Ping, bytes)
body_at kinds.GetChildren2 bytes = made_of bodies.GetChildren2 (path_request_at bytes)
body_at kinds.Multi bytes = made_of bodies.Multi (multi_at bytes)
body_at kinds.Create2 bytes = made_of bodies.Create2 (create_at bytes)
body_at kinds.RemoveWatches bytes = made_of bodies.RemoveWatches (remove_watches_at bytes)
body_at kinds.Auth bytes = made_of bodies.Auth (auth_at bytes)
body_at kinds.SetWatches bytes = made_of bodies.SetWatches (set_watches_at bytes)
body_at kinds.GetEphemerals bytes = made_of bodies.GetEphemerals (text_at bytes)
body_at kinds.GetAllChildrenNumber bytes = made_of bodies.GetAllChildrenNumber (text_at bytes)
body_at kinds.CloseSession bytes = Ok (bodies.CloseSession, bytes)

abbrev pub request_by : ℤ → Result RequestBody JuteFault → Result ClientRequest RequestFault
request_by xid (Ok body) = Ok (record { xid = xid; body = body })
request_by xid (Err fault) = Err (request_faults.Body xid fault)

-- after the header: the type is judged, and then all the bytes are the body
abbrev pub typed_request : ℤ → Option RequestKind → List ℕ → Result ClientRequest RequestFault
typed_request xid None bytes = Err (request_faults.Type xid)
typed_request xid (Some kind) bytes = request_by xid (whole (body_at kind bytes))

abbrev pub request_after : Result (RequestHeader × List ℕ) JuteFault → Result ClientRequest RequestFault
request_after (Ok header) = typed_request header.0.xid (known_kind header.0.kind) header.1
request_after (Err fault) = Err request_faults.Header

abbrev pub request_in : List ℕ → Result ClientRequest RequestFault
request_in bytes = request_after (header_at bytes)

-- the fault of a body; an allocation failure is its own
abbrev pub unreadable : ℤ → JuteFault → RequestFault
unreadable xid faults.NoMemory = request_faults.NoMemory
unreadable xid fault = request_faults.Body xid fault

-- the result is that of the reading, except for an allocation failure
abbrev pub IsRead : Result ClientRequest RequestFault → Result ClientRequest RequestFault → Type 0
IsRead (Err request_faults.NoMemory) read = Unit {0}
IsRead result read = read ≡ result

-- ---- connect requests

-- the byte that clients of 3.4 and later add
abbrev pub read_only_in : List ℕ → Option Bool
read_only_in [] = None
read_only_in (zero ∷ rest) = Some false
read_only_in (suc byte ∷ rest) = Some true

-- bytes after the record are ignored
unfoldable pub connect_request_in : List ℕ → Result ConnectRequest JuteFault
connect_request_in bytes = do
  protocol_version ← number_at w32 bytes
  last_zxid_seen ← number_at w64 protocol_version.1
  timeout ← number_at w32 last_zxid_seen.1
  session ← number_at w64 timeout.1
  password ← content_at session.1
  Ok (record { protocol_version = protocol_version.0; last_zxid_seen = last_zxid_seen.0; timeout = timeout.0; session = session.0; password = password.0; read_only = read_only_in password.1 })
