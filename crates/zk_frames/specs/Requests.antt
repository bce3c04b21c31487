-- The bytes of requests: `zookeeper.jute`, module `org.apache.zookeeper.proto`, in Jute's binary
-- encoding.
use Rattle.std.specs.Prelude.{◌≡◌, ℕ, ℤ, pos, negsuc, List, [], ◌++◌, true, false, Option, Some, None, FitsSigned}
use Rattle.std.specs.List.{flat_map, AllByRecursion}
use Rattle.std.specs.Int.{w32, w64}
use Rattle.zk_frames.specs.declared.acl_records.AclRecord.{AclRecord}
use Rattle.zk_frames.specs.declared.multi.MultiHeader.{MultiHeader}
use Rattle.zk_frames.specs.declared.multi.MultiPart.{MultiPart}
use Rattle.zk_frames.specs.declared.multi.MultiPart.TheVariants as parts
use Rattle.zk_frames.specs.declared.records.AuthPacket.{AuthPacket}
use Rattle.zk_frames.specs.declared.records.CreateRequest.{CreateRequest}
use Rattle.zk_frames.specs.declared.records.DeleteRequest.{DeleteRequest}
use Rattle.zk_frames.specs.declared.records.PathRequest.{PathRequest}
use Rattle.zk_frames.specs.declared.records.RemoveWatchesRequest.{RemoveWatchesRequest}
use Rattle.zk_frames.specs.declared.records.RequestHeader.{RequestHeader}
use Rattle.zk_frames.specs.declared.records.SetAclRequest.{SetAclRequest}
use Rattle.zk_frames.specs.declared.records.SetDataRequest.{SetDataRequest}
use Rattle.zk_frames.specs.declared.records.SetWatches.{SetWatches}
use Rattle.zk_frames.specs.declared.request.ClientRequest.{ClientRequest}
use Rattle.zk_frames.specs.declared.request.RequestBody.{RequestBody}
use Rattle.zk_frames.specs.declared.request.RequestBody.TheVariants as bodies
use Rattle.zk_records.specs.Records.{int, long, boolean, ustring, buffer, vector, IsText, IsContent, AreElements}

-- ---- access control lists

-- null has the length -1
abbrev pub nullable : {A : Type 0} → (A → List ℕ) → Option A → List ℕ
nullable bytes_of None = int (negsuc 0)
nullable bytes_of (Some x) = bytes_of x

-- `ACL`, with the `Id`; either text may be null
abbrev pub acl_record : AclRecord → List ℕ
acl_record r = int r.perms ++ nullable ustring r.scheme ++ nullable ustring r.id

-- a vector, which may be null
abbrev pub acl_records : Option (List AclRecord) → List ℕ
acl_records acl = nullable (vector acl_record) acl

-- ---- records

abbrev pub create_request : CreateRequest → List ℕ
create_request r = ustring r.path ++ buffer r.content ++ acl_records r.acl ++ int r.flags

abbrev pub delete_request : DeleteRequest → List ℕ
delete_request r = ustring r.path ++ int r.version

abbrev pub path_request : PathRequest → List ℕ
path_request r = ustring r.path ++ boolean r.watch

abbrev pub set_data_request : SetDataRequest → List ℕ
set_data_request r = ustring r.path ++ buffer r.content ++ int r.version

abbrev pub set_acl_request : SetAclRequest → List ℕ
set_acl_request r = ustring r.path ++ acl_records r.acl ++ int r.version

abbrev pub remove_watches_request : RemoveWatchesRequest → List ℕ
remove_watches_request r = ustring r.path ++ int r.kind

abbrev pub auth_packet : AuthPacket → List ℕ
auth_packet r = int r.kind ++ ustring r.scheme ++ buffer r.auth

abbrev pub set_watches : SetWatches → List ℕ
set_watches r = long r.relative_zxid ++ vector ustring r.data_watches ++ vector ustring r.exist_watches ++ vector ustring r.child_watches

abbrev pub request_header : RequestHeader → List ℕ
request_header h = int h.xid ++ int h.kind

-- ---- multis

abbrev pub multi_header : MultiHeader → List ℕ
multi_header h = int h.kind ++ boolean h.done ++ int h.err

abbrev pub part_kind_of : MultiPart → ℤ
part_kind_of (parts.Create r) = pos 1
part_kind_of (parts.Delete r) = pos 2
part_kind_of (parts.SetData r) = pos 5
part_kind_of (parts.Check r) = pos 13
part_kind_of (parts.Create2 r) = pos 15

abbrev pub part_body_of : MultiPart → List ℕ
part_body_of (parts.Create r) = create_request r
part_body_of (parts.Delete r) = delete_request r
part_body_of (parts.SetData r) = set_data_request r
part_body_of (parts.Check r) = delete_request r
part_body_of (parts.Create2 r) = create_request r

abbrev pub part_header_of : MultiPart → MultiHeader
part_header_of part = record { kind = part_kind_of part; done = false; err = negsuc 0 }

abbrev pub end_header : MultiHeader
end_header = record { kind = negsuc 0; done = true; err = negsuc 0 }

abbrev pub part_of : MultiPart → List ℕ
part_of part = multi_header (part_header_of part) ++ part_body_of part

-- each part after its header, and then the header that ends them
abbrev pub multi_of : List MultiPart → List ℕ
multi_of parts = flat_map part_of parts ++ multi_header end_header

-- ---- requests

-- `ZooDefs.OpCode`
abbrev pub kind_of : RequestBody → ℤ
kind_of (bodies.Create r) = pos 1
kind_of (bodies.Delete r) = pos 2
kind_of (bodies.Exists r) = pos 3
kind_of (bodies.GetData r) = pos 4
kind_of (bodies.SetData r) = pos 5
kind_of (bodies.GetAcl path) = pos 6
kind_of (bodies.SetAcl r) = pos 7
kind_of (bodies.GetChildren r) = pos 8
kind_of (bodies.Sync path) = pos 9
kind_of bodies.Ping = pos 11
kind_of (bodies.GetChildren2 r) = pos 12
kind_of (bodies.Multi parts) = pos 14
kind_of (bodies.Create2 r) = pos 15
kind_of (bodies.RemoveWatches r) = pos 18
kind_of (bodies.Auth r) = pos 100
kind_of (bodies.SetWatches r) = pos 101
kind_of (bodies.GetEphemerals prefix) = pos 103
kind_of (bodies.GetAllChildrenNumber path) = pos 104
kind_of bodies.CloseSession = negsuc 10

abbrev pub body_of : RequestBody → List ℕ
body_of (bodies.Create r) = create_request r
body_of (bodies.Delete r) = delete_request r
body_of (bodies.Exists r) = path_request r
body_of (bodies.GetData r) = path_request r
body_of (bodies.SetData r) = set_data_request r
body_of (bodies.GetAcl path) = ustring path
body_of (bodies.SetAcl r) = set_acl_request r
body_of (bodies.GetChildren r) = path_request r
body_of (bodies.Sync path) = ustring path
body_of bodies.Ping = []
body_of (bodies.GetChildren2 r) = path_request r
body_of (bodies.Multi parts) = multi_of parts
body_of (bodies.Create2 r) = create_request r
body_of (bodies.RemoveWatches r) = remove_watches_request r
body_of (bodies.Auth r) = auth_packet r
body_of (bodies.SetWatches r) = set_watches r
body_of (bodies.GetEphemerals prefix) = ustring prefix
body_of (bodies.GetAllChildrenNumber path) = ustring path
body_of bodies.CloseSession = []

abbrev pub header_of : ClientRequest → RequestHeader
header_of request = record { xid = request.xid; kind = kind_of request.body }

-- the header, and the body
unfoldable pub request_of : ClientRequest → List ℕ
request_of request = request_header (header_of request) ++ body_of request.body

-- ---- which requests have bytes

abbrev pub AreTexts : List (List ℕ) → Type 0
AreTexts texts = AreElements IsText texts

abbrev pub IsNullOr : {A : Type 0} → (A → Type 0) → Option A → Type 0
IsNullOr Fits None = Unit {0}
IsNullOr Fits (Some x) = Fits x

pub record IsAclRecord (r : AclRecord) : Type 0 where
  pub perms : FitsSigned w32 r.perms
  pub scheme : IsNullOr IsText r.scheme
  pub id : IsNullOr IsText r.id

abbrev pub AreAclRecords : Option (List AclRecord) → Type 0
AreAclRecords acl = IsNullOr (AreElements IsAclRecord) acl

abbrev pub IsCreate : CreateRequest → Type 0
IsCreate r = IsText r.path × IsContent r.content × AreAclRecords r.acl × FitsSigned w32 r.flags

abbrev pub IsDelete : DeleteRequest → Type 0
IsDelete r = IsText r.path × FitsSigned w32 r.version

abbrev pub IsPathRequest : PathRequest → Type 0
IsPathRequest r = IsText r.path

abbrev pub IsSetData : SetDataRequest → Type 0
IsSetData r = IsText r.path × IsContent r.content × FitsSigned w32 r.version

abbrev pub IsSetAcl : SetAclRequest → Type 0
IsSetAcl r = IsText r.path × AreAclRecords r.acl × FitsSigned w32 r.version

abbrev pub IsRemoveWatches : RemoveWatchesRequest → Type 0
IsRemoveWatches r = IsText r.path × FitsSigned w32 r.kind

abbrev pub IsAuth : AuthPacket → Type 0
IsAuth r = FitsSigned w32 r.kind × IsText r.scheme × IsContent r.auth

abbrev pub IsSetWatches : SetWatches → Type 0
IsSetWatches r = FitsSigned w64 r.relative_zxid × AreTexts r.data_watches × AreTexts r.exist_watches × AreTexts r.child_watches

abbrev pub IsPart : MultiPart → Type 0
IsPart (parts.Create r) = IsCreate r
IsPart (parts.Delete r) = IsDelete r
IsPart (parts.SetData r) = IsSetData r
IsPart (parts.Check r) = IsDelete r
IsPart (parts.Create2 r) = IsCreate r

abbrev pub IsBody : RequestBody → Type 0
IsBody (bodies.Create r) = IsCreate r
IsBody (bodies.Delete r) = IsDelete r
IsBody (bodies.Exists r) = IsPathRequest r
IsBody (bodies.GetData r) = IsPathRequest r
IsBody (bodies.SetData r) = IsSetData r
IsBody (bodies.GetAcl path) = IsText path
IsBody (bodies.SetAcl r) = IsSetAcl r
IsBody (bodies.GetChildren r) = IsPathRequest r
IsBody (bodies.Sync path) = IsText path
IsBody bodies.Ping = Unit {0}
IsBody (bodies.GetChildren2 r) = IsPathRequest r
IsBody (bodies.Multi parts) = AllByRecursion IsPart parts
IsBody (bodies.Create2 r) = IsCreate r
IsBody (bodies.RemoveWatches r) = IsRemoveWatches r
IsBody (bodies.Auth r) = IsAuth r
IsBody (bodies.SetWatches r) = IsSetWatches r
IsBody (bodies.GetEphemerals prefix) = IsText prefix
IsBody (bodies.GetAllChildrenNumber path) = IsText path
IsBody bodies.CloseSession = Unit {0}

-- each number fits its type, each text is UTF-8, and each length fits its field
pub record IsRequest (request : ClientRequest) : Type 0 where
  pub xid : FitsSigned w32 request.xid
  pub body : IsBody request.body

-- the bytes are those of the request
pub record IsRequestOf (bytes : List ℕ) (request : ClientRequest) : Type 0 where
  pub fits : IsRequest request
  pub encoded : bytes ≡ request_of request
