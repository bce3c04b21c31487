-- The bytes of a snapshot file: `FileSnap`, `SerializeUtils`, `DataTree` and
-- `ReferenceCountedACLCache` of `org.apache.zookeeper.server`, as servers of 3.4 to 3.8 write them.
-- Numbers are big-endian, in two's complement.
use Rattle.std.specs.Prelude.{◌≡◌, ℕ, ℤ, pos, List, [], ◌∷◌, ◌++◌, Option, Some, None, FitsSigned, if◌then◌else◌}
use Rattle.std.specs.Int.{w32, w64}
use Rattle.std.specs.List.{flat_map, AllByRecursion}
use Rattle.std.specs.Str.{bytes_eq}
use Rattle.zk_records.specs.Checksum.{adler_of}
use Rattle.zk_records.specs.Records.{int, long, ustring, buffer, vector, acl_vector, IsPathText, IsContent, AreElements, AreAcls}
use Rattle.zk_snapshot.specs.declared.snapshot.Access.{Access}
use Rattle.zk_snapshot.specs.declared.snapshot.Claim.{Claim}
use Rattle.zk_snapshot.specs.declared.snapshot.Contents.{Contents}
use Rattle.zk_snapshot.specs.declared.snapshot.Kept.{Kept}
use Rattle.zk_snapshot.specs.declared.snapshot.Lease.{Lease}
use Rattle.zk_snapshot.specs.declared.snapshot.Moments.{Moments}
use Rattle.zk_snapshot.specs.declared.snapshot.Snapshot.{Snapshot}
use Rattle.zk_snapshot.specs.declared.snapshot.Stored.{Stored}
use Rattle.zk_snapshot.specs.declared.snapshot.Versions.{Versions}

abbrev pub slash : List ℕ
slash = 47 ∷ []

-- `FileHeader`: "ZKSN", the version 2, the database's number
abbrev pub header : ℤ → List ℕ
header dbid = int (pos 0x5a4b534e) ++ int (pos 2) ++ long dbid

abbrev pub lease : Lease → List ℕ
lease l = long l.session ++ int l.timeout

abbrev pub access : Access → List ℕ
access a = long a.number ++ acl_vector a.acl

abbrev pub moments : Moments → List ℕ
moments m = long m.czxid ++ long m.mzxid ++ long m.ctime ++ long m.mtime

abbrev pub versions : Versions → List ℕ
versions v = int v.version ++ int v.creates ++ int v.aversion

-- `DataNode`: content, the number of the access control list, and `StatPersisted`
abbrev pub kept : Kept → List ℕ
kept k = buffer k.content ++ long k.access ++ moments k.moments ++ versions k.versions ++ long k.owner ++ long k.pzxid

-- the root is written as the empty text
abbrev pub written_path : List ℕ → List ℕ
written_path path = if bytes_eq path slash then [] else path

abbrev pub stored : Stored → List ℕ
stored s = ustring (written_path s.path) ++ kept s.kept

-- the nodes, and the path "/" as their end
abbrev pub stored_nodes : List Stored → List ℕ
stored_nodes nodes = flat_map stored nodes ++ ustring slash

abbrev pub contents : Contents → List ℕ
contents c = header c.dbid ++ vector lease c.leases ++ vector access c.accesses ++ stored_nodes c.nodes

-- a seal: the Adler-32 of all bytes before it, and the path "/"
abbrev pub sealed : List ℕ → List ℕ
sealed front = front ++ (long (pos (adler_of front)) ++ ustring slash)

-- `ZxidDigest`
abbrev pub claim : Claim → List ℕ
claim c = long c.zxid ++ int c.version ++ long c.sum

abbrev pub with_claim : List ℕ → Option Claim → List ℕ
with_claim front None = front
with_claim front (Some c) = sealed (front ++ claim c)

abbrev pub snapshot_bytes : Snapshot → List ℕ
snapshot_bytes s = with_claim (sealed (contents s.contents)) s.claim

-- ---- what can be written

pub record IsLease (l : Lease) : Type 0 where
  pub session : FitsSigned w64 l.session
  pub timeout : FitsSigned w32 l.timeout

pub record IsAccess (a : Access) : Type 0 where
  pub number : FitsSigned w64 a.number
  pub acl : AreAcls a.acl

pub record IsMoments (m : Moments) : Type 0 where
  pub czxid : FitsSigned w64 m.czxid
  pub mzxid : FitsSigned w64 m.mzxid
  pub ctime : FitsSigned w64 m.ctime
  pub mtime : FitsSigned w64 m.mtime

pub record IsVersions (v : Versions) : Type 0 where
  pub version : FitsSigned w32 v.version
  pub creates : FitsSigned w32 v.creates
  pub aversion : FitsSigned w32 v.aversion

pub record IsKept (k : Kept) : Type 0 where
  pub content : IsContent k.content
  pub access : FitsSigned w64 k.access
  pub moments : IsMoments k.moments
  pub versions : IsVersions k.versions
  pub owner : FitsSigned w64 k.owner
  pub pzxid : FitsSigned w64 k.pzxid

pub record IsStored (s : Stored) : Type 0 where
  pub path : IsPathText s.path
  pub kept : IsKept s.kept

pub record IsContents (c : Contents) : Type 0 where
  pub dbid : FitsSigned w64 c.dbid
  pub leases : AreElements IsLease c.leases
  pub accesses : AreElements IsAccess c.accesses
  pub nodes : AllByRecursion IsStored c.nodes

pub record IsClaim (c : Claim) : Type 0 where
  pub zxid : FitsSigned w64 c.zxid
  pub version : FitsSigned w32 c.version
  pub sum : FitsSigned w64 c.sum

abbrev pub MayClaim : Option Claim → Type 0
MayClaim None = Unit {0}
MayClaim (Some c) = IsClaim c

-- the bytes are all those of the snapshot
pub record IsSnapshotOf (bytes : List ℕ) (s : Snapshot) : Type 0 where
  pub contents : IsContents s.contents
  pub claim : MayClaim s.claim
  pub spelled : bytes ≡ snapshot_bytes s
