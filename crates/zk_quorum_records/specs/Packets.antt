-- The packets between a learner and its leader: `QuorumPacket`, `zookeeper.jute`, module
-- `org.apache.zookeeper.server.quorum`, in Jute's binary encoding.
use Rattle.std.specs.Prelude.{ℕ, ℤ, pos, negsuc, ◌≤◌, List, ◌++◌, length, Option, Some, None, FitsSigned}
use Rattle.std.specs.Int.{w32, w64}
use Rattle.zk_acl.specs.declared.acl.Id.{Id}
use Rattle.zk_quorum_records.specs.declared.packet.QuorumPacket.{QuorumPacket}
use Rattle.zk_records.specs.Records.{int, long, ustring, buffer, vector, IsText, IsContent, AreElements}

-- `Id`
abbrev pub identity : Id → List ℕ
identity id = ustring id.scheme ++ ustring id.id

abbrev pub IsIdentity : Id → Type 0
IsIdentity id = IsText id.scheme × IsText id.id

-- a null vector has the count -1
abbrev pub identities : Option (List Id) → List ℕ
identities None = int (negsuc 0)
identities (Some ids) = vector identity ids

abbrev pub AreIdentities : Option (List Id) → Type 0
AreIdentities None = Unit {0}
AreIdentities (Some ids) = AreElements IsIdentity ids

-- the greatest length of a packet's data, and of an item of a stream; `jute.maxbuffer` of other
-- servers is smaller by default
abbrev pub most_bytes : ℕ
most_bytes = 16777216

abbrev pub IsData : Option (List ℕ) → Type 0
IsData None = Unit {0}
IsData (Some content) = length content ≤ most_bytes

unfoldable pub packet : QuorumPacket → List ℕ
packet p = int p.kind ++ long p.zxid ++ buffer p.content ++ identities p.authinfo

pub record IsPacket (p : QuorumPacket) : Type 0 where
  pub kind : FitsSigned w32 p.kind
  pub zxid : FitsSigned w64 p.zxid
  pub content : IsData p.content
  pub authinfo : AreIdentities p.authinfo
