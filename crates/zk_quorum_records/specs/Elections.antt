-- The bytes on election ports. ZooKeeper, class `QuorumCnxManager`: `InitialMessage`, and frames of
-- at most `PACKETMAXSIZE` bytes; class `FastLeaderElection`: `buildMsg`.
use Rattle.std.specs.Prelude.{◌≡◌, ℕ, ℤ, pos, negsuc, ◌<◌, ◌≤◌, List, [], ◌++◌, length, int_lt, Bool, Option, Some, None, true, false, is_some, FitsSigned}
use Rattle.std.specs.Int.{w32, w64}
use Rattle.std.specs.Str.{IsUtf8}
use Rattle.zk_quorum_records.specs.declared.hello.Hello.{Hello}
use Rattle.zk_quorum_records.specs.declared.hello.Hello.TheVariants as hellos
use Rattle.zk_quorum_records.specs.declared.notification.Notification.{Notification}
use Rattle.zk_quorum_records.specs.declared.notification.ServerState.{ServerState}
use Rattle.zk_quorum_records.specs.declared.notification.ServerState.TheVariants as states
use Rattle.zk_records.specs.Records.{int, long, ustring}

-- ---- the hello of who connects

-- at least one byte, and at most those of `maxBuffer`
pub record AreAddresses (addresses : List ℕ) : Type 0 where
  pub some : 0 < length addresses
  pub short : length addresses ≤ 2048
  pub utf8 : IsUtf8 addresses

-- the protocol's version, the server, and its address; before 3.4.6 the server alone
unfoldable pub hello : Hello → List ℕ
hello (hellos.Server server) = long server
hello (hellos.Address server address) = long (negsuc 65535) ++ (long server ++ ustring address)
hello (hellos.Addresses server addresses) = long (negsuc 65534) ++ (long server ++ ustring addresses)

abbrev pub IsServer : ℤ → Type 0
IsServer (pos n) = FitsSigned w64 (pos n)
IsServer (negsuc n) = ⊥

abbrev pub IsHello : Hello → Type 0
IsHello (hellos.Server server) = IsServer server
IsHello (hellos.Address server address) = FitsSigned w64 server × AreAddresses address
IsHello (hellos.Addresses server addresses) = FitsSigned w64 server × AreAddresses addresses

-- ---- notifications

abbrev pub state_number : ServerState → ℤ
state_number states.Looking = pos 0
state_number states.Following = pos 1
state_number states.Leading = pos 2
state_number states.Observing = pos 3

-- the configuration's text comes from version 2 on
abbrev pub configuration : Option (List ℕ) → List ℕ
configuration None = []
configuration (Some text) = ustring text

-- the state, the vote, the round, the version, and from version 2 on the configuration
unfoldable pub contents_of : Notification → List ℕ
contents_of n =
    int (state_number n.state) ++ long n.leader ++ long n.zxid ++ long n.round ++ long n.epoch
    ++ (int n.version ++ configuration n.configuration)

-- a frame: its length, and the contents
unfoldable pub notification : Notification → List ℕ
notification n = ustring (contents_of n)

pub record IsNotification (n : Notification) : Type 0 where
  pub leader : FitsSigned w64 n.leader
  pub zxid : FitsSigned w64 n.zxid
  pub round : FitsSigned w64 n.round
  pub epoch : FitsSigned w64 n.epoch
  pub version : FitsSigned w32 n.version
  pub has : is_some n.configuration ≡ int_lt (pos 1) n.version
  pub short : length (contents_of n) ≤ 524288
