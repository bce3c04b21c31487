-- What the types guarantee for every message: numbers and lengths fit their fields, and texts are
-- UTF-8.
use Rattle.std.specs.Prelude.{ℕ, ℤ, ◌<◌, ◌^◌, List, length, Option, Some, None, FitsSigned}
use Rattle.std.specs.Int.{w32, w64}
use Rattle.std.specs.List.{AllByRecursion}
use Rattle.std.specs.Str.{IsUtf8}
use Rattle.zk_acl.specs.declared.acl.Acl.{Acl}
use Rattle.zk_acl.specs.declared.acl.Id.{Id}
use Rattle.zk_records.specs.Written.{HasEntry, MayBeLogged}
use Rattle.zk_requests.specs.declared.call.Call.{Call}
use Rattle.zk_requests.specs.declared.call.Part.{Part}
use Rattle.zk_requests.specs.declared.call.Part.TheVariants as parts
use Rattle.zk_requests.specs.declared.call.Request.{Request}
use Rattle.zk_requests.specs.declared.call.Request.TheVariants as requests
use Rattle.zab_epoch.specs.declared.history.Entry.{Entry}
use Rattle.zab_epoch.specs.declared.message.Body.{Body}
use Rattle.zab_epoch.specs.declared.message.Body.TheVariants as bodies
use Rattle.zab_epoch.specs.declared.message.Message.{Message}
use Rattle.zab_epoch.specs.Entries.{tags_of, txns_of}

abbrev pub IsWord : ℕ → Type 0
IsWord number = number < 2 ^ 32

abbrev pub IsLongWord : ℕ → Type 0
IsLongWord number = number < 2 ^ 64

abbrev pub IsCounted : List ℕ → Type 0
IsCounted bytes = length bytes < 2 ^ 64

pub record IsText (text : List ℕ) : Type 0 where
  pub short : IsCounted text
  pub utf8 : IsUtf8 text

abbrev pub IsOptional : Option (List ℕ) → Type 0
IsOptional None = Unit {0}
IsOptional (Some bytes) = IsCounted bytes

pub record AreCounted {A : Type 0} (IsElement : A → Type 0) (xs : List A) : Type 0 where
  pub count : length xs < 2 ^ 64
  pub each : AllByRecursion IsElement xs

abbrev pub IsIdentity : Id → Type 0
IsIdentity id = IsText id.scheme × IsText id.id

abbrev pub IsAcl : Acl → Type 0
IsAcl acl = FitsSigned w32 acl.perms × IsIdentity acl.id

-- ---- calls

abbrev pub IsCreate : List ℕ → Option (List ℕ) → List Acl → ℤ → Type 0
IsCreate path content acl flags =
    ((IsText path × IsOptional content) × AreCounted IsAcl acl) × FitsSigned w32 flags

abbrev pub IsWithVersion : List ℕ → ℤ → Type 0
IsWithVersion path version = IsText path × FitsSigned w32 version

abbrev pub IsSetData : List ℕ → Option (List ℕ) → ℤ → Type 0
IsSetData path content version = (IsText path × IsOptional content) × FitsSigned w32 version

abbrev pub IsSetAcl : List ℕ → List Acl → ℤ → Type 0
IsSetAcl path acl version = (IsText path × AreCounted IsAcl acl) × FitsSigned w32 version

abbrev pub IsPart : Part → Type 0
IsPart (parts.Create path content acl flags) = IsCreate path content acl flags
IsPart (parts.Delete path version) = IsWithVersion path version
IsPart (parts.SetData path content version) = IsSetData path content version
IsPart (parts.Check path version) = IsWithVersion path version

abbrev pub IsRequest : Request → Type 0
IsRequest (requests.Create path content acl flags) = IsCreate path content acl flags
IsRequest (requests.Delete path version) = IsWithVersion path version
IsRequest (requests.SetData path content version) = IsSetData path content version
IsRequest (requests.SetAcl path acl version) = IsSetAcl path acl version
IsRequest (requests.Multi parts) = AreCounted IsPart parts
IsRequest (requests.OpenSession timeout) = FitsSigned w32 timeout
IsRequest requests.CloseSession = Unit {0}

pub record IsCall (call : Call) : Type 0 where
  pub tag : IsLongWord call.tag
  pub session : FitsSigned w64 call.session
  pub cxid : FitsSigned w32 call.cxid
  pub auths : AreCounted IsIdentity call.auths
  pub now : FitsSigned w64 call.now
  pub request : IsRequest call.request

-- ---- messages

abbrev pub IsEntry : Entry → Type 0
IsEntry entry = IsLongWord entry.tag × HasEntry entry.txn

abbrev pub IsHistory : List Entry → Type 0
IsHistory history = AreCounted IsLongWord (tags_of history) × MayBeLogged (txns_of history)

abbrev pub IsBody : Body Call → Type 0
IsBody (bodies.CEpoch promised) = IsWord promised
IsBody (bodies.NewEpoch epoch) = IsWord epoch
IsBody (bodies.AckEpoch epoch vote current last) =
    ((IsWord epoch × Unit {0}) × IsWord current) × FitsSigned w64 last
IsBody (bodies.NewLeader epoch keep rest) = (IsWord epoch × FitsSigned w64 keep) × IsHistory rest
IsBody (bodies.AckLeader epoch count) = IsWord epoch × IsLongWord count
IsBody (bodies.Propose epoch index entry) = (IsWord epoch × IsLongWord index) × IsEntry entry
IsBody (bodies.Ack epoch count) = IsWord epoch × IsLongWord count
IsBody (bodies.Commit epoch count) = IsWord epoch × IsLongWord count
IsBody (bodies.Request epoch call) = IsWord epoch × IsCall call
IsBody (bodies.SyncAsk epoch tag) = IsWord epoch × IsLongWord tag
IsBody (bodies.SyncTell epoch tag count) = (IsWord epoch × IsLongWord tag) × IsLongWord count

pub record IsMessage (message : Message Call) : Type 0 where
  pub sender : IsLongWord message.sender
  pub addressee : IsLongWord message.addressee
  pub body : IsBody message.body
