-- The records that servers after 3.4 write, after the bytes of 3.8 logs: the 3.4 transaction that
-- each one represents, and its encoding. `zookeeper.jute`, in Jute's binary encoding.
use Rattle.std.specs.Prelude.{◌≡◌, ℕ, ℤ, pos, negsuc, List, [], ◌∷◌, ◌++◌, Bool, true, false, Option, Some, None, FitsSigned, length, map, if◌then◌else◌}
use Rattle.std.specs.Int.{w32, w64}
use Rattle.std.specs.List.{list_any}
use Rattle.zk_acl.specs.declared.acl.Acl.{Acl}
use Rattle.zk_records.specs.Records.{int, long, ustring, buffer, vector, acl_vector, part_kind_of, part_body_of, kind_of, body_of, IsPathText, IsShort, AreElements, IsSub, IsOp}
use Rattle.zk_newer_records.specs.declared.newer_record.NewerRecord.{NewerRecord}
use Rattle.zk_newer_records.specs.declared.newer_record.Encoding.{Encoding}
use Rattle.zk_newer_records.specs.declared.newer_record.Encoding.TheVariants as forms
use Rattle.zk_newer_records.specs.declared.parts.PartEncoding.{PartEncoding}
use Rattle.zk_newer_records.specs.declared.parts.PartEncoding.TheVariants as parts
use Rattle.zk_newer_records.specs.declared.parts.NewerPart.{NewerPart}
use Rattle.zk_table.specs.declared.txn.Op.{Op}
use Rattle.zk_table.specs.declared.txn.Op.TheVariants as ops
use Rattle.zk_table.specs.declared.sub.Sub.{Sub}
use Rattle.zk_table.specs.declared.sub.Sub.TheVariants as subs
use Rattle.zk_table.specs.declared.txn.Txn.{Txn}
use Rattle.zk_table.specs.Parts.{is_error}

-- ---- bodies

-- `CreateContainerTxn`: a create's without its boolean; for a node with a time to live, that
-- follows
abbrev pub container_body : List ℕ → Option (List ℕ) → List Acl → ℤ → List ℕ
container_body path content acl count = ustring path ++ buffer content ++ acl_vector acl ++ int count

-- `CheckVersionTxn`
abbrev pub check_body : List ℕ → ℤ → List ℕ
check_body path version = ustring path ++ int version

-- ---- parts of a multi

abbrev pub loose_part_body : Sub → List ℕ
loose_part_body (subs.Create path content acl ephemeral count) = container_body path content acl count
loose_part_body sub = []

-- the type of a part as it was written
abbrev pub written_part_kind : Sub → PartEncoding → ℤ
written_part_kind sub parts.Own = part_kind_of sub
written_part_kind sub parts.Container = pos 19
written_part_kind sub (parts.Ttl ttl) = pos 21
written_part_kind sub parts.DeletedContainer = pos 20
written_part_kind sub parts.Kept = negsuc 0
written_part_kind sub parts.KeptContainer = negsuc 0
written_part_kind sub (parts.KeptTtl ttl) = negsuc 0

-- the body of a part as it was written
abbrev pub written_part_body : Sub → PartEncoding → List ℕ
written_part_body sub parts.Own = part_body_of sub
written_part_body sub parts.Container = loose_part_body sub
written_part_body sub (parts.Ttl ttl) = loose_part_body sub ++ long ttl
written_part_body sub parts.DeletedContainer = part_body_of sub
written_part_body sub parts.Kept = part_body_of sub
written_part_body sub parts.KeptContainer = loose_part_body sub
written_part_body sub (parts.KeptTtl ttl) = loose_part_body sub ++ long ttl

-- no session owns a container or a node with a time to live
abbrev pub IsLoosePart : Sub → Type 0
IsLoosePart (subs.Create path content acl true count) = ⊥
IsLoosePart (subs.Create path content acl false count) = Unit {0}
IsLoosePart sub = ⊥

abbrev pub IsDeletePart : Sub → Type 0
IsDeletePart (subs.Delete path) = Unit {0}
IsDeletePart sub = ⊥

abbrev pub IsNoError : Sub → Type 0
IsNoError (subs.Error code) = ⊥
IsNoError sub = Unit {0}

-- the encodings that a part may have
abbrev pub IsPartEncoding : Sub → PartEncoding → Type 0
IsPartEncoding sub parts.Own = Unit {0}
IsPartEncoding sub parts.Container = IsLoosePart sub
IsPartEncoding sub (parts.Ttl ttl) = IsLoosePart sub × FitsSigned w64 ttl
IsPartEncoding sub parts.DeletedContainer = IsDeletePart sub
IsPartEncoding sub parts.Kept = IsNoError sub
IsPartEncoding sub parts.KeptContainer = IsLoosePart sub
IsPartEncoding sub (parts.KeptTtl ttl) = IsLoosePart sub × FitsSigned w64 ttl

pub record IsNewerPart (part : NewerPart) : Type 0 where
  pub fits : IsSub part.sub
  pub form : IsPartEncoding part.sub part.form
  pub short : IsShort (written_part_body part.sub part.form)

-- `Txn`: the type, and the body in a buffer of its own
abbrev pub newer_part : NewerPart → List ℕ
newer_part part = int (written_part_kind part.sub part.form) ++ buffer (Some (written_part_body part.sub part.form))

-- each part with its encoding
abbrev pub paired : List Sub → List PartEncoding → List NewerPart
paired [] forms = []
paired (sub ∷ subs) [] = []
paired (sub ∷ subs) (form ∷ forms) = record { sub = sub; form = form } ∷ paired subs forms

pub record ArePartsOf (subs : List Sub) (written : List PartEncoding) : Type 0 where
  pub each : AreElements IsNewerPart (paired subs written)
  pub as_many : length written ≡ length subs

-- an error part that kept the body of the request
abbrev pub is_kept : PartEncoding → Bool
is_kept parts.Kept = true
is_kept parts.KeptContainer = true
is_kept (parts.KeptTtl ttl) = true
is_kept form = false

-- if a part kept its body, another one has the error code of the multi
abbrev pub part_tells_why : List Sub → List PartEncoding → Bool
part_tells_why subs written = if list_any is_kept written then list_any is_error subs else true

-- ---- operations

abbrev pub loose_body : Op → List ℕ
loose_body (ops.Create path content acl ephemeral count) = container_body path content acl count
loose_body op = []

-- the body of the one check
abbrev pub only_check_body : List Sub → List ℕ
only_check_body (subs.Check path version ∷ []) = check_body path version
only_check_body others = []

abbrev pub check_alone_body : Op → List ℕ
check_alone_body (ops.Multi parts) = only_check_body parts
check_alone_body op = []

abbrev pub multi_body : Op → List PartEncoding → List ℕ
multi_body (ops.Multi subs) written = vector newer_part (paired subs written)
multi_body op written = []

-- the type in the header as it was written
abbrev pub written_kind : Op → Encoding → ℤ
written_kind op forms.Own = kind_of op
written_kind op forms.Create2 = pos 15
written_kind op forms.Container = pos 19
written_kind op (forms.Ttl ttl) = pos 21
written_kind op forms.DeletedContainer = pos 20
written_kind op forms.Reconfig = pos 16
written_kind op forms.CheckAlone = pos 13
written_kind op (forms.ClosePaths listed) = negsuc 10
written_kind op (forms.Parts written) = pos 14

-- the body as it was written
abbrev pub written_body : Op → Encoding → List ℕ
written_body op forms.Own = body_of op
written_body op forms.Create2 = body_of op
written_body op forms.Container = loose_body op
written_body op (forms.Ttl ttl) = loose_body op ++ long ttl
written_body op forms.DeletedContainer = body_of op
written_body op forms.Reconfig = body_of op
written_body op forms.CheckAlone = check_alone_body op
written_body op (forms.ClosePaths listed) = vector ustring listed
written_body op (forms.Parts written) = multi_body op written

abbrev pub IsPlainOp : Op → Type 0
IsPlainOp (ops.Multi parts) = ⊥
IsPlainOp op = IsOp op

abbrev pub IsNewCreate : Op → Type 0
IsNewCreate (ops.Create path content acl ephemeral count) = IsOp (ops.Create path content acl ephemeral count)
IsNewCreate op = ⊥

abbrev pub IsLoose : Op → Type 0
IsLoose (ops.Create path content acl true count) = ⊥
IsLoose (ops.Create path content acl false count) = IsOp (ops.Create path content acl false count)
IsLoose op = ⊥

abbrev pub IsDelete : Op → Type 0
IsDelete (ops.Delete path) = IsOp (ops.Delete path)
IsDelete op = ⊥

abbrev pub IsSetDataOp : Op → Type 0
IsSetDataOp (ops.SetData path content version) = IsOp (ops.SetData path content version)
IsSetDataOp op = ⊥

abbrev pub IsOnlyCheck : List Sub → Type 0
IsOnlyCheck (subs.Check path version ∷ []) = IsSub (subs.Check path version)
IsOnlyCheck others = ⊥

abbrev pub IsCheckAlone : Op → Type 0
IsCheckAlone (ops.Multi parts) = IsOnlyCheck parts
IsCheckAlone op = ⊥

abbrev pub IsClose : Op → Type 0
IsClose ops.CloseSession = Unit {0}
IsClose op = ⊥

abbrev pub IsMultiOf : Op → List PartEncoding → Type 0
IsMultiOf (ops.Multi subs) written = ArePartsOf subs written
IsMultiOf op written = ⊥

-- the encodings that an operation may have
abbrev pub IsEncoding : Op → Encoding → Type 0
IsEncoding op forms.Own = IsPlainOp op
IsEncoding op forms.Create2 = IsNewCreate op
IsEncoding op forms.Container = IsLoose op
IsEncoding op (forms.Ttl ttl) = IsLoose op × FitsSigned w64 ttl
IsEncoding op forms.DeletedContainer = IsDelete op
IsEncoding op forms.Reconfig = IsSetDataOp op
IsEncoding op forms.CheckAlone = IsCheckAlone op
IsEncoding op (forms.ClosePaths listed) = IsClose op × AreElements IsPathText listed
IsEncoding op (forms.Parts written) = IsMultiOf op written

-- ---- the bytes after a body

-- `TxnDigest`: its version, and a sum over the server's tree
abbrev pub digest_bytes : Option ℤ → List ℕ
digest_bytes None = []
digest_bytes (Some sum) = int (pos 2) ++ long sum

-- none follows a 3.3 create
abbrev pub IsDigest : Op → Option ℤ → Type 0
IsDigest op None = Unit {0}
IsDigest (ops.CreateOld path content acl ephemeral) (Some sum) = ⊥
IsDigest op (Some sum) = FitsSigned w64 sum

-- ---- whole records

-- `TxnHeader`, with the type that was written
abbrev pub header_with : ℤ → Txn → List ℕ
header_with kind txn = long txn.session ++ int txn.cxid ++ long txn.zxid ++ long txn.time ++ int kind

-- the header, the body and the digest
unfoldable pub newer_record : NewerRecord → List ℕ
newer_record newer = header_with (written_kind newer.txn.op newer.form) newer.txn ++ written_body newer.txn.op newer.form ++ digest_bytes newer.digest

-- the bytes are this record, whether or not a failed multi has its error code
pub record IsSpelled (bytes : List ℕ) (newer : NewerRecord) : Type 0 where
  pub session : FitsSigned w64 newer.txn.session
  pub cxid : FitsSigned w32 newer.txn.cxid
  pub zxid : FitsSigned w64 newer.txn.zxid
  pub time : FitsSigned w64 newer.txn.time
  pub form : IsEncoding newer.txn.op newer.form
  pub digest : IsDigest newer.txn.op newer.digest
  pub spelled : bytes ≡ newer_record newer

abbrev pub form_tells_why : Op → Encoding → Bool
form_tells_why (ops.Multi subs) (forms.Parts written) = part_tells_why subs written
form_tells_why op form = true

-- a failed multi that was converted without its error code would be applied
abbrev pub tells_why : NewerRecord → Bool
tells_why newer = form_tells_why newer.txn.op newer.form

-- the bytes are a 3.5 to 3.8 server's record, which represents this transaction
pub record IsNewer (bytes : List ℕ) (newer : NewerRecord) : Type 0 where
  pub written : IsSpelled bytes newer
  pub tells : tells_why newer ≡ true

-- ---- records of 3.4

abbrev pub own_part_form : Sub → PartEncoding
own_part_form sub = parts.Own

-- a record of 3.4 as a 3.5 to 3.8 server would write it without a digest
abbrev pub own_form : Op → Encoding
own_form (ops.Multi subs) = forms.Parts (map own_part_form subs)
own_form op = forms.Own

abbrev pub own : Txn → NewerRecord
own txn = record { txn = txn; form = own_form txn.op; digest = None }

-- the paths in the record of a closed session
abbrev pub listed_in : Encoding → List (List ℕ)
listed_in (forms.ClosePaths listed) = listed
listed_in form = []

abbrev pub listed_of : NewerRecord → List (List ℕ)
listed_of newer = listed_in newer.form
