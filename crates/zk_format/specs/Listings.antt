-- A log as text: one line for each transaction, with one space between fields.
use Rattle.std.specs.Prelude.{◌^◌, ◌<◌, ℕ, ℤ, List, [], ◌∷◌, ◌++◌, Bool, true, false, codes, length, Option, Some, None, FitsSigned}
use Rattle.std.specs.Fmt.{signed_decimal}
use Rattle.std.specs.Int.{w32, w64}
use Rattle.std.specs.List.{flat_map, AllByRecursion}
use Rattle.std.specs.Str.{IsUtf8}
use Rattle.zk_path.specs.Paths.{IsPath}
use Rattle.zk_acl.specs.declared.acl.Acl.{Acl}
use Rattle.zk_table.specs.declared.txn.Txn.{Txn}
use Rattle.zk_table.specs.declared.txn.Op.{Op}
use Rattle.zk_table.specs.declared.txn.Op.TheVariants as op
use Rattle.zk_table.specs.declared.sub.Sub.{Sub}
use Rattle.zk_table.specs.declared.sub.Sub.TheVariants as sub
use Rattle.zk_format.specs.Spelling.{quoted, content_text, acl_text, id_digits}

-- ---- operations: a word, and a space before each field

-- whether a node is deleted with its session
abbrev pub ephemeral_text : Bool → List ℕ
ephemeral_text true = codes "e"
ephemeral_text false = codes "p"

abbrev pub create_text : List ℕ → Option (List ℕ) → List Acl → Bool → ℤ → List ℕ
create_text path content acl ephemeral count =
    codes "create " ++ quoted path ++ 32 ∷ content_text content ++ 32 ∷ acl_text acl ++ 32 ∷ ephemeral_text ephemeral ++ 32 ∷ signed_decimal count

abbrev pub create_old_text : List ℕ → Option (List ℕ) → List Acl → Bool → List ℕ
create_old_text path content acl ephemeral =
    codes "create0 " ++ quoted path ++ 32 ∷ content_text content ++ 32 ∷ acl_text acl ++ 32 ∷ ephemeral_text ephemeral

abbrev pub delete_text : List ℕ → List ℕ
delete_text path = codes "delete " ++ quoted path

abbrev pub set_data_text : List ℕ → Option (List ℕ) → ℤ → List ℕ
set_data_text path content version = codes "setData " ++ quoted path ++ 32 ∷ content_text content ++ 32 ∷ signed_decimal version

abbrev pub set_acl_text : List ℕ → List Acl → ℤ → List ℕ
set_acl_text path acl version = codes "setACL " ++ quoted path ++ 32 ∷ acl_text acl ++ 32 ∷ signed_decimal version

abbrev pub check_text : List ℕ → ℤ → List ℕ
check_text path version = codes "check " ++ quoted path ++ 32 ∷ signed_decimal version

abbrev pub error_text : ℤ → List ℕ
error_text code = codes "error " ++ signed_decimal code

abbrev pub sub_text : Sub → List ℕ
sub_text (sub.Create path content acl ephemeral count) = create_text path content acl ephemeral count
sub_text (sub.Delete path) = delete_text path
sub_text (sub.SetData path content version) = set_data_text path content version
sub_text (sub.Check path version) = check_text path version
sub_text (sub.Error code) = error_text code

-- a part of a multi, after its separator
abbrev pub part_text : Sub → List ℕ
part_text part = codes " ; " ++ sub_text part

abbrev pub op_text : Op → List ℕ
op_text (op.Create path content acl ephemeral count) = create_text path content acl ephemeral count
op_text (op.CreateOld path content acl ephemeral) = create_old_text path content acl ephemeral
op_text (op.Delete path) = delete_text path
op_text (op.SetData path content version) = set_data_text path content version
op_text (op.SetAcl path acl version) = set_acl_text path acl version
op_text (op.OpenSession timeout) = codes "createSession " ++ signed_decimal timeout
op_text op.CloseSession = codes "closeSession"
op_text (op.Error code) = error_text code
op_text (op.Multi parts) = codes "multi" ++ flat_map part_text parts

-- ---- lines

abbrev pub header_text : Txn → List ℕ
header_text txn = id_digits txn.zxid ++ 32 ∷ id_digits txn.session ++ 32 ∷ signed_decimal txn.cxid ++ 32 ∷ signed_decimal txn.time

-- a transaction's line with its newline
abbrev pub line_of : Txn → List ℕ
line_of txn = header_text txn ++ 32 ∷ op_text txn.op ++ 10 ∷ []

abbrev pub listing_of : List Txn → List ℕ
listing_of txns = flat_map line_of txns

-- ---- transactions that have a line

-- the text of a path
pub record IsListedPath (path : List ℕ) : Type 0 where
  pub utf8 : IsUtf8 path
  pub is_path : IsPath path

abbrev pub IsListedContent : Option (List ℕ) → Type 0
IsListedContent None = Unit {0}
IsListedContent (Some bytes) = AllByRecursion (λ b. b < 256) bytes

pub record IsListedAcl (acl : Acl) : Type 0 where
  pub perms : FitsSigned w32 acl.perms
  pub scheme : IsUtf8 acl.id.scheme
  pub id : IsUtf8 acl.id.id

pub record AreListedAcls (acls : List Acl) : Type 0 where
  pub few : length acls < 2 ^ 31
  pub each : AllByRecursion IsListedAcl acls

abbrev pub IsListedSub : Sub → Type 0
IsListedSub (sub.Create path content acl ephemeral count) = IsListedPath path × IsListedContent content × AreListedAcls acl × FitsSigned w32 count
IsListedSub (sub.Delete path) = IsListedPath path
IsListedSub (sub.SetData path content version) = IsListedPath path × IsListedContent content × FitsSigned w32 version
IsListedSub (sub.Check path version) = IsListedPath path × FitsSigned w32 version
IsListedSub (sub.Error code) = FitsSigned w32 code

abbrev pub IsListedOp : Op → Type 0
IsListedOp (op.Create path content acl ephemeral count) = IsListedPath path × IsListedContent content × AreListedAcls acl × FitsSigned w32 count
IsListedOp (op.CreateOld path content acl ephemeral) = IsListedPath path × IsListedContent content × AreListedAcls acl
IsListedOp (op.Delete path) = IsListedPath path
IsListedOp (op.SetData path content version) = IsListedPath path × IsListedContent content × FitsSigned w32 version
IsListedOp (op.SetAcl path acl version) = IsListedPath path × AreListedAcls acl × FitsSigned w32 version
IsListedOp (op.OpenSession timeout) = FitsSigned w32 timeout
IsListedOp op.CloseSession = Unit {0}
IsListedOp (op.Error code) = FitsSigned w32 code
IsListedOp (op.Multi parts) = AllByRecursion IsListedSub parts

-- numbers are in the ranges of their fields, texts are UTF-8, and paths are paths
pub record IsListed (txn : Txn) : Type 0 where
  pub zxid : FitsSigned w64 txn.zxid
  pub session : FitsSigned w64 txn.session
  pub cxid : FitsSigned w32 txn.cxid
  pub time : FitsSigned w64 txn.time
  pub op : IsListedOp txn.op

-- ---- transactions with few enough entries

-- the number of each access control list's entries fits the field of a line
abbrev pub SubHasCountedAcls : Sub → Type 0
SubHasCountedAcls (sub.Create path content acl ephemeral count) = length acl < 2 ^ 31
SubHasCountedAcls (sub.Delete path) = Unit {0}
SubHasCountedAcls (sub.SetData path content version) = Unit {0}
SubHasCountedAcls (sub.Check path version) = Unit {0}
SubHasCountedAcls (sub.Error code) = Unit {0}

abbrev pub OpHasCountedAcls : Op → Type 0
OpHasCountedAcls (op.Create path content acl ephemeral count) = length acl < 2 ^ 31
OpHasCountedAcls (op.CreateOld path content acl ephemeral) = length acl < 2 ^ 31
OpHasCountedAcls (op.Delete path) = Unit {0}
OpHasCountedAcls (op.SetData path content version) = Unit {0}
OpHasCountedAcls (op.SetAcl path acl version) = length acl < 2 ^ 31
OpHasCountedAcls (op.OpenSession timeout) = Unit {0}
OpHasCountedAcls op.CloseSession = Unit {0}
OpHasCountedAcls (op.Error code) = Unit {0}
OpHasCountedAcls (op.Multi parts) = AllByRecursion SubHasCountedAcls parts

abbrev pub HasCountedAcls : Txn → Type 0
HasCountedAcls txn = OpHasCountedAcls txn.op
