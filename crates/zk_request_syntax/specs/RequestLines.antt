-- The lines of clients: words and fields with one space between. This project's own; the requests
-- are those of the ZooKeeper Programmer's Guide, "ZNodes", "Data Access" and "ZooKeeper Watches".
use Rattle.std.specs.Prelude.{◌≡◌, ◌⊎◌, ◌<◌, ◌^◌, ℕ, ℤ, pos, List, [], ◌∷◌, ◌++◌, Bool, true, false, length, Option, Some, None, FitsSigned, codes}
use Rattle.std.specs.Fmt.{decimal, signed_decimal}
use Rattle.std.specs.Int.{w32}
use Rattle.std.specs.List.{flat_map, AllByRecursion}
use Rattle.std.specs.Str.{IsUtf8}
use Rattle.zk_acl.specs.declared.acl.Acl.{Acl}
use Rattle.zk_acl.specs.declared.acl.Id.{Id}
use Rattle.zk_path.specs.Paths.{IsPath}
use Rattle.zk_requests.specs.declared.call.Part.{Part}
use Rattle.zk_requests.specs.declared.call.Part.TheVariants as parts
use Rattle.zk_requests.specs.declared.call.Request.{Request}
use Rattle.zk_requests.specs.declared.call.Request.TheVariants as requests
use Rattle.zk_request_syntax.specs.declared.lookups.Lookup.{Lookup}
use Rattle.zk_request_syntax.specs.declared.lookups.Lookup.TheVariants as lookups
use Rattle.zk_format.specs.Listings.{IsListedContent, AreListedAcls}
use Rattle.zk_format.specs.Spelling.{quoted, content_text, acl_text}
use Rattle.zk_table.specs.Replies.{path_read}
use Rattle.zk_table.specs.declared.read.ReadCall.{ReadCall}
use Rattle.zk_table.specs.declared.read.ReadCall.TheVariants as calls

-- ---- fields

-- a text between quotes
abbrev pub SpellsText : List ℕ → List ℕ → Type 0
SpellsText text field = IsUtf8 text × (field ≡ quoted text)

abbrev pub SpellsInt : ℤ → List ℕ → Type 0
SpellsInt number field = FitsSigned w32 number × (field ≡ signed_decimal number)

abbrev pub SpellsAcl : List Acl → List ℕ → Type 0
SpellsAcl acl field = AreListedAcls acl × (field ≡ acl_text acl)

-- content as in a listing, or the bytes of a text between quotes
abbrev pub SpellsBytes : Option (List ℕ) → List ℕ → Type 0
SpellsBytes None field = ⊥
SpellsBytes (Some bytes) field = SpellsText bytes field

abbrev pub SpellsContent : Option (List ℕ) → List ℕ → Type 0
SpellsContent content field = (IsListedContent content × (field ≡ content_text content)) ⊎ SpellsBytes content field

-- an optional word, after a space
abbrev pub flag_text : Bool → List ℕ → List ℕ
flag_text true word = 32 ∷ word
flag_text false word = []

-- ---- identities

-- a space, and the text of an identity by a digest
abbrev pub id_text : Id → List ℕ
id_text id = 32 ∷ quoted id.id

pub record IsDigestId (id : Id) : Type 0 where
  pub scheme : id.scheme ≡ codes "digest"
  pub text : IsUtf8 id.id

-- the number of identities, and each of them
pub record SpellsIds (ids : List Id) (field : List ℕ) : Type 0 where
  pub few : length ids < 2 ^ 64
  pub each : AllByRecursion IsDigestId ids
  pub spelled : field ≡ decimal (length ids) ++ flat_map id_text ids

-- ---- requests and the parts of a multi

-- 0 plain, 1 ephemeral, 2 sequential, 3 both
abbrev pub flags_of : Bool → Bool → ℤ
flags_of false false = pos 0
flags_of false true = pos 1
flags_of true false = pos 2
flags_of true true = pos 3

-- `create [-s] [-e] PATH CONTENT ACL`
pub record SpellsCreate (path : List ℕ) (content : Option (List ℕ)) (acl : List Acl) (flags : ℤ) (text : List ℕ) : Type 0 where
  pub sequential : Bool
  pub ephemeral : Bool
  pub flagged : flags ≡ flags_of sequential ephemeral
  pub is_text : IsUtf8 path
  pub field : List ℕ
  pub is_content : SpellsContent content field
  pub are_acls : AreListedAcls acl
  pub spelled : text ≡ codes "create" ++ flag_text sequential (codes "-s") ++ flag_text ephemeral (codes "-e") ++ 32 ∷ quoted path ++ 32 ∷ field ++ 32 ∷ acl_text acl

-- `set PATH CONTENT VERSION`
pub record SpellsSet (path : List ℕ) (content : Option (List ℕ)) (version : ℤ) (text : List ℕ) : Type 0 where
  pub is_text : IsUtf8 path
  pub field : List ℕ
  pub is_content : SpellsContent content field
  pub in_range : FitsSigned w32 version
  pub spelled : text ≡ codes "set " ++ quoted path ++ 32 ∷ field ++ 32 ∷ signed_decimal version

-- `setacl PATH ACL VERSION`
pub record SpellsSetAcl (path : List ℕ) (acl : List Acl) (version : ℤ) (text : List ℕ) : Type 0 where
  pub is_text : IsUtf8 path
  pub are_acls : AreListedAcls acl
  pub in_range : FitsSigned w32 version
  pub spelled : text ≡ codes "setacl " ++ quoted path ++ 32 ∷ acl_text acl ++ 32 ∷ signed_decimal version

-- a word, a path and a version: `delete PATH VERSION`, `check PATH VERSION`
pub record SpellsNamed (word path : List ℕ) (version : ℤ) (text : List ℕ) : Type 0 where
  pub is_text : IsUtf8 path
  pub in_range : FitsSigned w32 version
  pub spelled : text ≡ word ++ 32 ∷ quoted path ++ 32 ∷ signed_decimal version

abbrev pub SpellsPart : Part → List ℕ → Type 0
SpellsPart (parts.Create path content acl flags) text = SpellsCreate path content acl flags text
SpellsPart (parts.Delete path version) text = SpellsNamed (codes "delete") path version text
SpellsPart (parts.SetData path content version) text = SpellsSet path content version text
SpellsPart (parts.Check path version) text = SpellsNamed (codes "check") path version text

-- each part after its separator
abbrev pub SpellsParts : List Part → List ℕ → Type 0
SpellsParts [] text = text ≡ []
SpellsParts (part ∷ others) text =
    (one : List ℕ) × (rest : List ℕ) × SpellsPart part one × SpellsParts others rest × (text ≡ codes " ; " ++ one ++ rest)

pub record SpellsMulti (asked : List Part) (text : List ℕ) : Type 0 where
  pub parts_text : List ℕ
  pub are_parts : SpellsParts asked parts_text
  pub spelled : text ≡ codes "multi" ++ parts_text

abbrev pub SpellsRequest : Request → List ℕ → Type 0
SpellsRequest (requests.Create path content acl flags) text = SpellsCreate path content acl flags text
SpellsRequest (requests.Delete path version) text = SpellsNamed (codes "delete") path version text
SpellsRequest (requests.SetData path content version) text = SpellsSet path content version text
SpellsRequest (requests.SetAcl path acl version) text = SpellsSetAcl path acl version text
SpellsRequest (requests.Multi asked) text = SpellsMulti asked text
SpellsRequest (requests.OpenSession timeout) text = FitsSigned w32 timeout × (text ≡ codes "open " ++ signed_decimal timeout)
SpellsRequest requests.CloseSession text = text ≡ codes "close"

-- ---- reads

abbrev pub lookup_word : ReadCall → List ℕ
lookup_word (calls.GetData path) = codes "get"
lookup_word (calls.Exists path) = codes "stat"
lookup_word (calls.GetChildren path) = codes "ls"
lookup_word (calls.GetAcl path) = codes "getacl"

-- a read of an access control list sets no watch
abbrev pub MaySetWatch : ReadCall → Bool → Type 0
MaySetWatch (calls.GetAcl path) watch = watch ≡ false
MaySetWatch call watch = Unit {0}

-- `get [-w] PATH`, `stat [-w] PATH`, `ls [-w] PATH` and `getacl PATH`, for any text of the path
pub record SpellsRead (call : ReadCall) (watch : Bool) (text : List ℕ) : Type 0 where
  pub is_text : IsUtf8 (path_read call)
  pub may_watch : MaySetWatch call watch
  pub spelled : text ≡ lookup_word call ++ flag_text watch (codes "-w") ++ 32 ∷ quoted (path_read call)

-- a read is a query only if its text is a path
abbrev pub SpellsLookup : Lookup → List ℕ → Type 0
SpellsLookup (lookups.Asks call watch) text = SpellsRead call watch text × IsPath (path_read call)
SpellsLookup lookups.BadPath text = (call : ReadCall) × (watch : Bool) × SpellsRead call watch text × (IsPath (path_read call) → ⊥)
