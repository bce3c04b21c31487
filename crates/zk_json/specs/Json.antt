-- JSON values by RFC 8259. `Json` is a value, and `print` gives its text without spaces; `document` of
-- the crate `json` reads a text.
use Rattle.std.specs.Prelude.{◌≡◌, ℕ, ℤ, Bool, List, [], ◌∷◌, ◌++◌, map, codes, Option, Some, None, if◌then◌else◌}
use Rattle.std.specs.Fmt.{digits, signed_decimal}
use Rattle.std.specs.Int.{w64, cast_unsigned}
use Rattle.std.specs.Prelude as prelude
use Rattle.std.specs.Str.{is_utf8}
use Rattle.base64.specs.Engines.{standard}
use Rattle.base64.specs.GeneralPurpose.{encode_of}
use Rattle.json.specs.Json.{Json, null, number, string, array, object, Items, no_items, item, Members, no_members, member, document}
use Rattle.json.specs.Print.{print}
use Rattle.json.specs.Token.{Token, key}
use Rattle.json.specs.Tree.{json_tokens}
use Rattle.zk_acl.specs.declared.acl.Acl.{Acl}

-- ---- objects and arrays

-- names with their values, in order
abbrev pub Fields : Type 0
Fields = List (List ℕ × Json)

abbrev pub members_of : Fields → Members
members_of [] = no_members
members_of (field ∷ fields) = member field.0 field.1 (members_of fields)

abbrev pub object_of : Fields → Json
object_of fields = object (members_of fields)

abbrev pub items_of : List Json → Items
items_of [] = no_items
items_of (value ∷ values) = item value (items_of values)

abbrev pub array_of : List Json → Json
array_of values = array (items_of values)

-- the text of a value, and a newline; a reader of RFC 8259 gives the value back
pub record IsLineOf (json : Json) (line : List ℕ) : Type 0 where
  pub is : line ≡ print (json_tokens json) ++ 10 ∷ []
  pub read : document (print (json_tokens json)) ≡ Some json

-- ---- values

abbrev pub number_of : ℤ → Json
number_of number' = number (signed_decimal number')

-- a zxid or a session id: its 64 bits in hexadecimal, without leading zeros
unfoldable pub id_text : ℤ → List ℕ
id_text id = codes "0x" ++ digits 16 prelude.false (cast_unsigned w64 id)

abbrev pub id_of : ℤ → Json
id_of id = string (id_text id)

-- a node's content in base64: RFC 4648, section 4
abbrev pub data_of : Option (List ℕ) → Json
data_of None = null
data_of (Some bytes) = string (encode_of standard bytes)

-- the bytes as text, if they are UTF-8
abbrev pub text_by : List ℕ → Json
text_by bytes = if is_utf8 bytes then string bytes else null

abbrev pub text_of : Option (List ℕ) → Json
text_of None = null
text_of (Some bytes) = text_by bytes

-- a node's content twice
abbrev pub content_fields : Option (List ℕ) → Fields
content_fields content = (codes "data", data_of content) ∷ (codes "text", text_of content) ∷ []

abbrev pub acl_entry_fields : Acl → Fields
acl_entry_fields entry = (codes "scheme", string entry.id.scheme) ∷ (codes "id", string entry.id.id) ∷ (codes "perms", number_of entry.perms) ∷ []

abbrev pub acl_entry_of : Acl → Json
acl_entry_of entry = object_of (acl_entry_fields entry)

abbrev pub acl_of : List Acl → Json
acl_of acl = array_of (map acl_entry_of acl)

abbrev pub strings_of : List (List ℕ) → Json
strings_of texts = array_of (map string texts)

-- ---- calls within

abbrev pub AppendsLineOf : Json → List ℕ → List ℕ → Type 0
AppendsLineOf json old new = (line : List ℕ) × IsLineOf json line × (new ≡ old ++ line)

-- the tokens of fields, without the braces
abbrev pub fields_tokens : Fields → List Token
fields_tokens [] = []
fields_tokens (field ∷ fields) = key field.0 ∷ json_tokens field.1 ++ fields_tokens fields
