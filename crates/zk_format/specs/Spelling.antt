-- The format of values in the lines of reports and listings. One space separates two fields.
use Rattle.std.specs.Prelude.{ℕ, ℤ, List, [], ◌∷◌, ◌++◌, ◌==◌, ◌||◌, Bool, false, if◌then◌else◌, length, Option, Some, None, codes, encode_utf8}
use Rattle.std.specs.Char.{is_ascii_control}
use Rattle.std.specs.Fmt.{decimal, signed_decimal, digits}
use Rattle.std.specs.Int.{w64, to_be_bytes, cast_unsigned}
use Rattle.std.specs.List.{flat_map}
use Rattle.std.specs.Str.{chars}
use Rattle.hex.specs.Hex.{encode_lower}
use Rattle.zk_acl.specs.declared.acl.Acl.{Acl}
use Rattle.zk_acl.specs.declared.stat.Stat.{Stat}

-- ---- numbers; those without sixteen digits are decimals

-- The sixteen lower-case hexadecimal digits of a number's 64 bits: two digits for each of its eight
-- bytes, the most significant first.
unfoldable pub sixteen_digits : ℕ → List ℕ
sixteen_digits bits = encode_lower (to_be_bytes w64 bits)

-- a zxid or a session id; a negative one in two's complement
abbrev pub id_digits : ℤ → List ℕ
id_digits id = sixteen_digits (cast_unsigned w64 id)

-- ---- texts

-- whether a character is escaped between quotes
abbrev pub is_escaped : ℕ → Bool
is_escaped c = (c == 34 || c == 92) || is_ascii_control c

-- A character between the quotes. A backslash precedes quotes and backslashes. Control characters
-- of ASCII are written as their hexadecimal digits without leading zeros. Every other character
-- stays as it is.
unfoldable pub escaped : ℕ → List ℕ
escaped c = if c == 34 || c == 92 then 92 ∷ c ∷ [] else (if is_ascii_control c then codes "\\u{" ++ digits 16 false c ++ codes "}" else encode_utf8 c)

-- a path, a scheme or an identity
unfoldable pub quoted : List ℕ → List ℕ
quoted text = 34 ∷ flat_map escaped (chars text) ++ 34 ∷ []

-- a node's content: "-" for null, else "x" and two digits for each byte
unfoldable pub content_text : Option (List ℕ) → List ℕ
content_text None = 45 ∷ []
content_text (Some bytes) = 120 ∷ encode_lower bytes

-- ---- access control lists and stats

-- a space, and the fields of an entry
unfoldable pub acl_entry_text : Acl → List ℕ
acl_entry_text acl = 32 ∷ signed_decimal acl.perms ++ 32 ∷ quoted acl.id.scheme ++ 32 ∷ quoted acl.id.id

-- the number of entries, and each entry
unfoldable pub acl_text : List Acl → List ℕ
acl_text acls = decimal (length acls) ++ flat_map acl_entry_text acls

-- czxid, mzxid, ctime and mtime
unfoldable pub stat_times : Stat → List ℕ
stat_times stat = id_digits stat.czxid ++ 32 ∷ id_digits stat.mzxid ++ 32 ∷ signed_decimal stat.ctime ++ 32 ∷ signed_decimal stat.mtime

-- version, cversion and aversion
unfoldable pub stat_versions : Stat → List ℕ
stat_versions stat = signed_decimal stat.version ++ 32 ∷ signed_decimal stat.cversion ++ 32 ∷ signed_decimal stat.aversion

-- ephemeralOwner, dataLength, numChildren and pzxid
unfoldable pub stat_rest : Stat → List ℕ
stat_rest stat = id_digits stat.ephemeral_owner ++ 32 ∷ signed_decimal stat.data_length ++ 32 ∷ signed_decimal stat.num_children ++ 32 ∷ id_digits stat.pzxid

-- a stat's eleven fields in the order of `zookeeper.jute`
unfoldable pub stat_text : Stat → List ℕ
stat_text stat = stat_times stat ++ 32 ∷ stat_versions stat ++ 32 ∷ stat_rest stat
