-- Identities of the scheme digest: ZooKeeper Programmer's Guide, "Builtin ACL Schemes". SHA-1 is
-- defined in FIPS 180-4 and base64 in RFC 4648, section 4; see the crates sha1 and base64.
use Rattle.std.specs.Prelude.{ℕ, List, ◌∷◌, ◌++◌, Bool, not, ◌&&◌, ◌==◌, ◌-◌, length, slice_index, count_by, Option, Some, None, option_map, if◌then◌else◌, codes}
use Rattle.std.specs.List.{list_any, before_first}
use Rattle.base64.specs.Engines.{standard}
use Rattle.base64.specs.GeneralPurpose.{encode_of}
use Rattle.sha1.specs.Sha1.{sha1}
use Rattle.zk_acl.specs.declared.acl.Id.{Id}

abbrev pub is_colon : ℕ → Bool
is_colon b = b == 58

-- exactly one colon, and text after it
abbrev pub is_digest_text : List ℕ → Bool
is_digest_text id = count_by is_colon id == 1 && not (is_colon (slice_index id (length id - 1)))

-- the text before the first colon; None without a colon
abbrev pub user_of : List ℕ → Option (List ℕ)
user_of text = if list_any is_colon text then Some (before_first is_colon text) else None

-- the identity that a text user:password proves: the user, a colon, and the SHA-1 of the whole text
-- in base64
abbrev pub digest_of : List ℕ → Option Id
digest_of text = option_map (λ user. record { scheme = codes "digest"; id = user ++ 58 ∷ encode_of standard (sha1 text) }) (user_of text)
