-- Access control: ZooKeeper Programmer's Guide, "ZooKeeper access control using ACLs".
use Rattle.std.specs.Prelude.{ℕ, pos, Bool, not, ◌&&◌, ◌||◌, ◌==◌, List, [], ◌∷◌, map, length, filter, flat_map, Option, Some, None, if◌then◌else◌, codes, bit_and, int_le}
use Rattle.std.specs.Int.{w32, cast_unsigned}
use Rattle.std.specs.List.{list_any, list_all}
use Rattle.std.specs.Ordering.{int_eq}
use Rattle.std.specs.Str.{bytes_eq}
use Rattle.zk_acl.specs.declared.acl.Acl.{Acl}
use Rattle.zk_acl.specs.declared.acl.Id.{Id}
use Rattle.zk_acl.specs.Digests.{is_digest_text}

-- ---- permissions are bits: "ACL Permissions"

abbrev pub read_perm : ℕ
read_perm = 1

abbrev pub write_perm : ℕ
write_perm = 2

abbrev pub create_perm : ℕ
create_perm = 4

abbrev pub delete_perm : ℕ
delete_perm = 8

abbrev pub admin_perm : ℕ
admin_perm = 16

-- ---- identities: "Builtin ACL Schemes"

abbrev pub has_scheme : List ℕ → Id → Bool
has_scheme scheme who = bytes_eq who.scheme scheme

abbrev pub same_id : Id → Id → Bool
same_id a b = bytes_eq a.scheme b.scheme && bytes_eq a.id b.id

abbrev pub is_anyone : Id → Bool
is_anyone who = has_scheme (codes "world") who && bytes_eq who.id (codes "anyone")

-- everyone, or one of the digests that the caller has proved
abbrev pub is_of : List Id → Id → Bool
is_of auths who = is_anyone who || (has_scheme (codes "digest") who && list_any (same_id who) auths)

-- ---- what a list allows

abbrev pub has_perm : ℕ → Acl → Bool
has_perm perm entry = not (bit_and (cast_unsigned w32 entry.perms) perm == 0)

abbrev pub grants : ℕ → List Id → Acl → Bool
grants perm auths entry = has_perm perm entry && is_of auths entry.id

-- an empty list allows everything
abbrev pub allows : List Acl → ℕ → List Id → Bool
allows acl perm auths = length acl == 0 || list_any (grants perm auths) acl

-- ---- lists that a caller may set

-- an identity that an entry may name: everyone, a digest, or, in scheme auth, the caller's proved
-- identities if there are any
abbrev pub is_valid_id : List Id → Id → Bool
is_valid_id auths who =
    is_anyone who || (has_scheme (codes "digest") who && is_digest_text who.id) || (has_scheme (codes "auth") who && not (length auths == 0))

-- perms from 0 to 31, and a valid identity
abbrev pub is_valid : List Id → Acl → Bool
is_valid auths entry = (int_le (pos 0) entry.perms && int_le entry.perms (pos 31)) && is_valid_id auths entry.id

abbrev pub is_valid_list : List Acl → List Id → Bool
is_valid_list acl auths = not (length acl == 0) && list_all (is_valid auths) acl

-- ---- the list that is stored

abbrev pub same_acl : Acl → Acl → Bool
same_acl a b = int_eq a.perms b.perms && same_id a.id b.id

-- an entry of scheme auth becomes one entry for each identity that the caller has proved
abbrev pub entries_for : List Id → Acl → List Acl
entries_for auths entry = if has_scheme (codes "auth") entry.id then map (λ who. record entry { id = who }) auths else entry ∷ []

-- an entry equal to an earlier one is dropped
abbrev pub each_once : List Acl → List Acl
each_once [] = []
each_once (entry ∷ entries) = entry ∷ filter (λ later. not (same_acl entry later)) (each_once entries)

-- the list that is stored; None if the caller may not set this one
abbrev pub fix : List Acl → List Id → Option (List Acl)
fix acl auths = if is_valid_list acl auths then Some (each_once (flat_map (entries_for auths) acl)) else None
