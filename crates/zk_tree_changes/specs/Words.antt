-- The words of a line of `zkCli.sh`, ZooKeeper's command-line client: paths, contents and access
-- control lists. `ZooKeeperMain`, MyCommandOptions; `AclParser`.
use Rattle.std.specs.Prelude.{ℕ, pos, Bool, not, ◌&&◌, ◌||◌, ◌==◌, List, [], ◌∷◌, ◌++◌, length, Option, Some, None, if◌then◌else◌, codes, int_le}
use Rattle.std.specs.List.{flat_map, list_all, list_any}
use Rattle.std.specs.Str.{chars, is_utf8}
use Rattle.zk_acl.specs.Access.{admin_perm, create_perm, delete_perm, has_perm, read_perm, write_perm}
use Rattle.zk_acl.specs.declared.acl.Acl.{Acl}

-- ---- any text

-- a line feed, a carriage return, a next line, a line separator or a paragraph separator: the client
-- ends a line there, or keeps the quotation marks of the word
abbrev pub ends_line : ℕ → Bool
ends_line c = c == 10 || (c == 13 || (c == 0x85 || (c == 0x2028 || c == 0x2029)))

abbrev pub is_double : ℕ → Bool
is_double c = c == 34

abbrev pub is_single : ℕ → Bool
is_single c = c == 39

abbrev pub has : (ℕ → Bool) → List ℕ → Bool
has test text = list_any test (chars text)

abbrev pub between : List ℕ → List ℕ → List ℕ
between mark text = mark ++ text ++ mark

-- between quotation marks that the text does not have; no word for one that has both, or a line's end
abbrev pub word_of : List ℕ → Option (List ℕ)
word_of text = if has ends_line text then None else (if not (has is_double text) then Some (between (34 ∷ []) text) else (if not (has is_single text) then Some (between (39 ∷ []) text) else None))

-- ---- contents

-- the client takes texts alone
abbrev pub content_word : List ℕ → Option (List ℕ)
content_word bytes = if is_utf8 bytes then word_of bytes else None

-- ---- access control lists

abbrev pub is_colon : ℕ → Bool
is_colon c = c == 58

abbrev pub is_comma : ℕ → Bool
is_comma c = c == 44

abbrev pub letter_of : Bool → List ℕ → List ℕ
letter_of is_there letter = if is_there then letter else []

abbrev pub perms_text : Acl → List ℕ
perms_text entry =
    letter_of (has_perm create_perm entry) (codes "c")
    ++ letter_of (has_perm delete_perm entry) (codes "d")
    ++ letter_of (has_perm read_perm entry) (codes "r")
    ++ letter_of (has_perm write_perm entry) (codes "w")
    ++ letter_of (has_perm admin_perm entry) (codes "a")

-- scheme, identity and permissions
abbrev pub entry_text : Acl → List ℕ
entry_text entry = entry.id.scheme ++ 58 ∷ entry.id.id ++ 58 ∷ perms_text entry

-- the first colon ends the scheme, the last one the identity, and a comma the entry
abbrev pub is_plain : Acl → Bool
is_plain entry = not (has is_colon entry.id.scheme) && (not (has is_comma entry.id.scheme) && (not (has is_comma entry.id.id) && (int_le (pos 0) entry.perms && int_le entry.perms (pos 31))))

abbrev pub next_text : Acl → List ℕ
next_text entry = 44 ∷ entry_text entry

abbrev pub acl_text : List Acl → List ℕ
acl_text [] = []
acl_text (entry ∷ entries) = entry_text entry ++ flat_map next_text entries

-- the client takes no empty list
abbrev pub has_text : List Acl → Bool
has_text acl = not (length acl == 0) && list_all is_plain acl

abbrev pub acl_word : List Acl → Option (List ℕ)
acl_word acl = if has_text acl then word_of (acl_text acl) else None
