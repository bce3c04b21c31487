-- Paths of nodes: ZooKeeper Programmer's Guide, "The ZooKeeper Data Model". A path is a text, seen
-- as its bytes in UTF-8.
use Rattle.std.specs.Prelude.{◌≡◌, ◌≢◌, ℕ, ◌-◌, ◌⊎◌, List, [], ◌∷◌, ◌++◌, Bool, false, ◌||◌, ◌&&◌, nat_lt, nat_le, ◌==◌, if◌then◌else◌, length, Option, Some, None, slice_index}
use Rattle.std.specs.List.{AllByRecursion, list_any, slice_split}
use Rattle.std.specs.Str.{chars, bytes_eq}
use Rattle.zk_path.specs.declared.fault.PathFault.{PathFault}
use Rattle.zk_path.specs.declared.fault.PathFault.TheVariants as faults

abbrev pub is_slash : ℕ → Bool
is_slash b = b == 47

-- The Guide's list, and this profile's: NUL, control characters, the private use area, the
-- specials, and every character that UTF-16 encodes as two units
abbrev pub is_bad_char : ℕ → Bool
is_bad_char c = nat_lt c 0x20 || (nat_le 0x7f c && nat_lt c 0xa0) || (nat_le 0xe000 c && nat_lt c 0xf900) || nat_le 0xfff0 c

-- "." and ".." may be part of a name, but are not names
pub record IsName (name : List ℕ) : Type 0 where
  pub filled : name ≢ []
  pub not_dot : name ≢ 46 ∷ []
  pub not_dots : name ≢ 46 ∷ 46 ∷ []
  pub no_slash : AllByRecursion (λ b. is_slash b ≡ false) name
  pub good_chars : list_any is_bad_char (chars name) ≡ false

-- the text of a list of names: each one after a slash
abbrev pub spelled : List (List ℕ) → List ℕ
spelled [] = []
spelled (name ∷ names) = 47 ∷ name ++ spelled names

-- the root, or one or more names
abbrev pub IsPath : List ℕ → Type 0
IsPath text = (text ≡ 47 ∷ []) ⊎ ((names : List (List ℕ)) × (names ≢ []) × AllByRecursion IsName names × (text ≡ spelled names))

-- ---- the first fault of a text that is not a path

abbrev pub earlier : Option PathFault → Option PathFault → Option PathFault
earlier (Some fault) later = Some fault
earlier None later = later

abbrev pub is_dot_name : List ℕ → Bool
is_dot_name name = bytes_eq name (46 ∷ []) || bytes_eq name (46 ∷ 46 ∷ [])

-- the fault of one name, a text without slashes
abbrev pub name_fault : List ℕ → Option PathFault
name_fault name = if length name == 0 then Some faults.EmptyName else (if is_dot_name name then Some faults.DotName else (if list_any is_bad_char (chars name) then Some faults.BadChar else None))

-- the first fault among names, from the left
abbrev pub first_fault : List (List ℕ) → Option PathFault
first_fault [] = None
first_fault (name ∷ names) = earlier (name_fault name) (first_fault names)

-- the fault of the text after the first slash
abbrev pub rest_fault : List ℕ → Option PathFault
rest_fault rest = if length rest == 0 then None else (if is_slash (slice_index rest (length rest - 1)) then Some faults.TrailingSlash else first_fault (slice_split is_slash rest))

abbrev pub fault_of : List ℕ → Option PathFault
fault_of [] = Some faults.Empty
fault_of (b ∷ rest) = if is_slash b then rest_fault rest else Some faults.NotAbsolute

-- ---- parents, names and children

abbrev pub has_slash : List ℕ → Bool
has_slash = list_any is_slash

-- the text before the last slash
abbrev pub before_last_slash : List ℕ → List ℕ
before_last_slash [] = []
before_last_slash (b ∷ bs) = if has_slash bs then b ∷ before_last_slash bs else []

-- the text after the last slash
abbrev pub after_last_slash : List ℕ → List ℕ
after_last_slash [] = []
after_last_slash (b ∷ bs) = if has_slash bs then after_last_slash bs else bs

abbrev pub is_root : List ℕ → Bool
is_root text = bytes_eq text (47 ∷ [])

-- the parent's path; None for the root
abbrev pub parent_of : List ℕ → Option (List ℕ)
parent_of text = if is_root text then None else Some (if length (before_last_slash text) == 0 then 47 ∷ [] else before_last_slash text)

-- the last name; empty for the root
abbrev pub name_of : List ℕ → List ℕ
name_of text = after_last_slash text

-- the path of the child with this name
abbrev pub child_of : List ℕ → List ℕ → List ℕ
child_of parent name = (if is_root parent then [] else parent) ++ 47 ∷ name
