-- The table of access control lists of a snapshot: `ReferenceCountedACLCache` of
-- `org.apache.zookeeper.server`. Nodes name their lists by number.
use Rattle.std.specs.Prelude.{ℤ, pos, negsuc, ◌+◌, ◌&&◌, ◌||◌, Bool, true, false, List, [], ◌∷◌, ◌++◌, length, Option, Some, None, is_some, if◌then◌else◌}
use Rattle.std.specs.Option.{unwrap_or}
use Rattle.zk_acl.specs.Access.{same_acl}
use Rattle.zk_acl.specs.declared.acl.Acl.{Acl}
use Rattle.zk_snapshot.specs.declared.snapshot.Access.{Access}
use Rattle.zk_table.specs.Nodes.{open_to_all}

-- the same entries, in the same order
unfoldable pub same_list : List Acl → List Acl → Bool
same_list [] [] = true
same_list (a ∷ ones) (b ∷ others) = same_acl a b && same_list ones others
same_list ones others = false

-- the list that is in no table: `OPEN_UNSAFE_ACL_ID`
abbrev pub is_open : List Acl → Bool
is_open acl = same_list acl open_to_all

abbrev pub open_number : ℤ
open_number = negsuc 0

-- the number of a list in a table
unfoldable pub number_in : List Access → List Acl → Option ℤ
number_in [] acl = None
number_in (access ∷ table) acl = if same_list access.acl acl then Some access.number else number_in table acl

-- lists are numbered from 1
abbrev pub next_access : List Access → List Acl → Access
next_access table acl = record { number = pos (length table + 1); acl = acl }

abbrev pub is_listed : List Access → List Acl → Bool
is_listed table acl = is_open acl || is_some (number_in table acl)

-- a table with a list, which is in it once
abbrev pub with_list : List Access → List Acl → List Access
with_list table acl = if is_listed table acl then table else table ++ next_access table acl ∷ []

-- a table with these lists
unfoldable pub with_lists : List Access → List (List Acl) → List Access
with_lists table [] = table
with_lists table (acl ∷ acls) = with_lists (with_list table acl) acls

-- the number by which a node names its list
abbrev pub number_of : List Access → List Acl → ℤ
number_of table acl = if is_open acl then open_number else unwrap_or (number_in table acl) open_number
