-- The lines of a node: those that create it, or one that says why it is left out. `--` keeps a word
-- that begins with a hyphen from being read as an option.
use Rattle.std.specs.Prelude.{ℕ, pos, Bool, true, false, ◌||◌, List, [], ◌∷◌, ◌++◌, Option, Some, None, if◌then◌else◌, codes}
use Rattle.std.specs.Ordering.{int_eq}
use Rattle.std.specs.Str.{bytes_eq}
use Rattle.zk_format.specs.Spelling.{id_digits, quoted}
use Rattle.zk_tree_changes.specs.Words.{acl_word, content_word, word_of}
use Rattle.zk_table.specs.declared.node.Node.{Node}

-- a comment: the path as in a report, and what is left out
unfoldable pub note : List ℕ → List ℕ → List ℕ
note path what = codes "# " ++ quoted path ++ codes ": " ++ what ++ 10 ∷ []

-- ---- commands, over words

unfoldable pub set_acl : List ℕ → List ℕ → List ℕ
set_acl path acl = codes "setAcl -- " ++ path ++ 32 ∷ acl ++ 10 ∷ []

unfoldable pub set : List ℕ → List ℕ → List ℕ
set path content = codes "set -- " ++ path ++ 32 ∷ content ++ 10 ∷ []

unfoldable pub create : List ℕ → List ℕ → List ℕ → List ℕ
create path content acl = codes "create -- " ++ path ++ 32 ∷ content ++ 32 ∷ acl ++ 10 ∷ []

-- with null content
unfoldable pub create_null : List ℕ → List ℕ
create_null path = codes "create -- " ++ path ++ 10 ∷ []

-- ---- a node, over the words of its path and its list

-- the root exists: it is set
abbrev pub with_content : Bool → List ℕ → List ℕ → List ℕ → List ℕ
with_content true path content acl = set path content ++ set_acl path acl
with_content false path content acl = create path content acl

abbrev pub without_content : Bool → List ℕ → List ℕ → List ℕ
without_content true path acl = set_acl path acl
without_content false path acl = create_null path ++ set_acl path acl

abbrev pub lines_by : List ℕ → Bool → Option (List ℕ) → List ℕ → List ℕ → List ℕ
lines_by at is_root (Some content) path acl = with_content is_root path content acl
lines_by at is_root None path acl = note at (codes "no word has its content, which is left out") ++ without_content is_root path acl

-- the client sets no null content, and creates a node with it
abbrev pub lines_of : List ℕ → Bool → Option (List ℕ) → List ℕ → List ℕ → List ℕ
lines_of at is_root (Some bytes) path acl = lines_by at is_root (content_word bytes) path acl
lines_of at true None path acl = lines_by at true None path acl
lines_of at false None path acl = without_content false path acl

-- ---- any node

abbrev pub is_root : List ℕ → Bool
is_root path = bytes_eq path (codes "/")

-- each server has these
abbrev pub is_own : List ℕ → Bool
is_own path = bytes_eq path (codes "/zookeeper") || (bytes_eq path (codes "/zookeeper/quota") || bytes_eq path (codes "/zookeeper/config"))

abbrev pub lasting_lines : List ℕ → Option (List ℕ) → Option (List ℕ) → Option (List ℕ) → List ℕ
lasting_lines at content (Some path) (Some acl) = lines_of at (is_root at) content path acl
lasting_lines at content None acl = note at (codes "no word has its path; the node is left out")
lasting_lines at content (Some path) None = note at (codes "no word has its access control list; the node is left out")

-- an ephemeral node ends with its session
unfoldable pub node_lines : List ℕ → Node → List ℕ
node_lines path node =
    if is_own path then note path (codes "each server has it; the node is left out") else
    (if int_eq node.owner (pos 0) then lasting_lines path node.content (word_of path) (acl_word node.acl) else
    note path (codes "ephemeral, of the session " ++ id_digits node.owner ++ codes "; the node is left out"))
