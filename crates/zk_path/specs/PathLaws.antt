-- Laws of all paths: ZooKeeper Programmer's Guide, "The ZooKeeper Data Model".
use Rattle.std.specs.Prelude.{◌≡◌, ◌↔◌, ℕ, List, [], ◌∷◌, ◌++◌, false, Some, None}
use Rattle.std.specs.List.{AllByRecursion}
use Rattle.zk_path.specs.Paths.{is_slash, IsName, IsPath, spelled, name_fault, fault_of, parent_of, name_of, child_of}

-- the path of a list of names; the root for an empty list
abbrev pub path_of : List (List ℕ) → List ℕ
path_of [] = 47 ∷ []
path_of (name ∷ names) = spelled (name ∷ names)

-- a text has no fault if and only if it is a path
abbrev pub PathsHaveNoFault : Type 0
PathsHaveNoFault = (text : List ℕ) → (fault_of text ≡ None) ↔ IsPath text

-- a text without a slash has no fault if and only if it is a name
abbrev pub NamesHaveNoFault : Type 0
NamesHaveNoFault = (name : List ℕ) → AllByRecursion (λ b. is_slash b ≡ false) name → (name_fault name ≡ None) ↔ IsName name

-- the root has no parent and is no child
abbrev pub RootHasNoParent : Type 0
RootHasNoParent = (parent_of (path_of []) ≡ None) × (name_of (path_of []) ≡ [])

-- the parent of any other path has all its names but the last
abbrev pub ParentDropsTheLastName : Type 0
ParentDropsTheLastName = (names : List (List ℕ)) (last : List ℕ) → AllByRecursion IsName names → IsName last → (parent_of (path_of (names ++ last ∷ [])) ≡ Some (path_of names)) × (name_of (path_of (names ++ last ∷ [])) ≡ last)

-- parent and name of a child are the path and the name it was built from
abbrev pub ChildAddsAName : Type 0
ChildAddsAName = (parent name : List ℕ) → IsPath parent → IsName name → IsPath (child_of parent name) × (parent_of (child_of parent name) ≡ Some parent) × (name_of (child_of parent name) ≡ name)

-- a path that has a parent is the parent's child by its last name
abbrev pub PathsAreChildren : Type 0
PathsAreChildren = (text parent : List ℕ) → IsPath text → parent_of text ≡ Some parent → IsPath parent × IsName (name_of text) × (child_of parent (name_of text) ≡ text)
