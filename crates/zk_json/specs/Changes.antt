-- A node that was created, changed or deleted, as a JSON object.
use Rattle.std.specs.Prelude.{◌≡◌, ℕ, ℤ, List, [], ◌∷◌, ◌++◌, codes, Option, Some, None}
use Rattle.json.specs.Json.{Json, null, string}
use Rattle.json.specs.Token.{Token}
use Rattle.json.specs.Tree.{json_tokens}
use Rattle.zk_acl.specs.declared.stat.Stat.{Stat}
use Rattle.zk_json.specs.Times.{IsTimeText}
use Rattle.zk_table.specs.declared.node.Node.{Node}
use Rattle.zk_json.specs.Json.{Fields, IsLineOf, id_of, object_of}
use Rattle.zk_json.specs.Nodes.{node_of}
use Rattle.zk_json.specs.declared.changes.Held.{Held}
use Rattle.zk_json.specs.declared.changes.LastChange.{LastChange}

-- ---- a side

-- a node, with the texts of its times
abbrev pub IsHeld : List ℕ → Node → Stat → Json → Type 0
IsHeld path node stat json =
    (ctime : List ℕ) × (mtime : List ℕ) × IsTimeText stat.ctime ctime × IsTimeText stat.mtime mtime
    × (json ≡ node_of ctime mtime path node stat)

-- null where there is no node
abbrev pub IsSide : List ℕ → Option (Node × Stat) → Json → Type 0
IsSide path None json = json ≡ null
IsSide path (Some held) json = IsHeld path held.0 held.1 json

abbrev pub held_of : Held → Node × Stat
held_of held = (held.node.now, held.stat.now)

-- ---- the last transaction

abbrev pub last_fields : ℤ → List ℕ → Fields
last_fields zxid time = (codes "zxid", id_of zxid) ∷ (codes "time", string time) ∷ []

abbrev pub last_of : ℤ → List ℕ → Json
last_of zxid time = object_of (last_fields zxid time)

-- null where it is not known
abbrev pub IsLast : Option LastChange → Json → Type 0
IsLast None json = json ≡ null
IsLast (Some last) json = (time : List ℕ) × IsTimeText last.time time × (json ≡ last_of last.zxid time)

-- ---- a change

abbrev pub fields_of_change : List ℕ → Json → Json → Json → Fields
fields_of_change path last before after = (codes "path", string path) ∷ (codes "last", last) ∷ (codes "before", before) ∷ (codes "after", after) ∷ []

abbrev pub change_of : List ℕ → Json → Json → Json → Json
change_of path last before after = object_of (fields_of_change path last before after)

-- what became of the node at a path, and the last transaction that changed it
pub record IsChange (path : List ℕ) (last : Option LastChange) (before after : Option (Node × Stat)) (json : Json) : Type 0 where
  pub stamp : Json
  pub old : Json
  pub new : Json
  pub is_last : IsLast last stamp
  pub is_old : IsSide path before old
  pub is_new : IsSide path after new
  pub is : json ≡ change_of path stamp old new

abbrev pub IsChangeLine : List ℕ → Option LastChange → Option (Node × Stat) → Option (Node × Stat) → List ℕ → Type 0
IsChangeLine path last before after line = (json : Json) × IsChange path last before after json × IsLineOf json line

abbrev pub AppendsChangeLine : List ℕ → Option LastChange → Option (Node × Stat) → Option (Node × Stat) → List ℕ → List ℕ → Type 0
AppendsChangeLine path last before after old new = (line : List ℕ) × IsChangeLine path last before after line × (new ≡ old ++ line)

-- ---- calls within

abbrev pub AppendsHeld : List ℕ → Node → Stat → List Token → List Token → Type 0
AppendsHeld path node stat old new = (json : Json) × IsHeld path node stat json × (new ≡ old ++ json_tokens json)

abbrev pub AppendsSide : List ℕ → Option (Node × Stat) → List Token → List Token → Type 0
AppendsSide path held old new = (json : Json) × IsSide path held json × (new ≡ old ++ json_tokens json)

abbrev pub AppendsLast : Option LastChange → List Token → List Token → Type 0
AppendsLast last old new = (json : Json) × IsLast last json × (new ≡ old ++ json_tokens json)

abbrev pub AppendsChange : List ℕ → Option LastChange → Option (Node × Stat) → Option (Node × Stat) → List Token → List Token → Type 0
AppendsChange path last before after old new = (json : Json) × IsChange path last before after json × (new ≡ old ++ json_tokens json)
