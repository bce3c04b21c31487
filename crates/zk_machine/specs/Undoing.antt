-- The preimages of a transaction, and the state after they are restored: definitions of this
-- project.
use Rattle.std.specs.Prelude.{◌≡◌, ◌<◌, ℕ, ℤ, pos, true, List, [], ◌∷◌, Option, Some, None, option_map, codes, refl}
use Rattle.std.specs.Coded.{Coded, code_by, coded×, coded_list, coded_option, coded_ℕ, coded_ℤ}
use Rattle.std.specs.FinMap as finite
use Rattle.std.specs.FinMap.{FinMap, get, insert, remove, entries, contains_key}
use Rattle.zk_path.specs.Paths.{parent_of}
use Rattle.zk_table.specs.declared.node.Node.{Node}
use Rattle.zk_table.specs.States.{NodeMap, SessionMap, State, path_cmp}
use Rattle.zk_tree.specs.Trees.{owner_at}

-- ---- nodes

-- each path that was touched, with its node before; None if there was none
abbrev pub PreimageMap : Type 0
PreimageMap = FinMap path_cmp (Option Node)

abbrev pub put_back : List ℕ → Option Node → NodeMap → NodeMap
put_back path None nodes = remove nodes path
put_back path (Some node) nodes = insert nodes path node

-- restores preimages, the last one first
abbrev pub all_put_back : List (List ℕ × Option Node) → NodeMap → NodeMap
all_put_back [] nodes = nodes
all_put_back (note ∷ notes) nodes = put_back note.0 note.1 (all_put_back notes nodes)

-- the nodes before the touched paths changed
abbrev pub nodes_before : PreimageMap → NodeMap → NodeMap
nodes_before touched nodes = all_put_back (entries touched) nodes

-- ---- sessions

-- a session and its timeout before; None if it was not open
abbrev pub SessionPreimage : Type 0
SessionPreimage = ℕ × Option ℤ

abbrev pub timeout_put_back : ℕ → Option ℤ → SessionMap → SessionMap
timeout_put_back session None sessions = remove sessions session
timeout_put_back session (Some timeout) sessions = insert sessions session timeout

abbrev pub sessions_before : Option SessionPreimage → SessionMap → SessionMap
sessions_before None sessions = sessions
sessions_before (Some note) sessions = timeout_put_back note.0 note.1 sessions

-- ---- the undo record of a transaction

pub record Undoing : Type 0 where
  -- the number of applied transactions, including this one
  pub step : ℕ
  -- the zxid of the last transaction before
  pub last : ℤ
  -- the session that was touched
  pub session : Option SessionPreimage
  pub touched : PreimageMap

-- the state with all preimages restored
abbrev pub restored : Undoing → State → State
restored undo state = record {
  nodes = nodes_before undo.touched state.nodes;
  sessions = sessions_before undo.session state.sessions;
  last = undo.last;
}

-- ---- the nodes of a state

-- the root exists, and each other path has a parent without owner
pub record IsState (nodes : NodeMap) : Type 0 where
  pub root : contains_key nodes (codes "/") ≡ true
  pub parents : (child parent : List ℕ) → contains_key nodes child ≡ true → parent_of child ≡ Some parent → owner_at nodes parent ≡ Some (pos 0)

-- the preimage of the root, if there is one, is a node without owner
abbrev pub KeepsRoot : PreimageMap → Type 0
KeepsRoot touched = (before : Option Node) → get touched (codes "/") ≡ Some before → option_map (λ node. node.owner) before ≡ Some (pos 0)

pub record IsUndoing (step : ℕ) (touched : PreimageMap) : Type 0 where
  pub counted : 0 < step
  pub root : KeepsRoot touched

abbrev pub undo_code : Coded Node → Coded Undoing
undo_code node = code_by (ℕ × (ℤ × (Option (ℕ × Option ℤ) × PreimageMap))) (coded× coded_ℕ (coded× coded_ℤ (coded× (coded_option (coded× coded_ℕ (coded_option coded_ℤ))) (finite.code (coded_list coded_ℕ) (coded_option node))))) (λ u. (u.step, (u.last, (u.session, u.touched)))) (λ p. record { step = p.0; last = p.1.0; session = p.1.1.0; touched = p.1.1.1 }) (λ _. refl)
