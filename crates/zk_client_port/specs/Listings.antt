-- The replies to the four-letter words that ask for lists. ZooKeeper Administrator's Guide, "The
-- Four Letter Words".
use Rattle.std.specs.Prelude.{◌≡◌, ℕ, ℤ, Bool, false, List, [], ◌∷◌, ◌++◌, map, take, drop, is_some, Option, Some, Result, Ok, Err}
use Rattle.std.specs.FinMap.{entries}
use Rattle.std.specs.Int.{w64, cast_signed}
use Rattle.std.specs.List.{list_any}
use Rattle.zk_connections.specs.Connections.{awaited, closing, with_output}
use Rattle.zk_connections.specs.Listings.{connections_text, sessions_text}
use Rattle.zk_connections.specs.declared.connection.Connection.{Connection}
use Rattle.zk_connections.specs.declared.listing.OwnedNodes.{OwnedNodes}
use Rattle.zk_connections.specs.declared.word.Word.{Word}
use Rattle.zk_connections.specs.declared.word.Word.TheVariants.{Cons, Dump}
use Rattle.zk_path.specs.declared.memory.NoMemory.{NoMemory}
use Rattle.zk_table.specs.States.{NodeMap, State, owned_by}

abbrev pub reply_by : Option Word → List ℕ → List ℕ → Connection → Connection
reply_by (Some Cons) connections sessions it = closing (with_output connections it)
reply_by (Some Dump) connections sessions it = closing (with_output sessions it)
reply_by other connections sessions it = it

-- a connection that awaits a list is sent the one that its word asks for
abbrev pub listed : List ℕ → List ℕ → Connection → Connection
listed connections sessions it = reply_by (awaited it) connections sessions it

-- without memory the first connections alone are sent theirs; the others wait
abbrev pub WritesLists : List ℕ → List ℕ → List Connection → List Connection → Result (Unit {0}) NoMemory → Type 0
WritesLists connections sessions old new (Ok _) = new ≡ map (listed connections sessions) old
WritesLists connections sessions old new (Err fault) =
    (first : ℕ) × (new ≡ map (listed connections sessions) (take first old) ++ drop first old)

-- ---- what is listed

-- the ensemble's sessions with their timeouts, as the server has delivered them
abbrev pub sessions_in : State → List (ℕ × ℤ)
sessions_in tree = entries tree.sessions

-- a session and the paths of its ephemeral nodes, if it has any
abbrev pub owned_if : ℕ → List (List ℕ) → List (ℕ × List (List ℕ))
owned_if session [] = []
owned_if session (path ∷ paths) = (session, path ∷ paths) ∷ []

abbrev pub owned_in : NodeMap → List (ℕ × ℤ) → List (ℕ × List (List ℕ))
owned_in nodes [] = []
owned_in nodes (session ∷ sessions) = owned_if session.0 (owned_by nodes (cast_signed w64 session.0)) ++ owned_in nodes sessions

abbrev pub pair_of : OwnedNodes → ℕ × List (List ℕ)
pair_of it = (it.session, it.paths.items)

-- ---- all of a server's connections

abbrev pub awaits : Connection → Bool
awaits it = is_some (awaited it)

-- no list is awaited, or memory runs out before the first is written, or the lists are written
pub data ListsTo (tree : State) (old new : List Connection) (result : Result (Unit {0}) NoMemory) : Type 0 where
  NoneAwaited : (none : list_any awaits old ≡ false) (same : new ≡ old) (ok : result ≡ Ok tt) → ListsTo tree old new result
  NothingYet : (fault : NoMemory) (failed : result ≡ Err fault) (same : new ≡ old) → ListsTo tree old new result
  Lists : (owned : List OwnedNodes) (owns : map pair_of owned ≡ owned_in tree.nodes (sessions_in tree))
      (writes : WritesLists (connections_text old) (sessions_text old (sessions_in tree) owned) old new result) → ListsTo tree old new result
