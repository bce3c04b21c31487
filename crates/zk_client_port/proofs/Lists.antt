-- The lists that connections await.
use Rattle.std.proofs.Common.{◌≡◌, ◌∙◌, ◌++◌, ℕ, ℤ, List, [], map, take, drop, set, get_or, Result, Ok, Err, refl, sym, ap, subst}
use Rattle.std.proofs.lemmas.Bool.{false≢true}
use Rattle.std.proofs.lemmas.List.{nil_from_length, set-get_or}
use Rattle.std.specs.FinMap.{entries, len-empty, len-entries}
use Rattle.std.specs.Ordering.{nat_cmp}
use Rattle.std.specs.Result.{IsErr}
use Rattle.zk_client_port.specs.Listings.{listed, sessions_in, owned_in, pair_of, ListsTo, NothingYet, Lists, WritesLists}
use Rattle.zk_connections.specs.Listings.{connections_text, sessions_text}
use Rattle.zk_connections.specs.declared.connection.Connection.{Connection}
use Rattle.zk_connections.specs.declared.listing.OwnedNodes.{OwnedNodes}
use Rattle.zk_path.specs.declared.memory.NoMemory.{NoMemory}
use Rattle.zk_table.specs.States.{State, start_state}

-- the tree before the first entry has no session
pub no_sessions : sessions_in start_state ≡ []
no_sessions = nil_from_length (entries start_state.sessions) (sym (len-entries start_state.sessions) ∙ len-empty nat_cmp ℤ)

-- a connection is written as it was
pub unwritten : (all now : List Connection) (i : ℕ) (x y : Connection) → now ≡ all → x ≡ get_or now i x → y ≡ x → set now i y ≡ all
unwritten all now i x y so_far is same =
    ap (λ (it : Connection). set now i it) (same ∙ is) ∙ set-get_or now i x ∙ so_far

-- memory runs out after the first lists
pub stopped : (connections sessions : List ℕ) (old new : List Connection) (result : Result (Unit {0}) NoMemory) (first : ℕ) → IsErr result
    → new ≡ map (listed connections sessions) (take first old) ++ drop first old → WritesLists connections sessions old new result
stopped connections sessions old new (Ok x) first failed written = absurd (false≢true failed)
stopped connections sessions old new (Err fault) first failed written = (first, written)

-- memory runs out before the first list is written
pub nothing_yet : (tree : State) (old : List Connection) (result : Result (Unit {0}) NoMemory) → IsErr result → ListsTo tree old old result
nothing_yet tree old (Ok x) failed = absurd (false≢true failed)
nothing_yet tree old (Err fault) failed = NothingYet fault refl refl

-- the texts are those of the lists
pub lists : (tree : State) (old new : List Connection) (result : Result (Unit {0}) NoMemory) (owned : List OwnedNodes) (connections sessions : List ℕ) → connections ≡ connections_text old
    → sessions ≡ sessions_text old (sessions_in tree) owned → map pair_of owned ≡ owned_in tree.nodes (sessions_in tree) → WritesLists connections sessions old new result → ListsTo tree old new result
lists tree old new result owned connections sessions first second owns writes =
    Lists owned owns (subst (λ (it : List ℕ). WritesLists (connections_text old) it old new result) second (subst (λ (it : List ℕ). WritesLists it sessions old new result) first writes))
