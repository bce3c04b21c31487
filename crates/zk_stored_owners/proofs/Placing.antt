-- Nodes in place of others.
use Rattle.std.proofs.Common.{◌≡◌, ℕ, ◌+◌, ◌<◌, ◌≤◌, List, [], ◌∷◌, ◌++◌, length, map, drop, get_or, refl, sym, ap, ◌∙◌, append_assoc, append-nil}
use Rattle.std.proofs.lemmas.List.{drop_more}
use Rattle.zk_mend.specs.Digests.{Owners}
use Rattle.zk_replay.proofs.Turning.{at_end}
use Rattle.zk_state_snapshot.specs.StateSnapshots.{Placed, placed}
use Rattle.zk_stored_owners.specs.StoredOwners.{node_with, placed_with, places_of}
use Rattle.zk_table.specs.declared.node.Node.{Node}
use Rattle.zk_tree.specs.declared.entry.Entry.{Entry}

no_places : (nodes : List Node) → places_of [] nodes ≡ []
unfolding places_of
no_places nodes = refl

one_place : (e : Placed) (es : List Placed) (node : Node) (nodes : List Node) → places_of (e ∷ es) (node ∷ nodes) ≡ (e.0, node) ∷ places_of es nodes
unfolding places_of
one_place e es node nodes = refl

-- each with the node of its owner
pub with_owners : (owners : Owners) (es : List Placed) → places_of es (map (node_with owners) es) ≡ map (placed_with owners) es
with_owners owners [] = no_places []
with_owners owners (e ∷ es) = one_place e es (node_with owners e) (map (node_with owners) es) ∙ ap (λ l. placed_with owners e ∷ l) (with_owners owners es)

map_drop : (entries : List Entry) (i : ℕ) (d : Entry) → i < length entries → map placed (drop i entries) ≡ placed (get_or entries i d) ∷ map placed (drop (i + 1) entries)
map_drop entries i d lt = ap (map placed) (drop_more entries i d lt)

map_more : (entries : List Entry) (entry : Entry) → map placed (entries ++ entry ∷ []) ≡ map placed entries ++ placed entry ∷ []
map_more [] entry = refl
map_more (first ∷ entries) entry = ap (λ l. placed first ∷ l) (map_more entries entry)

-- one place more
pub place_on : (entries : List Entry) (nodes : List Node) (i : ℕ) (d : Entry) (n : Node) (replaced : List Entry) (entry : Entry) (all : List Placed) → i < length entries → i < length nodes → placed entry ≡ ((get_or entries i d).path.now, get_or nodes i n)
    → map placed replaced ++ places_of (map placed (drop i entries)) (drop i nodes) ≡ all → map placed (replaced ++ entry ∷ []) ++ places_of (map placed (drop (i + 1) entries)) (drop (i + 1) nodes) ≡ all
place_on entries nodes i d n replaced entry all lt lt' is so_far =
    let rest = places_of (map placed (drop (i + 1) entries)) (drop (i + 1) nodes) in
    let here : Placed = ((get_or entries i d).path.now, get_or nodes i n) in
    let next : places_of (map placed (drop i entries)) (drop i nodes) ≡ here ∷ rest =
    ap (λ (l : List Placed). places_of l (drop i nodes)) (map_drop entries i d lt)
    ∙ ap (λ (l : List Node). places_of (placed (get_or entries i d) ∷ map placed (drop (i + 1) entries)) l) (drop_more nodes i n lt')
    ∙ one_place (placed (get_or entries i d)) (map placed (drop (i + 1) entries)) (get_or nodes i n) (drop (i + 1) nodes) in
    ap (λ (l : List Placed). l ++ rest) (map_more replaced entry)
    ∙ append_assoc (map placed replaced) (placed entry ∷ []) rest
    ∙ ap (λ (p : Placed). map placed replaced ++ (p ∷ rest)) is
    ∙ ap (λ (l : List Placed). map placed replaced ++ l) (sym next)
    ∙ so_far

pub places_end : (entries : List Entry) (nodes : List Node) (i : ℕ) (replaced : List Entry) (all : List Placed) → length entries ≤ i → map placed replaced ++ places_of (map placed (drop i entries)) (drop i nodes) ≡ all → map placed replaced ≡ all
places_end entries nodes i replaced all le so_far =
    sym (append-nil (map placed replaced))
    ∙ ap (λ (l : List Placed). map placed replaced ++ l) (sym (ap (λ (l : List Entry). places_of (map placed l) (drop i nodes)) (at_end entries i le) ∙ no_places (drop i nodes)))
    ∙ so_far
