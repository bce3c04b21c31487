use Rattle.std.proofs.Common.{◌≡◌, ◌<◌, ◌≤◌, ◌+◌, ◌++◌, List, rules, arith, length, map, drop, get_or, sym, ap, ◌∙◌, subst}
use Rattle.zk_state_snapshot.specs.StateSnapshots.{Placed, placed}
use Rattle.zk_stored_owners.proofs.Placing.{place_on, places_end}
use Rattle.zk_stored_owners.specs.StoredOwners.{places_of}
use Rattle.zk_table.specs.declared.node.Node.{Node}
use Rattle.zk_tree.specs.declared.entry.Entry.{Entry}
use Rattle.zk_stored_owners.proofs.nodes.entries_with.Goals as goal

pub loop-index-preserved : goal.loop-index-preserved
loop-index-preserved c =
    let entries = c.args.entries.now in
    let nodes = c.args.nodes.now in
    let i = c.loop-index.index in
    let e = c.index-entries-index.result in
    let n = c.index-nodes-index.result in
    let all : List Placed = places_of (map placed entries) nodes in
    let rest : List Placed = places_of (map placed (drop (i + 1) entries)) (drop (i + 1) nodes) in
    let lt : i < length entries = search rules in
    let lt' : i < length nodes = omega (arith, lt, c.requires) in
    let here : Placed = (e.path.now, n) in
    let is : here ≡ ((get_or entries i e).path.now, get_or nodes i n) =
    ap (λ (x : Entry). let p : Placed = (x.path.now, n) in p) c.index-entries-index.is ∙ ap (λ (y : Node). let p : Placed = ((get_or entries i e).path.now, y) in p) c.index-nodes-index.is in
    subst (λ (l : List Entry). map placed l ++ rest ≡ all) (sym c.in_ok-push.ensures.items) (place_on entries nodes i e n c.loop-index.replaced.items _ all lt lt' is c.loop-index.invariant)

pub returns : goal.returns
returns c =
    let entries = c.args.entries.now in
    let nodes = c.args.nodes.now in
    let le : length entries ≤ c.loop-index.index = search rules in
    places_end entries nodes c.loop-index.index c.loop-index.replaced.items (places_of (map placed entries) nodes) le c.loop-index.invariant
