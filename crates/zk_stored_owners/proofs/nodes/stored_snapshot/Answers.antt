use Rattle.std.proofs.Common.{◌≡◌, ◌∙◌, ℕ, ℤ, List, map, ap, rules, w64, to_z, of_z, length, sym}
use Rattle.std.proofs.lemmas.Int.{to_z-of_z}
use Rattle.std.proofs.lemmas.List.{length-map}
use Rattle.std.proofs.lemmas.Result.{IfOk-weaker}
use Rattle.std.specs.FinMap as finite
use Rattle.zk_mend.specs.Digests.{Owners}
use Rattle.zk_state_snapshot.proofs.Tables.{placed_are}
use Rattle.zk_state_snapshot.specs.StateSnapshots.{Placed, placed, snapshot_from}
use Rattle.zk_stored_owners.proofs.Placing.{with_owners}
use Rattle.zk_stored_owners.specs.StoredOwners.{node_with, placed_with, places_of}
use Rattle.zk_stored_owners.proofs.nodes.stored_snapshot.Goals as goal

pub entries_with-requires : goal.entries_with-requires
entries_with-requires c =
    let owners : Owners = finite.get c.args.owners.now in
    ap length c.as_slice-2.ensures.value
    ∙ sym (ap length c.as_slice.ensures.value)
    ∙ sym (length-map c.as_slice.result.now placed)
    ∙ sym (length-map (map placed c.as_slice.result.now) (node_with owners))
    ∙ sym (ap length (c.as_slice-3.ensures.value ∙ c.in_ok-nodes.ensures))

pub returns : goal.returns
returns c =
    let state = c.args.table.now.state in
    let owners : Owners = finite.get c.args.owners.now in
    let held : map placed c.in_ok-entries.entries.items ≡ finite.entries state.nodes = placed_are c.in_ok-entries.entries.items state.nodes c.in_ok-entries.ensures in
    let places : map placed c.as_slice-2.result.now ≡ finite.entries state.nodes = ap (map placed) c.as_slice-2.ensures.value ∙ held in
    let nodes : c.as_slice-3.result.now ≡ map (node_with owners) (finite.entries state.nodes) =
    c.as_slice-3.ensures.value ∙ c.in_ok-nodes.ensures ∙ ap (map (node_with owners)) (ap (map placed) c.as_slice.ensures.value ∙ held) in
    let stored : map placed c.as_slice-4.result.now ≡ map (placed_with owners) (finite.entries state.nodes) =
    ap (map placed) c.as_slice-4.ensures.value
    ∙ c.in_ok-stored.ensures
    ∙ ap (λ (l : List Placed). places_of l c.as_slice-3.result.now) places
    ∙ ap (places_of (finite.entries state.nodes)) nodes
    ∙ with_owners owners (finite.entries state.nodes) in
    let sessions : c.as_slice-5.result.now ≡ finite.entries state.sessions = c.as_slice-5.ensures.value ∙ c.in_ok-sessions.ensures in
    let last : to_z w64 (of_z w64 c.last.result) ≡ state.last = to_z-of_z w64 c.last.result (search rules) ∙ c.last.ensures in
    let whole =
    ap (λ (es : List Placed). snapshot_from es c.as_slice-5.result.now (to_z w64 (of_z w64 c.last.result))) stored
    ∙ ap (λ (es : List (ℕ × ℤ)). snapshot_from (map (placed_with owners) (finite.entries state.nodes)) es (to_z w64 (of_z w64 c.last.result))) sessions
    ∙ ap (λ (zxid : ℤ). snapshot_from (map (placed_with owners) (finite.entries state.nodes)) (finite.entries state.sessions) zxid) last in
    IfOk-weaker c.snapshot_from.result _ _ (λ snapshot is. is ∙ whole) c.snapshot_from.ensures
