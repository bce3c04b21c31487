use Rattle.std.proofs.Common.{◌≡◌, ◌∙◌, ℕ, ℤ, List, map, ap, rules, w64, to_z, of_z}
use Rattle.std.proofs.lemmas.Int.{to_z-of_z}
use Rattle.std.proofs.lemmas.Result.{IfOk-weaker}
use Rattle.std.specs.FinMap.{entries}
use Rattle.zk_state_snapshot.specs.StateSnapshots.{Placed, placed, snapshot_from}
use Rattle.zk_state_snapshot.proofs.Tables.{placed_are}
use Rattle.zk_state_snapshot.proofs.state.snapshot_of.Goals as goal

pub returns : goal.returns
returns c =
    let state = c.args.table.now.state in
    let nodes : map placed c.as_slice.result.now ≡ entries state.nodes = ap (map placed) c.as_slice.ensures.value ∙ placed_are c.in_ok-entries.entries.items state.nodes c.in_ok-entries.ensures in
    let sessions : c.as_slice-2.result.now ≡ entries state.sessions = c.as_slice-2.ensures.value ∙ c.in_ok-sessions.ensures in
    let last : to_z w64 (of_z w64 c.last.result) ≡ state.last = to_z-of_z w64 c.last.result (search rules) ∙ c.last.ensures in
    let whole =
    ap (λ (es : List Placed). snapshot_from es c.as_slice-2.result.now (to_z w64 (of_z w64 c.last.result))) nodes
    ∙ ap (λ (es : List (ℕ × ℤ)). snapshot_from (entries state.nodes) es (to_z w64 (of_z w64 c.last.result))) sessions
    ∙ ap (λ (zxid : ℤ). snapshot_from (entries state.nodes) (entries state.sessions) zxid) last in
    IfOk-weaker c.snapshot_from.result _ _ (λ snapshot is. is ∙ whole) c.snapshot_from.ensures
