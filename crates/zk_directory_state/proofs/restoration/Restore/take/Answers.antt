use Rattle.std.proofs.Common.{◌≡◌, ℤ, None, w64, to_z, of_z, rules, subst}
use Rattle.zk_directory.specs.declared.chain.Turn.TheVariants.{Take}
use Rattle.zk_replay.specs.Restoring.{Takes, take_fault}
use Rattle.zk_directory_state.proofs.Tallying.{entry_taken}
use Rattle.zk_directory_state.specs.declared.restoration.Restore.{Restore}
use Rattle.zk_directory_state.proofs.restoration.Restore.take.Goals as goal

pub returns : goal.returns
returns c =
    let old = c.args.self in
    let newer = c.args.entry.now.newer in
    let stage = c.in_ok-stage.stage in
    let same : to_z w64 (of_z w64 old.exact) ≡ old.exact = search rules in
    let turn : c.in_ok-turn.turn ≡ Take = search rules in
    let takes : Takes old.stage old.exact newer stage = subst (λ (z : ℤ). Takes old.stage z newer stage) same c.in_ok-stage.ensures.taken in
    let well : take_fault old.stage old.exact newer ≡ None = subst (λ (z : ℤ). take_fault old.stage z newer ≡ None) same c.in_ok-stage.ensures.exact in
    let new : Restore = record { chain = c.take_entry.new.chain; exact = to_z w64 (of_z w64 old.exact); stage = stage; digests = c.in_ok-stage.digests } in
    entry_taken old new c.args.entry.now c.in_ok-turn.turn turn c.in_ok-turn.ensures.0 c.in_ok-turn.ensures.1 same takes well c.in_ok-stage.ensures.counted
