use Rattle.std.proofs.Common.{◌≡◌, sym, ap, ◌∙◌}
use Rattle.std.specs.Prelude.{option_map}
use Rattle.zk_debug.specs.Debugging.{Debugging, hit_at}
use Rattle.zk_debug.proofs.Hits.{hit_here, no_hit_here}
use Rattle.zk_debug.proofs.debugger.Debugger.stop.Goals as goal
use Rattle.zk_debug.proofs.debugger.Debugger.stop.Goals.{in-Some, in-None}

pub returns : goal.returns
returns c =
    let d = c.self.inside in
    let hit : c.match-last.hit ≡ hit_at c.args.self.now c.args.self.now.place = elim c.match-last.branch [
      | in-Some w ↦ w.hit-is ∙ w.lowest_met-hit.ensures
          ∙ hit_here d.walk.base d.walk.txns d.walk.place d.breakpoints.standing w.in-Some.txn.now w.in-Some.applied.now.result w.in-Some.applied.now.changes.items
          (ap (option_map (λ l. l.0.now)) (sym w.in-Some.is) ∙ c.last.ensures.txn)
          (ap (option_map (λ l. l.1.now.result)) (sym w.in-Some.is) ∙ c.last.ensures.result)
          (ap (option_map (λ l. l.1.now.changes.items)) (sym w.in-Some.is) ∙ c.last.ensures.changes)
          ∙ ap (λ (d : Debugging). hit_at d d.place) c.self.view_is
      | in-None w ↦ w.hit-is ∙ no_hit_here d.walk.base d.walk.txns d.walk.place d.breakpoints.standing (ap (option_map (λ l. l.0.now)) (sym w.in-None.is) ∙ c.last.ensures.txn) ∙ ap (λ (d : Debugging). hit_at d d.place) c.self.view_is
    ] in
    λ i. record { place = (c.place.ensures.place ∙ ap (λ (d : Debugging). d.place) c.self.view_is) i; hit = hit i }
