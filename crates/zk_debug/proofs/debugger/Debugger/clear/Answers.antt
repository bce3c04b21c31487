use Rattle.std.proofs.Common.{◌≡◌, false, sym, ◌∙◌}
use Rattle.std.specs.FinMap as finite
use Rattle.zk_debug.proofs.Numbering.{nothing_cleared}
use Rattle.zk_debug.proofs.debugger.Debugger.clear.Goals as goal

pub returns-then-not-clear-clause-unchanged : goal.returns-then-not-clear-clause-unchanged
returns-then-not-clear-clause-unchanged c =
    let missing : finite.contains_key c.self.inside.breakpoints.standing c.args.number ≡ false = sym c.clear.ensures.stood ∙ c.if-not-clear.true in
    (λ i. record {
      base = c.self.inside.walk.base;
      txns = c.self.inside.walk.txns;
      place = c.self.inside.walk.place;
      breakpoints = (c.clear.ensures.gone ∙ (λ j. record { standing = nothing_cleared c.self.inside.breakpoints.standing c.args.number missing j; numbered = c.self.inside.breakpoints.numbered })) i;
      failed = c.self.inside.walk.failed;
    }) ∙ c.self.view_is
