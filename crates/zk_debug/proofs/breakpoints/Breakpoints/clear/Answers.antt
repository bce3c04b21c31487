use Rattle.std.proofs.Common.{nat_eq, is_some, sym, ap, ◌∙◌}
use Rattle.std.specs.FinMap as finite
use Rattle.zk_debug.specs.Debugging.{Breakpoints}
use Rattle.zk_debug.specs.Numbers.{AreNumbered}
use Rattle.zk_debug.proofs.Numbering.{numbered_cleared, standing_cleared, get-numbers}
use Rattle.zk_debug.proofs.breakpoints.Breakpoints.clear.Goals as goal
use Rattle.zk_debug.proofs.breakpoints.Breakpoints.clear.Goals.{Joined-shift_remove}

still : (c : Joined-shift_remove) → AreNumbered c.shift_remove.new.self.entries c.self.inside.numbered
still c = numbered_cleared (nat_eq c.args.number) c.self.inside.standing.entries c.shift_remove.new.self.entries c.self.inside.numbered c.self.invariant c.shift_remove.ensures.entries

pub invariant_of-self : goal.invariant_of-self
invariant_of-self c = still c

pub returns-clause-stood : goal.returns-clause-stood
returns-clause-stood c =
    c.is_some.ensures
    ∙ ap is_some (c.shift_remove.ensures.value ∙ sym (get-numbers c.args.number c.self.inside.standing.entries c.self.inside.numbered c.self.invariant))
    ∙ ap (λ (b : Breakpoints). finite.contains_key b.standing c.args.number) c.self.view_is

pub returns-clause-gone : goal.returns-clause-gone
returns-clause-gone c i =
    record {
      standing = (standing_cleared c.args.number c.self.inside.standing.entries c.shift_remove.new.self.entries c.self.inside.numbered c.self.invariant (still c) c.shift_remove.ensures.updates.0 ∙ ap (λ (b : Breakpoints). finite.remove b.standing c.args.number) c.self.view_is) i;
      numbered = ap (λ (b : Breakpoints). b.numbered) c.self.view_is i;
    }
