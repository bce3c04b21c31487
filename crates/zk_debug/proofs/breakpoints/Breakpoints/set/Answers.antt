use Rattle.std.proofs.Common.{◌+◌, ◌<◌, subst, sym, ap, ◌∙◌}
use Rattle.std.specs.FinMap as finite
use Rattle.zk_debug.specs.Debugging.{Breakpoints}
use Rattle.zk_debug.proofs.Numbering.{numbered_set, standing_set}
use Rattle.zk_debug.proofs.breakpoints.Breakpoints.set.Goals as goal

pub invariant_of-self-2 : goal.invariant_of-self-2
invariant_of-self-2 c =
    numbered_set c.self.inside.standing c.insert.new.self.entries c.self.inside.numbered c.args.breakpoint c.self.invariant c.in-Ok.ensures.entries (subst (λ (b : Breakpoints). b.numbered < 65535) (sym c.self.view_is) c.requires)

pub returns-clause-stands : goal.returns-clause-stands
returns-clause-stands c i =
    record {
      standing = (standing_set c.self.inside.standing c.insert.new.self.entries c.self.inside.numbered c.args.breakpoint c.self.invariant c.in-Ok.ensures.entries ∙ ap (λ (b : Breakpoints). finite.insert b.standing (b.numbered + 1) c.args.breakpoint) c.self.view_is) i;
      numbered = ap (λ (b : Breakpoints). b.numbered + 1) c.self.view_is i;
    }
