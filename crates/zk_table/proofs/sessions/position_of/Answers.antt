use Rattle.std.proofs.Common.{◌∙◌, sym, arith, pos}
use Rattle.std.specs.Ordering.{nat_cmp}
use Rattle.zk_table.proofs.Sorted.{walked_past, walked_to, walked_before}
use Rattle.zk_table.proofs.sessions.position_of.Goals as goal

pub loop-known-preserved : goal.loop-known-preserved
loop-known-preserved c =
    (omega (arith, c.loop-known.invariant.0), walked_past nat_cmp c.args.number c.args.entries.now c.loop-known.at c.loop-known.known-index (0, pos 0) c.loop-known.invariant.0 c.loop-known-test.true (sym c.cmp.ensures ∙ c.in-Greater.is) c.loop-known.invariant.1)

pub returns-in-Less-clause-place : goal.returns-in-Less-clause-place
returns-in-Less-clause-place c =
    sym (walked_before nat_cmp c.args.number c.args.entries.now c.loop-known.at c.loop-known.known-index (0, pos 0) c.loop-known.invariant.0 c.loop-known-test.true (sym c.cmp.ensures ∙ c.in-Less.is) c.loop-known.invariant.1)

pub returns-in-Equal-clause-place : goal.returns-in-Equal-clause-place
returns-in-Equal-clause-place c =
    sym (walked_to nat_cmp c.args.number c.args.entries.now c.loop-known.at c.loop-known.known-index (0, pos 0) c.loop-known.invariant.0 c.loop-known-test.true (sym c.cmp.ensures ∙ c.in-Equal.is) c.loop-known.invariant.1)

pub returns-in-Less-clause-within : goal.returns-in-Less-clause-within
returns-in-Less-clause-within c = omega (arith, c.loop-known.invariant.0, c.loop-known-test.true)

pub returns-in-Equal-clause-within : goal.returns-in-Equal-clause-within
returns-in-Equal-clause-within c = omega (arith, c.loop-known.invariant.0, c.loop-known-test.true)
