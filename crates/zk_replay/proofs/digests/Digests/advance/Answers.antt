use Rattle.std.proofs.Common.{◌≡◌, ◌+◌, ◌-◌, ◌%◌, ◌^◌, sym, ap, ◌∙◌, arith}
use Rattle.std.specs.FinMap as finite
use Rattle.zk_replay.proofs.Tallied.{advanced}
use Rattle.zk_replay.specs.Sums.{digest_over}
use Rattle.zk_replay.proofs.digests.Digests.advance.Goals as goal

pub returns-clause-followed : goal.returns-clause-followed
returns-clause-followed c = λ tally is.
    let next = c.advance-2.new.self.state.nodes in
    let sum = c.in-Some.sum in
    let out = c.digest_over-out.result in
    let comes = c.digest_over-comes.result in
    let small : out % 2 ^ 64 ≡ out = omega (arith, c.digest_over-out.ensures) in
    advanced c.args.self.now c.add.new.self tally c.args.newer.now c.args.table.now.state next sum out comes (((sum + (2 ^ 64 - out)) % 2 ^ 64 + comes) % 2 ^ 64) c.in_ok-paths.paths
    c.in-Some.is c.in_ok-paths.ensures (ap (λ s. s.nodes) c.in_ok-advance-2.ensures.stepped)
    c.digest_over-out.ensures
    (c.digest_over-comes.ensures ∙ ap (λ m. digest_over (finite.get m) next (finite.keys c.in_ok-paths.paths)) (sym c.add.ensures.owners))
    (ap (λ n. ((sum + (2 ^ 64 - n)) % 2 ^ 64 + comes) % 2 ^ 64) (sym small))
    c.add.ensures.sum
    (λ q. ap (λ m. finite.get m q) c.add.ensures.owners ∙ c.in_ok-follow.ensures q)
    c.add.ensures.count is
