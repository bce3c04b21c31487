use Rattle.std.proofs.Common.{◌≡◌, ◌+◌, w64, FitsSigned, drop, rules, sym, ap, ◌∙◌}
use Rattle.std.proofs.lemmas.Int.{to_z-of_z}
use Rattle.std.specs.FinMap as finite
use Rattle.zk_replay.proofs.Turning.{at_end}
use Rattle.zk_mend.specs.Owning.{with_owner}
use Rattle.zk_mend.specs.Following.{given_from, own_of}
use Rattle.zk_mend.proofs.DigestSteps.{given_step}
use Rattle.zk_stored_owners.proofs.owners.Owners.set_all.Goals as goal

pub loop-path-preserved : goal.loop-path-preserved
loop-path-preserved c = λ q.
    let item = c.loop-path-item.result in
    let fits : FitsSigned w64 item.1 = search rules in
    let own : c.own_of.result ≡ own_of item.1 = c.own_of.ensures ∙ ap own_of (to_z-of_z w64 item.1 fits) in
    ap (λ m. given_from (finite.get m q) (drop (c.loop-path.path-index + 1) c.args.given.now) q) (c.in_ok-set.ensures ∙ ap (λ p. with_owner c.loop-path.self p c.own_of.result) c.text.ensures.text ∙ ap (with_owner c.loop-path.self item.0) own)
    ∙ given_step c.args.given.now c.loop-path.path-index item c.loop-path-test.true c.loop-path-item.is c.loop-path.self q
    ∙ c.loop-path.invariant q

pub returns : goal.returns
returns c = λ q. sym (ap (λ l. given_from (finite.get c.loop-path.self q) l q) (at_end c.args.given.now c.loop-path.path-index c.loop-path-test.false)) ∙ c.loop-path.invariant q
