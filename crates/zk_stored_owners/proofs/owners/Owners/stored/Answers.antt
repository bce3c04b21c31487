use Rattle.std.proofs.Common.{◌≡◌, w64, FitsSigned, rules, sym, ap, ◌∙◌}
use Rattle.std.proofs.lemmas.Int.{to_z-of_z}
use Rattle.std.specs.FinMap as finite
use Rattle.zk_table.specs.States.{path_cmp}
use Rattle.zk_replay.proofs.Turning.{at_end}
use Rattle.zk_mend.specs.Owning.{with_owner}
use Rattle.zk_replay.proofs.Owned.{stored_step}
use Rattle.zk_replay.specs.Owning.{raw_owner, stored_from}
use Rattle.zk_stored_owners.proofs.owners.Owners.stored.Goals as goal

pub loop-one-init : goal.loop-one-init
loop-one-init c = λ q. ap (λ o. stored_from o c.args.stored.now q) (ap (λ m. finite.get m q) c.new-owners.ensures ∙ finite.get-empty path_cmp q)

pub loop-one-preserved : goal.loop-one-preserved
loop-one-preserved c = λ q.
    let one = c.one-item.result in
    let fits : FitsSigned w64 one.kept.owner = search rules in
    let raw : c.raw_owner.result ≡ raw_owner one.kept.owner = c.raw_owner.ensures ∙ ap raw_owner (to_z-of_z w64 one.kept.owner fits) in
    stored_step c.args.stored.now c.loop-one.one-index one c.loop-one-test.true c.one-item.is c.loop-one.owners c.set.new.self q
    (c.in_ok-set.ensures ∙ ap (λ p. with_owner c.loop-one.owners p c.raw_owner.result) c.text.ensures.text ∙ ap (with_owner c.loop-one.owners one.path) raw)
    ∙ c.loop-one.invariant q

pub returns : goal.returns
returns c = λ q. sym (ap (λ l. stored_from (finite.get c.loop-one.owners q) l q) (at_end c.args.stored.now c.loop-one.one-index c.loop-one-test.false)) ∙ c.loop-one.invariant q
