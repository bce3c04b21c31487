use Rattle.std.proofs.Common.{ap, ◌∙◌, arith}
use Rattle.std.proofs.lemmas.List.{take_all}
use Rattle.zk_newer_records.specs.Changes.{owners_in_parts}
use Rattle.zk_newer_records.specs.NewerRecords.{paired}
use Rattle.zk_newer_records.proofs.Turns.{more_owners, past_paired}
use Rattle.zk_newer_records.proofs.owners.owners_in_parts.Goals as goal

pub loop-index-preserved : goal.loop-index-preserved
loop-index-preserved c =
    more_owners c.args.parts.now c.args.forms.now c.loop-index.index c.index-parts-index.result _ c.loop-index.owners.items c.push_owner.new.owners.items (omega (arith, c.loop-index-test.true, c.min-index-end.ensures)) (omega (arith, c.loop-index-test.true, c.min-index-end.ensures)) c.index-parts-index.is c.in_ok-push_owner.ensures c.loop-index.invariant

pub returns : goal.returns
returns c =
    let all = paired c.args.parts.now c.args.forms.now in
    c.loop-index.invariant ∙ ap owners_in_parts (take_all c.loop-index.index all (omega (arith, past_paired c.args.parts.now c.args.forms.now, c.loop-index-test.false, c.min-index-end.ensures)))
