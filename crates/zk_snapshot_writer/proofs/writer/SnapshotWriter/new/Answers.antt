use Rattle.std.proofs.Common.{rules, ◌≡◌, ◌++◌, List, ℕ, sym, ap, ◌∙◌}
use Rattle.zk_snapshot.specs.Snapshots.{IsContents, MayClaim, stored_nodes}
use Rattle.zk_snapshot_writer.specs.Checksums.{after, start}
use Rattle.zk_snapshot_writer.specs.Writing.{ended_from, head}
use Rattle.zk_snapshot_writer.specs.declared.checksum.Checksum.{Checksum}
use Rattle.zk_snapshot_writer.proofs.Parts.{whole_after_head}
use Rattle.zk_snapshot_writer.proofs.writer.SnapshotWriter.new.Goals as goal

pub returns-clause-whole : goal.returns-clause-whole
returns-clause-whole c =
    let it = c.args.snapshot in
    let contents : IsContents it.contents = search rules in
    let claim : MayClaim it.claim = search rules in
    let bytes : c.in-Ok.item.items ≡ head it.contents = c.in-Ok.ensures in
    let sums : c.after-sums.result ≡ after start (head it.contents) = c.after-sums.ensures ∙ (λ i. after (c.new.ensures i) (c.as_slice.ensures.value i)) ∙ ap (after start) bytes in
    record {
      contents = contents;
      claim = claim;
      spelled = (λ i. bytes i ++ ended_from (sums i) (stored_nodes it.contents.nodes) it.claim) ∙ sym (whole_after_head it);
    }
