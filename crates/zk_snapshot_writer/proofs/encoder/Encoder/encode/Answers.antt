use Rattle.std.proofs.Common.{◌≡◌, ◌<◌, ◌++◌, List, ℕ, length, get_or, ap, ◌∙◌, arith}
use Rattle.zk_snapshot.specs.declared.snapshot.Stored.{Stored}
use Rattle.zk_snapshot.specs.Snapshots.{stored}
use Rattle.zk_snapshot_writer.specs.Checksums.{after}
use Rattle.zk_snapshot_writer.proofs.Parts.{encoder_next}
use Rattle.zk_snapshot_writer.proofs.encoder.Encoder.encode.Goals as goal

pub returns-then-self-nodes-clause-next : goal.returns-then-self-nodes-clause-next
returns-then-self-nodes-clause-next c =
    let it = c.args.self.now in
    let x = c.index-nodes-self.result in
    let nodes = c.as_slice-nodes.ensures in
    let within : it.at < length it.nodes = omega (arith, c.if-self-nodes.true, ap length nodes) in
    let is : x ≡ get_or it.nodes it.at x = c.index-nodes-self.is ∙ ap (λ (l : List Stored). get_or l it.at x) nodes in
    let item : c.put_stored.new.out.items ≡ stored x = c.in_ok-put_stored.ensures ∙ ap (λ (l : List ℕ). l ++ stored x) c.requires.empty in
    encoder_next it x c.put_stored.new.out.items c.after-self.result c.requires.open within is item (c.after-self.ensures ∙ ap (after it.sums) c.as_slice.ensures.value)
