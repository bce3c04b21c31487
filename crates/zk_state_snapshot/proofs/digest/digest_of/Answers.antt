use Rattle.std.proofs.Common.{◌≡◌, ◌+◌, ◌%◌, ◌^◌, ◌∙◌, ℕ, ℤ, List, map, drop, ap, arith, rules, w64, to_z, of_z}
use Rattle.std.proofs.lemmas.Int.{to_z-of_z}
use Rattle.zk_mend.specs.Digests.{node_digest}
use Rattle.zk_state_snapshot.specs.StateSnapshots.{digest_of, placed}
use Rattle.zk_state_snapshot.proofs.Tables.{sum_next, sum_of}
use Rattle.zk_state_snapshot.proofs.digest.digest_of.Goals as goal

pub loop-entry-preserved : goal.loop-entry-preserved
loop-entry-preserved c =
    let entries = c.args.entries.now in
    let it = c.entry-item.result in
    let at = c.loop-entry.entry-index in
    let one : c.from-sum.result ≡ node_digest it.path.now it.node.now it.node.now.owner =
    c.from-sum.ensures
    ∙ c.node_digest-one.ensures
    ∙ ap (λ (path : List ℕ). node_digest path it.node.now (to_z w64 (of_z w64 it.node.now.owner))) c.text.ensures.text
    ∙ ap (λ (owner : ℤ). node_digest it.path.now it.node.now owner) (to_z-of_z w64 it.node.now.owner (search rules)) in
    ap (λ (n : ℕ). ((c.loop-entry.sum + n) % 2 ^ 64 + sum_of (drop (at + 1) entries)) % 2 ^ 64) one
    ∙ sum_next entries at it c.loop-entry.sum (digest_of (map placed entries)) (omega arith) c.entry-item.is c.loop-entry.invariant
