use Rattle.std.proofs.Common.{◌≡◌, sym, ap, ◌∙◌}
use Rattle.std.specs.FinMap as finite
use Rattle.zk_machine.specs.Undoing.{all_put_back, nodes_before}
use Rattle.zk_mend.specs.Digests.{tree_digest}
use Rattle.zk_mend.specs.Following.{owners_after}
use Rattle.zk_mend.proofs.DigestSteps.{owners_come, sum_comes}
use Rattle.zk_mend.proofs.tree.TreeDigest.follow.Goals as goal

pub returns : goal.returns
returns c = λ owners at.
    let notes = c.notes.result.now in
    let tree = c.args.tree.now in
    let self = c.args.self.now in
    let gifts = c.args.given.now in
    let touched = c.args.undo.now.touched in
    let given = c.in_ok-given.given in
    let back : all_put_back notes tree ≡ nodes_before touched tree = ap (λ es. all_put_back es tree) c.notes.ensures.notes in
    record {
      sum =
          c.in_ok-follow_notes.ensures.sum
          ∙ sum_comes notes tree given self.owners gifts owners c.notes.ensures.sorted c.in_ok-given.ensures at.owners_kept self.sum (at.sum ∙ ap (tree_digest owners) (sym back))
          ∙ ap (λ nodes. tree_digest (owners_after nodes tree gifts owners) tree) back;
      owners_kept = λ q.
          ap (λ m. finite.get m q) c.in_ok-follow_notes.ensures.owners
          ∙ owners_come notes tree given self.owners gifts owners c.notes.ensures.sorted c.in_ok-given.ensures at.owners_kept q
          ∙ ap (λ nodes. owners_after nodes tree gifts owners q) back;
    }
