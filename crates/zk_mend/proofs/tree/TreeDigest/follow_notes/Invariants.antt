use Rattle.std.proofs.Common.{◌≡◌, drop}
use Rattle.zk_mend.specs.Stepping.{sum_over, owners_stepped}
use Rattle.zk_mend.proofs.tree.TreeDigest.follow_notes.Given as goal

abbrev pub invariant-loop-path : goal.invariant-loop-path
invariant-loop-path l =
    (sum_over (drop l.path-index l.notes) l.tree l.given l.self.owners l.self.sum ≡ sum_over l.notes l.tree l.given l.initial.self.owners l.initial.self.sum)
    × (owners_stepped (drop l.path-index l.notes) l.tree l.given l.self.owners ≡ owners_stepped l.notes l.tree l.given l.initial.self.owners)
