use Rattle.std.proofs.Common.{◌≡◌, refl, sym, ◌∙◌, rules}
use Rattle.zk_machine.specs.Changes.{changes_between, changes_of}
use Rattle.zk_machine.specs.Tables.{state_of}
use Rattle.zk_machine.specs.Undoing.{nodes_before}
use Rattle.zk_machine.proofs.PreimageLaws.{begun_changes, begun_undone}
use Rattle.zk_machine.proofs.table.Table.run.Goals as goal
use Rattle.zk_machine.proofs.table.Table.run.Goals.{In_ok-deed, in-Create+in_ok-answer-in-Create, in-CreateOld+in_ok-answer-in-CreateOld, in-Delete+in_ok-answer-in-Delete, in-SetData+in_ok-answer-in-SetData, in-SetAcl+in_ok-answer-in-SetAcl, in-Error}

kept : (c : In_ok-deed) → nodes_before c.match-txn.self.nodes.touched c.match-txn.self.nodes.tree ≡ nodes_before c.begin.new.self.touched c.begin.new.self.tree
kept c = elim c.match-txn.branch [
  | in-Create+in_ok-answer-in-Create w ↦ search rules
  | in-CreateOld+in_ok-answer-in-CreateOld w ↦ search rules
  | in-Delete+in_ok-answer-in-Delete w ↦ search rules
  | in-SetData+in_ok-answer-in-SetData w ↦ search rules
  | in-SetAcl+in_ok-answer-in-SetAcl w ↦ search rules
  | in-Error w ↦ search rules
]

single : (c : In_ok-deed) → changes_of (state_of c.args.self.now) c.args.txn.now ≡ changes_between c.args.self.now.nodes.tree c.match-txn.self.nodes.tree
single c = elim c.match-txn.branch [
  | in-Create+in_ok-answer-in-Create w ↦ search rules
  | in-CreateOld+in_ok-answer-in-CreateOld w ↦ search rules
  | in-Delete+in_ok-answer-in-Delete w ↦ search rules
  | in-SetData+in_ok-answer-in-SetData w ↦ search rules
  | in-SetAcl+in_ok-answer-in-SetAcl w ↦ search rules
  | in-Error w ↦ search rules
]

pub returns-clause-nodes : goal.returns-clause-nodes
returns-clause-nodes c =
    begun_undone c.begin.new.self.touched c.begin.ensures.idle c.begin.new.self.tree c.args.self.now.nodes.tree c.begin.ensures.tree _ _ (kept c) _ c.in_ok-deed.ensures.touched _ c.deed.ensures.tree

pub returns-clause-changes : goal.returns-clause-changes
returns-clause-changes c = λ tells.
    begun_changes c.begin.new.self.touched c.begin.ensures.idle c.begin.new.self.tree c.args.self.now.nodes.tree c.begin.ensures.tree _ _ (kept c) _ (c.in_ok-deed.ensures.changes tells) _ refl
    ∙ sym (single c)
