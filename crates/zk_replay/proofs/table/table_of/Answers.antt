use Rattle.std.proofs.Common.{◌≡◌, rules, ◌∙◌, ◌∷◌, ◌+◌, drop, map}
use Rattle.std.proofs.lemmas.Result.{err_from_is_err_and}
use Rattle.std.specs.FinMap as finite
use Rattle.zk_replay.specs.Bases.{root_fault, node_fault, tree_fault}
use Rattle.zk_replay.specs.Drafts.{entry_of}
use Rattle.zk_replay.proofs.Failing.{fails_too, root_well, root_badly, node_well, node_badly, nodes_well}
use Rattle.zk_replay.proofs.Turning.{next_is, settles, settle_all}
use Rattle.zk_replay.proofs.table.table_of.Goals as goal

pub loop-one-init : goal.loop-one-init
loop-one-init c =
    let parts : c.args.entries.now ≡ c.in-Some.root.now ∷ c.in-Some.others.now = search rules in
    let nodes = c.in_ok-table.table.state.nodes in
    let is = c.in_ok-table.ensures in
    (settles finite.empty nodes c.args.entries.now c.in-Some.root.now c.in-Some.others.now parts is.known is.nodes, is.sessions, search rules, is.failed, root_well nodes c.args.entries.now c.in-Some.root.now c.in-Some.others.now parts is.exact is.nodes)

pub loop-one-preserved : goal.loop-one-preserved
loop-one-preserved c =
    let so_far = c.loop-one.invariant in
    let others = c.in-Some.others.now in
    let i = c.loop-one.one-index in
    let old = c.loop-one.table.state.nodes in
    let new = c.insert.new.table.state.nodes in
    let is = c.in_ok-insert.ensures in
    (so_far.0 ∙ settles old new (drop i others) c.one-item.result (drop (i + 1) others) (next_is others i c.one-item.result c.loop-one-test.true c.one-item.is) is.known is.nodes, c.insert.ensures.sessions ∙ so_far.1, c.insert.ensures.last ∙ so_far.2, c.insert.ensures.failed ∙ so_far.3, node_well old new (tree_fault (map entry_of c.args.entries.now)) others i c.one-item.result c.loop-one-test.true c.one-item.is is.exact is.nodes so_far.4)

pub returns-in_err-table-clause-exact : goal.returns-in_err-table-clause-exact
returns-in_err-table-clause-exact c =
    let parts : c.args.entries.now ≡ c.in-Some.root.now ∷ c.in-Some.others.now = search rules in
    let p = err_from_is_err_and c.from_residual.result c.from_residual.ensures.1 in
    rw (p.1, p.2) (fails_too (root_fault c.in-Some.root.now.1.now) (tree_fault (map entry_of c.args.entries.now)) c.in_err-table.field-0.0 (root_badly c.args.entries.now c.in-Some.root.now c.in-Some.others.now parts) c.in_err-table.ensures.exact)

pub returns-in_err-insert-clause-exact : goal.returns-in_err-insert-clause-exact
returns-in_err-insert-clause-exact c =
    let others = c.in-Some.others.now in
    let i = c.loop-one.one-index in
    let old = c.loop-one.table.state.nodes in
    let all = tree_fault (map entry_of c.args.entries.now) in
    let p = err_from_is_err_and c.from_residual-in_err-insert.result c.from_residual-in_err-insert.ensures.1 in
    rw (p.1, p.2) (fails_too (node_fault old c.one-item.result.1.now) all c.in_err-insert.field-0.0 (node_badly old all others i c.one-item.result c.loop-one-test.true c.one-item.is c.loop-one.invariant.4) c.in_err-insert.ensures.exact)

pub returns-clause-nodes : goal.returns-clause-nodes
returns-clause-nodes c =
    settle_all c.loop-one.table.state.nodes _ c.in-Some.others.now c.loop-one.one-index c.loop-one-test.false c.loop-one.invariant.0

pub returns-clause-exact : goal.returns-clause-exact
returns-clause-exact c =
    nodes_well c.loop-one.table.state.nodes (tree_fault (map entry_of c.args.entries.now)) c.in-Some.others.now c.loop-one.one-index c.loop-one-test.false c.loop-one.invariant.4
