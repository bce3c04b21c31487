use Rattle.std.proofs.Common.{◌≡◌, ℤ, w64, rules, subst}
use Rattle.std.proofs.lemmas.Int.{to_z-of_z}
use Rattle.std.proofs.lemmas.Result.{on_ok_weaker}
use Rattle.zk_json.specs.Times.{IsTimeText}
use Rattle.zk_json.proofs.nodes.push_node_line.Goals as goal

pub returns : goal.returns
returns c =
    let stat = c.args.stat.now in
    let ctime = c.as_str.result.now in
    let mtime = c.as_str-2.result.now in
    let first : IsTimeText stat.ctime ctime = subst (λ (t : ℤ). IsTimeText t ctime) (to_z-of_z w64 stat.ctime (search rules)) (search rules) in
    let second : IsTimeText stat.mtime mtime = subst (λ (t : ℤ). IsTimeText t mtime) (to_z-of_z w64 stat.mtime (search rules)) (search rules) in
    on_ok_weaker c.push_timed_node.result (λ a. (a.0, (ctime, mtime, first, second, a.1), a.2)) c.push_timed_node.ensures
