use Rattle.std.proofs.Common.{◌≡◌, ◌++◌, ◌∷◌, [], rules, ◌∙◌}
use Rattle.zk_incidents.proofs.Repeated.{once_more}
use Rattle.zk_incidents.proofs.top_fold.repeated.Goals as goal

pub loop-path-preserved : goal.loop-path-preserved
loop-path-preserved c =
    let more : c.push.new.self.items ≡ c.loop-path.keys.items ++ c.args.digits ∷ [] = search rules in
    once_more c.args.digits c.args.paths.now c.loop-path.keys.items c.push.new.self.items c.loop-path._path-index c.loop-path-test.true more ∙ c.loop-path.invariant
