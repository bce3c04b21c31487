use Rattle.zk_directory_state.proofs.Spanning.{listed_folded}
use Rattle.zk_directory_state.proofs.folded_directory.fold_listed.Goals as goal

pub returns : goal.returns
returns g c =
    listed_folded g.F.RecordFold.follows c.args.logs.now c.args.logged.now c.new-walk.result c.fold_logs.new.walk c.args.fold.now c.fold_logs.new.fold tt c.new-walk.ensures c.in_ok-fold_logs.ensures
