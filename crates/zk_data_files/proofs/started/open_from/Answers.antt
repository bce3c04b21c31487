use Rattle.std.proofs.lemmas.Result.{IfOk-weaker}
use Rattle.zk_data_files.proofs.StoreStarts.{all, counts, only}
use Rattle.zk_data_files.proofs.started.open_from.Goals as goal

pub returns-clause-all : goal.returns-clause-all
returns-clause-all g c = λ start same. IfOk-weaker c.open.result _ _ (λ it remains clean. all g.D.Disk c.args.files it.files start same remains clean) c.open.ensures.remains

pub returns-clause-only : goal.returns-clause-only
returns-clause-only g c = λ start same left. IfOk-weaker c.open.result _ _ (λ it recovers. only g.D.Disk c.args.files it.files start same left recovers) c.open.ensures.recovers

pub returns-clause-counts : goal.returns-clause-counts
returns-clause-counts g c = λ start same. IfOk-weaker c.open.result _ _ (λ it starts clean. counts g.D.Disk c.args.files start it.counted.book.boots same (starts clean)) c.open.ensures.starts
