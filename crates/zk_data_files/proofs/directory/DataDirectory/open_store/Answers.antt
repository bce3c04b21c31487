use Rattle.zk_data_files.proofs.directory.DataDirectory.open_store.Goals as goal

pub returns-in-Ok-clause-all : goal.returns-in-Ok-clause-all
returns-in-Ok-clause-all g c = c.in-Ok.ensures.all _ c.in_ok-files.ensures.seen

pub returns-in-Ok-clause-only : goal.returns-in-Ok-clause-only
returns-in-Ok-clause-only g c = c.in-Ok.ensures.only _ c.in_ok-files.ensures.seen c.in_ok-files.ensures.left
