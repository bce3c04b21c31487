use Rattle.std.proofs.Common.{inr}
use Rattle.zk_data_files.proofs.opening.create_first.Goals as goal

pub returns-in_err-counted-clause-recovers : goal.returns-in_err-counted-clause-recovers
returns-in_err-counted-clause-recovers g c = λ found r.
    let clean = c.create.ensures.clean r.clean in
    inr (c.create.ensures.crash (c.requires.none clean.book) (c.requires.only clean.book) found r)

pub returns-clause-recovers : goal.returns-clause-recovers
returns-clause-recovers g c = λ found r.
    let clean = c.create.ensures.clean r.clean in
    inr (c.create.ensures.crash (c.requires.none clean.book) (c.requires.only clean.book) found r)
