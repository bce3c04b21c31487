use Rattle.std.proofs.Common.{List}
use Rattle.std.proofs.lemmas.Result.{err_from_is_err_and}
use Rattle.zab_epoch.specs.declared.history.Entry.{Entry}
use Rattle.zk_data_files.proofs.Openings.{recovered_fault, returned_fault}
use Rattle.zk_data_files.proofs.opening.recover_stable.Goals as goal

pub returns-in_err-stable-clause-fault : goal.returns-in_err-stable-clause-fault
returns-in_err-stable-clause-fault g c =
    let p = err_from_is_err_and c.from_residual.result c.from_residual.ensures.1 in
    returned_fault g.D.Disk _ c.args.files.now c.recover.new.files c.from_residual.result c.in_err-stable.field-0.0 p.0 p.1 p.2
    (recovered_fault g.D.Disk (List Entry) c.args.files.now c.recover.new.files c.args.counted.book c.in_err-stable.field-0.0 c.recover.ensures.clean c.requires.book c.in_err-stable.ensures.faults)
