use Rattle.std.proofs.Common.{rules, Err, sym, subst}
use Rattle.std.proofs.lemmas.Result.{err_from_is_err_and}
use Rattle.zk_directory_state.proofs.TakenFiles.{log_fails}
use Rattle.zk_directory_state.specs.Directories.{ReadsLog}
use Rattle.zk_directory_state.proofs.restored_directory.read_log.Goals as goal

pub returns-in_err-restore : goal.returns-in_err-restore
returns-in_err-restore c =
    let p = err_from_is_err_and c.from_residual-in_err-restore.result c.from_residual-in_err-restore.ensures.1 in
    let fault = c.in_err-restore.field-0.0 in
    let told : ReadsLog c.args.restore c.args.bytes.now (Err fault) = log_fails c.args.restore c.args.bytes.now c.in_ok-file.file fault c.in_ok-file.ensures c.in_err-restore.ensures in
    subst (ReadsLog c.args.restore c.args.bytes.now) (sym p.1) (subst (λ y. ReadsLog c.args.restore c.args.bytes.now (Err y)) (sym p.2) told)

pub returns : goal.returns
returns c = record {
  file = c.in_ok-file.file;
  of_bytes = c.in_ok-file.ensures;
  after = c.in_ok-restore.ensures;
  ending = c.ending_of.ensures;
  next = search rules;
}
