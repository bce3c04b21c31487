use Rattle.zk_records.proofs.Fitting.{has_record}
use Rattle.zk_records.proofs.laws.short_transactions_have_records.Goals as goal

pub returns : goal.returns
returns c = has_record
