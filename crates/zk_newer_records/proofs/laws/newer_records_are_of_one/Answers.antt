use Rattle.zk_newer_records.proofs.Whole.{newer_ones_are_of_one}
use Rattle.zk_newer_records.proofs.laws.newer_records_are_of_one.Goals as goal

pub returns : goal.returns
returns c = newer_ones_are_of_one
