use Rattle.zk_jute.proofs.Whole.{only_old_creates_begin_others, records_are_of_one}
use Rattle.zk_jute.proofs.laws.only_old_creates_begin_others.Goals as goal

pub returns-clause-begins : goal.returns-clause-begins
returns-clause-begins c = only_old_creates_begin_others

pub returns-clause-one : goal.returns-clause-one
returns-clause-one c = records_are_of_one
