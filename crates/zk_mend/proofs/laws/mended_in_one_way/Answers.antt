use Rattle.zk_mend.proofs.OneWay.{mends_in_one_way, refuses_in_one_way, mends_or_refuses}
use Rattle.zk_mend.proofs.laws.mended_in_one_way.Goals as goal

pub returns-clause-mended : goal.returns-clause-mended
returns-clause-mended c = mends_in_one_way

pub returns-clause-refused : goal.returns-clause-refused
returns-clause-refused c = refuses_in_one_way

pub returns-clause-either : goal.returns-clause-either
returns-clause-either c = mends_or_refuses
