use Rattle.zk_machine.proofs.OneWay.{instructions_whole, instructions_one_way}
use Rattle.zk_machine.proofs.laws.instructions_change_in_one_way.Goals as goal

pub returns-clause-whole : goal.returns-clause-whole
returns-clause-whole c = instructions_whole

pub returns-clause-one_way : goal.returns-clause-one_way
returns-clause-one_way c = instructions_one_way
