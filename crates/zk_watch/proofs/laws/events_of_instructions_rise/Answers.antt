use Rattle.zk_watch.proofs.Instructions.{come_by_instruction, of_instructions_rise}
use Rattle.zk_watch.proofs.laws.events_of_instructions_rise.Goals as goal

pub returns-clause-whole : goal.returns-clause-whole
returns-clause-whole c = come_by_instruction c.instructions_change_in_one_way.ensures.whole

pub returns-clause-rise : goal.returns-clause-rise
returns-clause-rise c = of_instructions_rise c.instructions_change_in_one_way.ensures.one_way
