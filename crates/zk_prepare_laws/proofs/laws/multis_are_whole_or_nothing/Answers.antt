use Rattle.zk_table.specs.Histories.{tree_of}
use Rattle.zk_prepare_laws.proofs.Refusing.{multi_is_whole_or_nothing}
use Rattle.zk_prepare_laws.proofs.laws.multis_are_whole_or_nothing.Goals as goal

pub returns-clause-one : goal.returns-clause-one
returns-clause-one c = multi_is_whole_or_nothing

pub returns-clause-each : goal.returns-clause-each
returns-clause-each c = λ txns prepared before txn after is. multi_is_whole_or_nothing (tree_of before) txn (prepared before txn after is)
