use Rattle.zk_table.specs.Histories.{tree_of}
use Rattle.zk_prepare_laws.proofs.Refusing.{refused_only_as_error}
use Rattle.zk_prepare_laws.proofs.laws.refused_only_as_errors.Goals as goal

pub returns-clause-one : goal.returns-clause-one
returns-clause-one c = refused_only_as_error

pub returns-clause-each : goal.returns-clause-each
returns-clause-each c = λ txns prepared before txn after is. refused_only_as_error (tree_of before) txn (prepared before txn after is)
