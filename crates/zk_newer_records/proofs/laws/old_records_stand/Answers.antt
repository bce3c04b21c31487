use Rattle.zk_newer_records.proofs.Standing.{old_ones_stand, unchanged_ones_are_old, old_ones_are_unchanged}
use Rattle.zk_newer_records.proofs.laws.old_records_stand.Goals as goal

pub returns-clause-stand : goal.returns-clause-stand
returns-clause-stand c = old_ones_stand

pub returns-clause-unchanged : goal.returns-clause-unchanged
returns-clause-unchanged c = unchanged_ones_are_old

pub returns-clause-others : goal.returns-clause-others
returns-clause-others c = old_ones_are_unchanged
