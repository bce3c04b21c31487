use Rattle.zab_model.proofs.ServerLists.{stable_after_crash, stable_after_restart}
use Rattle.zab_agreement_laws.proofs.laws.stable_part_outlasts_crashes.Goals as goal

pub returns-clause-crash : goal.returns-clause-crash
returns-clause-crash g c = stable_after_crash

pub returns-clause-restart : goal.returns-clause-restart
returns-clause-restart g c = stable_after_restart
