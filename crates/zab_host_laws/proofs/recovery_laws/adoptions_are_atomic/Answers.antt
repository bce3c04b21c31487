use Rattle.zab_host_laws.proofs.Adopting.{at_once, repeated}
use Rattle.zab_host_laws.proofs.recovery_laws.adoptions_are_atomic.Goals as goal

pub returns-clause-once : goal.returns-clause-once
returns-clause-once c = at_once

pub returns-clause-repeated : goal.returns-clause-repeated
returns-clause-repeated c = repeated
