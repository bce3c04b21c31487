-- Faults inside a frame.
use Rattle.std.proofs.Common.{◌≡◌, ◌≢◌, List, ℕ, Result, Ok, Err, refl}
use Rattle.zk_jute.specs.declared.fault.JuteFault.{JuteFault}
use Rattle.zk_jute.specs.declared.fault.JuteFault.TheVariants as faults
use Rattle.zk_jute.specs.Reading.{Fails, whole}
use Rattle.zk_quorum_records.specs.Reading.{inside}

pub inside_fails : {A : Type 0} (fault : JuteFault) (read : Result (A × List ℕ) JuteFault) → fault ≢ faults.Short → Fails fault read → Fails fault (inside (whole read))
inside_fails faults.Short read other fails = absurd (other refl)
inside_fails faults.Length read other fails = rw fails refl
inside_fails faults.Text read other fails = rw fails refl
inside_fails faults.Boolean read other fails = rw fails refl
inside_fails faults.Kind read other fails = rw fails refl
inside_fails faults.Trailing read other fails = rw fails refl
inside_fails faults.Path read other fails = rw fails refl
inside_fails faults.NoMemory read other fails = tt
