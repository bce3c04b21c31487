-- The first record after a window.
use Rattle.std.proofs.Common.{◌≡◌, ℤ, false, Result, Ok, Err, sym, subst}
use Rattle.std.specs.Prelude.{IfOk, int_le}
use Rattle.zk_replay.specs.Bases.{IsSettled}
use Rattle.zk_replay.specs.declared.draft.Draft.{Draft}
use Rattle.zk_replay.specs.declared.fault.BaseFault.{BaseFault}
use Rattle.zk_newer_records.specs.declared.newer_record.NewerRecord.{NewerRecord}
use Rattle.zk_replay.specs.Restoring.{IsTableIn, TakesInWindow, Takes}
use Rattle.zk_replay.specs.declared.stage.Stage.{Stage}
use Rattle.zk_replay.specs.declared.stage.Stage.TheVariants as stages
use Rattle.zk_table.specs.States.{State}
use Rattle.zk_table.specs.Steps.{step}

pub leaves : (draft : Draft) (last exact : ℤ) (newer : NewerRecord) (base : State) (z : ℤ) (answer : Result Stage BaseFault) → int_le newer.txn.zxid exact ≡ false → z ≡ last → IsSettled draft z base → IfOk answer (IsTableIn (step base newer.txn).0) → IfOk answer (Takes (stages.Window draft last) exact newer)
leaves draft last exact newer base z (Ok new) behind same settled applied =
    subst (λ b. TakesInWindow b draft last newer new) (sym behind) (record { base = base; settled = subst (λ (y : ℤ). IsSettled draft y base) same settled; applied = applied })
leaves draft last exact newer base z (Err fault) behind same settled applied = tt
