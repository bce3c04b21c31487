-- Folds over records.
use Rattle.std.specs.Prelude.{◌≡◌, List, [], ◌∷◌}
use Rattle.zk_newer_records.specs.declared.newer_record.NewerRecord.{NewerRecord}

-- records lead from one state to another, in order
abbrev pub AllFollow : {S : Type 0} → (S → NewerRecord → S → Type 0) → S → List NewerRecord → S → Type 0
AllFollow follows old [] new = new ≡ old
AllFollow {S} follows old (newer ∷ records) new = (next : S) × follows old newer next × AllFollow follows next records new
