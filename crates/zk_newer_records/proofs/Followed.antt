-- Records that follow others.
use Rattle.std.proofs.Common.{List, [], ◌∷◌, ◌++◌, refl, subst}
use Rattle.zk_newer_records.specs.declared.newer_record.NewerRecord.{NewerRecord}
use Rattle.zk_newer_records.specs.Folds.{AllFollow}

pub one_follows : {S : Type 0} (follows : S → NewerRecord → S → Type 0) (old new : S) (newer : NewerRecord) → follows old newer new → AllFollow follows old (newer ∷ []) new
one_follows follows old new newer f = (new, f, refl)

pub more_follow : {S : Type 0} (follows : S → NewerRecord → S → Type 0) (old middle new : S) (front more : List NewerRecord) → AllFollow follows old front middle → AllFollow follows middle more new → AllFollow follows old (front ++ more) new
more_follow follows old middle new [] more f g = subst (λ s. AllFollow follows s more new) f g
more_follow follows old middle new (newer ∷ front) more f g = (f.0, f.1, more_follow follows f.0 middle new front more f.2 g)
