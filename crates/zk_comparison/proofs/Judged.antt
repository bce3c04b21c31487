-- Those of a kind.
use Rattle.std.proofs.Common.{◌≡◌, Bool, true, false, List, [], ◌∷◌, ◌++◌, refl, if◌then◌else◌}
use Rattle.zk_comparison.specs.Comparisons.{is_kind, of_kind}
use Rattle.zk_comparison.specs.Pairs.{Both}
use Rattle.zk_comparison.specs.declared.judgement.Kind.{Kind}

by_kind : (b : Bool) (both : Both) (rest : List Both) → (if b then both ∷ rest else rest) ≡ (if b then both ∷ [] else []) ++ rest
by_kind true both rest = refl
by_kind false both rest = refl

-- the first, and the others
pub kind_first : (kind : Kind) (judged : Kind × Both) (all : List (Kind × Both)) → of_kind kind (judged ∷ all) ≡ of_kind kind (judged ∷ []) ++ of_kind kind all
kind_first kind judged all = by_kind (is_kind kind judged.0) judged.1 (of_kind kind all)
