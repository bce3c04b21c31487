-- Texts that compare as equal are equal.
use Rattle.std.proofs.Common.{◌≡◌, ℕ, true, List, refl, Equal, Less, Greater, is_eq}
use Rattle.std.proofs.lemmas.Bool.{false≢true}
use Rattle.std.specs.declared.cmp.Ordering.{Ordering}
use Rattle.std.specs.FinMap.{IsAntisymmetric, slice_cmp-IsAntisymmetric, nat_cmp-IsAntisymmetric}
use Rattle.std.specs.Ordering.{eq_by_cmp}
use Rattle.zk_table.specs.States.{path_cmp}

pub path_cmp-IsAntisymmetric : IsAntisymmetric path_cmp
path_cmp-IsAntisymmetric = slice_cmp-IsAntisymmetric nat_cmp-IsAntisymmetric

pub tied : (r : Ordering) → is_eq r ≡ true → r ≡ Equal
tied Less e = absurd (false≢true e)
tied Equal e = refl
tied Greater e = absurd (false≢true e)

pub same_is : (q k : List ℕ) → eq_by_cmp path_cmp q k ≡ true → q ≡ k
same_is q k e = path_cmp-IsAntisymmetric q k (tied _ e)
