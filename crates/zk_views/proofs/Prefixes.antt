-- Lists that begin with others.
use Rattle.std.proofs.Common.{◌≡◌, ℕ, List, [], ◌∷◌, ◌++◌, drop, take, fold, refl, sym, ap, ◌∙◌}
use Rattle.std.proofs.lemmas.List.{append-nil, append_assoc, take-append-drop}
use Rattle.zk_table.specs.declared.txn.Txn.{Txn}
use Rattle.zk_views.specs.Views.{IsPrefix, LiesBetween}

pub prefix_same : (txns : List Txn) → IsPrefix txns txns
prefix_same txns = record { rest = []; is = append-nil txns }

pub prefix_append : (front rest : List Txn) → IsPrefix front (front ++ rest)
prefix_append front rest = record { rest = rest; is = refl }

pub prefix_trans : (front middle whole : List Txn) → IsPrefix front middle → IsPrefix middle whole → IsPrefix front whole
prefix_trans front middle whole first second = record {
  rest = first.rest ++ second.rest;
  is = sym (append_assoc front first.rest second.rest) ∙ (ap (λ (l : List Txn). l ++ second.rest) first.is ∙ second.is);
}

-- the operations that are pending are appended in turn
pub appended : (txns more : List Txn) → fold (λ (xs : List Txn) (x : Txn). xs ++ x ∷ []) txns more ≡ txns ++ more
appended txns [] = sym (append-nil txns)
appended txns (txn ∷ more) = appended (txns ++ txn ∷ []) more ∙ append_assoc txns (txn ∷ []) more

pub goes_on : (shown pending next : List Txn) → next ≡ fold (λ (xs : List Txn) (x : Txn). xs ++ x ∷ []) shown pending → IsPrefix shown next
goes_on shown pending next is = record { rest = pending; is = sym (is ∙ appended shown pending) }

-- what was offered so far lies between what was offered before and all that is to be
pub between : (offered beyond : List Txn) (count : ℕ) → LiesBetween offered (offered ++ take count beyond) (offered ++ beyond)
between offered beyond count = record {
  begins = prefix_append offered (take count beyond);
  ends = record {
    rest = drop count beyond;
    is = append_assoc offered (take count beyond) (drop count beyond) ∙ ap (λ (l : List Txn). offered ++ l) (take-append-drop count beyond);
  };
}
