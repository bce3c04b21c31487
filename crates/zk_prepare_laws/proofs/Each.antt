-- What holds of each transaction of a list, while the list grows.
use Rattle.std.proofs.Common.{◌≡◌, ◌⊎◌, inl, inr, List, [], ◌∷◌, ◌++◌, refl, sym, ap, subst, ◌∙◌}
use Rattle.std.proofs.lemmas.List.{append_assoc}
use Rattle.zk_table.specs.declared.txn.Txn.{Txn}
use Rattle.zk_table.specs.Histories.{tree_of}
use Rattle.zk_prepare_laws.specs.Prepared.{IsPrepared, OfEach, ArePrepared}

-- the last one of a list, or one before it
split : (txns before : List Txn) (last txn : Txn) (after : List Txn) → txns ++ last ∷ [] ≡ before ++ txn ∷ after → ((before ≡ txns) × (txn ≡ last)) ⊎ ((rest : List Txn) × (txns ≡ before ++ txn ∷ rest))
split [] [] last txn after is = let e : last ∷ [] ≡ txn ∷ after = is in inl (refl, cc)
split [] (b ∷ []) last txn after is = let e : last ∷ [] ≡ b ∷ (txn ∷ after) = is in absurd (cc)
split [] (b ∷ (c ∷ before)) last txn after is = let e : last ∷ [] ≡ b ∷ (c ∷ (before ++ txn ∷ after)) = is in absurd (cc)
split (t ∷ txns) [] last txn after is = let e : t ∷ (txns ++ last ∷ []) ≡ txn ∷ after = is in inr (txns, cc)
split (t ∷ txns) (b ∷ before) last txn after is =
    let e : t ∷ (txns ++ last ∷ []) ≡ b ∷ (before ++ txn ∷ after) = is in
    let first : t ≡ b = cc in
    let tails : txns ++ last ∷ [] ≡ before ++ txn ∷ after = cc in
    elim (split txns before last txn after tails) [
      | inl (same, own) ↦ inl ((λ i. sym first i ∷ same i), own)
      | inr (rest, same) ↦ inr (rest, λ i. first i ∷ same i)
    ]

pub each_nil : (Holds : List Txn → Txn → Type 0) → OfEach Holds []
each_nil Holds [] txn after is = let e : [] ≡ txn ∷ after = is in absurd (cc)
each_nil Holds (b ∷ before) txn after is = let e : [] ≡ b ∷ (before ++ txn ∷ after) = is in absurd (cc)

pub each_more : (Holds : List Txn → Txn → Type 0) (txns : List Txn) (last : Txn) → OfEach Holds txns → Holds txns last → OfEach Holds (txns ++ last ∷ [])
each_more Holds txns last all holds before txn after is = elim (split txns before last txn after is) [
  | inl (same, own) ↦ subst (λ (l : List Txn). Holds l txn) (sym same) (subst (Holds txns) (sym own) holds)
  | inr (rest, same) ↦ all before txn rest same
]

pub each_front : (Holds : List Txn → Txn → Type 0) (first rest : List Txn) → OfEach Holds (first ++ rest) → OfEach Holds first
each_front Holds first rest all before txn after is =
    all before txn (after ++ rest) (ap (λ (l : List Txn). l ++ rest) is ∙ append_assoc before (txn ∷ after) rest)

-- ---- of prepared ones

pub prepared_nil : ArePrepared []
prepared_nil = each_nil (λ before txn. IsPrepared (tree_of before) txn)

pub prepared_more : (txns : List Txn) (txn : Txn) → ArePrepared txns → IsPrepared (tree_of txns) txn → ArePrepared (txns ++ txn ∷ [])
prepared_more txns txn prepared next = each_more (λ before txn. IsPrepared (tree_of before) txn) txns txn prepared next

pub prepared_front : (first rest : List Txn) → ArePrepared (first ++ rest) → ArePrepared first
prepared_front first rest prepared = each_front (λ before txn. IsPrepared (tree_of before) txn) first rest prepared
