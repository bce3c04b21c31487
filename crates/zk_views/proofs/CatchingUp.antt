-- A view that is published what its server has delivered.
use Rattle.std.proofs.Common.{◌≡◌, ◌∙◌, ◌⊎◌, inl, inr, ℕ, ◌+◌, ◌≤◌, zero, suc, Bool, true, false, List, [], ◌∷◌, ◌++◌, length, drop, Result, Ok, Err, OnOk, OnErr, is_err, refl, sym, ap, subst, arith}
use Rattle.std.proofs.Math.ListN.{drop_of_length-le}
use Rattle.std.proofs.Math.Seq.{drop-append_seam}
use Rattle.std.proofs.lemmas.List.{append-nil, append_assoc, length-append}
use Rattle.zk_table.specs.declared.txn.Txn.{Txn}
use Rattle.zk_views.specs.Catching.{HasCaughtUp, MayCatchUp}
use Rattle.zk_views.specs.Views.{IsPrefix, LiesBetween, Publishing}
use Rattle.zk_views.proofs.Prefixes.{prefix_same, prefix_trans}

no_more : (txns more : List Txn) → length (txns ++ more) ≤ length txns → more ≡ []
no_more txns [] h = refl
no_more txns (x ∷ more) h = absurd (omega (arith, h, length-append txns (x ∷ more)))

-- what lies between a list and itself is that list
between_same : (txns other : List Txn) → IsPrefix txns other → IsPrefix other txns → other ≡ txns
between_same txns other begins ends =
    let longer : length (txns ++ begins.rest) ≤ length txns = omega (arith, ap length begins.is, ap length ends.is, length-append other ends.rest) in
    sym begins.is ∙ ap (λ (l : List Txn). txns ++ l) (no_more txns begins.rest longer) ∙ append-nil txns

-- what was offered and is to be is what the server has delivered, or what was offered
Extent : List Txn → List Txn → List Txn → Type 0
Extent offered delivered all = (all ≡ delivered) ⊎ ((all ≡ offered) × IsPrefix delivered offered)

extent : (offered delivered more : List Txn) → IsPrefix offered delivered ⊎ IsPrefix delivered offered → more ≡ drop (length offered) delivered → Extent offered delivered (offered ++ more)
unfolding Extent
extent offered delivered more (inl p) is =
    inl (ap (λ (l : List Txn). offered ++ l) (is ∙ ap (drop (length offered)) (sym p.is) ∙ drop-append_seam offered p.rest) ∙ p.is)
extent offered delivered more (inr p) is =
    let fewer : length delivered ≤ length offered = omega (arith, ap length p.is, length-append delivered p.rest) in
    inr (ap (λ (l : List Txn). offered ++ l) (is ∙ drop_of_length-le delivered fewer) ∙ append-nil offered, p)

offered_on_ok : (before view : Publishing) (delivered all : List Txn) → Extent before.offered delivered all → view.published ≡ all → view.offered ≡ view.published → (view.offered ≡ before.offered) ⊎ IsPrefix view.offered delivered
unfolding Extent
offered_on_ok before view delivered all (inl e) published offered = inr (subst (λ (l : List Txn). IsPrefix l delivered) (sym (offered ∙ published ∙ e)) (prefix_same delivered))
offered_on_ok before view delivered all (inr e) published offered = inl (offered ∙ published ∙ e.0)

caught_on_ok : (before view : Publishing) (delivered all : List Txn) → Extent before.offered delivered all → view.published ≡ all → IsPrefix delivered view.published
unfolding Extent
caught_on_ok before view delivered all (inl e) published = subst (λ (l : List Txn). IsPrefix delivered l) (sym (published ∙ e)) (prefix_same delivered)
caught_on_ok before view delivered all (inr e) published = subst (λ (l : List Txn). IsPrefix delivered l) (sym (published ∙ e.0)) e.1

offered_on_err : (before view : Publishing) (delivered all : List Txn) → Extent before.offered delivered all → LiesBetween before.offered view.offered all → (view.offered ≡ before.offered) ⊎ IsPrefix view.offered delivered
unfolding Extent
offered_on_err before view delivered all (inl e) lies = inr (subst (λ (l : List Txn). IsPrefix view.offered l) e lies.ends)
offered_on_err before view delivered all (inr e) lies = inl (between_same before.offered view.offered lies.begins (subst (λ (l : List Txn). IsPrefix view.offered l) e.0 lies.ends))

never : (b : Bool) → b ≡ true → b ≡ false → ⊥
never b one other = cc

pub caught_up : {E : Type 0} (result : Result (Unit {0}) E) (before view : Publishing) (delivered more : List Txn) (late : Bool) → MayCatchUp before delivered → more ≡ drop (length before.offered) delivered
    → OnOk result (view.published ≡ before.offered ++ more) → OnOk result (view.offered ≡ view.published) → IsPrefix before.published view.published → OnErr result (view.published ≡ before.published) → OnErr result (LiesBetween before.offered view.offered (before.offered ++ more))
    → late ≡ is_err result → HasCaughtUp before delivered view late
caught_up (Ok done) before view delivered more late may is published offered grows refused partly told =
    let whole = extent before.offered delivered more may.agree is in
    record {
      offered = offered_on_ok before view delivered (before.offered ++ more) whole published offered;
      shown = subst (λ (l : List Txn). IsPrefix view.published l) (sym offered) (prefix_same view.published);
      grows = grows;
      caught = λ _. caught_on_ok before view delivered (before.offered ++ more) whole published;
    }
caught_up (Err fault) before view delivered more late may is published offered grows refused partly told =
    let whole = extent before.offered delivered more may.agree is in
    record {
      offered = offered_on_err before view delivered (before.offered ++ more) whole partly;
      shown = subst (λ (l : List Txn). IsPrefix l view.offered) (sym refused) (prefix_trans before.published before.offered view.offered may.shown partly.begins);
      grows = grows;
      caught = λ no. absurd (never late told no);
    }
