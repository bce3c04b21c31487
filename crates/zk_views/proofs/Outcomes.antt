-- What is known at either outcome of a call.
use Rattle.std.proofs.Common.{◌≡◌, ℤ, ◌≤ℤ◌, List, Result, Ok, Err, IfErr, OnOk, OnErr, sym, ap, ◌∙◌, subst}
use Rattle.std.proofs.lemmas.Result.{IfErr-weaker}
use Rattle.zk_table.specs.declared.txn.Txn.{Txn}
use Rattle.zk_table.specs.Histories.{tree_of}
use Rattle.zk_views.specs.declared.fault.ViewFault.{ViewFault}
use Rattle.zk_views.specs.declared.fault.ViewFault.TheVariants.{Behind, NoMemory, Gone}
use Rattle.zk_views.specs.declared.seen.Seen.{Seen}
use Rattle.zk_views.specs.Answers.{IsRefused}
use Rattle.zk_views.specs.Views.{IsPrefix}

pub on_err : {T E P : Type 0} (outcome : Result T E) → P → OnErr outcome P
on_err (Ok _) fact = tt
on_err (Err _) fact = fact

-- a list begins another one at either outcome
pub begins_either : {T E : Type 0} (outcome : Result T E) (front shown kept after : List Txn) → IsPrefix front shown → IsPrefix front kept → OnOk outcome (after ≡ shown) → OnErr outcome (after ≡ kept)
    → IsPrefix front after
begins_either (Ok _) front shown kept after more same ok err = subst (λ (l : List Txn). IsPrefix front l) (sym ok) more
begins_either (Err _) front shown kept after more same ok err = subst (λ (l : List Txn). IsPrefix front l) (sym err) same

refusal : (nothing : Type 0) (asked knows : List Txn) (passed : ℤ) → knows ≡ asked → (fault : ViewFault) → IsRefused ⊥ asked passed fault → IsRefused nothing knows passed fault
refusal nothing asked knows passed same (Behind seen zxid) told = (told.0, told.1 ∙ ap (λ (l : List Txn). (tree_of l).last) (sym same), told.2)
refusal nothing asked knows passed same NoMemory told = subst (λ (l : List Txn). passed ≤ℤ (tree_of l).last) (sym same) told
refusal nothing asked knows passed same Gone told = absurd told

-- a list fails as one that a reader then knows
pub refused_by : (nothing : Type 0) (asked knows : List Txn) (passed : ℤ) (answer : Result Seen ViewFault) → knows ≡ asked → IfErr answer (IsRefused ⊥ asked passed) → IfErr answer (IsRefused nothing knows passed)
refused_by nothing asked knows passed answer same told = IfErr-weaker answer (IsRefused ⊥ asked passed) (IsRefused nothing knows passed) (refusal nothing asked knows passed same) told
