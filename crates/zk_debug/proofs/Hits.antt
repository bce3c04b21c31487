-- The lowest number that a place matches, by the stored step to it; and the place of a zxid.
use Rattle.std.proofs.Common.{◌≡◌, ℕ, ◌-◌, ℤ, ◌<ℤ◌, cond, true, false, List, [], ◌∷◌, length, take, Some, None, refl, sym, ap, ◌∙◌, arith}
use Rattle.std.specs.Prelude.{int_le, option_map, unwrap_or}
use Rattle.std.proofs.lemmas.Int.{ints}
use Rattle.std.specs.FinMap.{FinMap}
use Rattle.std.specs.Ordering.{nat_cmp}
use Rattle.zk_records.specs.Written.{Rises}
use Rattle.zk_machine.specs.declared.change.Change.{Change}
use Rattle.zk_machine.specs.Changes.{changes_of}
use Rattle.zk_table.specs.declared.result.TxnResult.{TxnResult}
use Rattle.zk_table.specs.declared.txn.Txn.{Txn}
use Rattle.zk_table.specs.States.{State}
use Rattle.zk_table.specs.Steps.{step}
use Rattle.zk_debug.specs.declared.breakpoint.Breakpoint.{Breakpoint}
use Rattle.zk_debug.specs.Breakpoints.{is_met}
use Rattle.zk_debug.specs.Debugging.{state_at, txn_at, result_at, changes_at, lowest_by, hit_by, up_to}

module _ (base : State) (txns : List Txn) (place : ℕ) (standing : FinMap nat_cmp Breakpoint) where
  pub hit_here : (txn : Txn) (result : TxnResult) (changes : List Change) → Some txn ≡ txn_at txns place → Some result ≡ result_at base txns place → Some changes ≡ changes_at base txns place
      → lowest_by (is_met txn result.err changes) standing ≡ hit_by (state_at base txns (place - 1)) standing (txn_at txns place)
  hit_here txn result changes there answered changed =
      let before = state_at base txns (place - 1) in
      let same_result : result ≡ (step before txn).1 = ap (λ o. unwrap_or o result) (answered ∙ ap (option_map (λ txn. (step before txn).1)) (sym there)) in
      let same_changes : changes ≡ changes_of before txn = ap (λ o. unwrap_or o changes) (changed ∙ ap (option_map (changes_of before)) (sym there)) in
      ap (λ r. lowest_by (is_met txn r.err changes) standing) same_result ∙ ap (λ cs. lowest_by (is_met txn (step before txn).1.err cs) standing) same_changes ∙ ap (hit_by before standing) there

  pub no_hit_here : None ≡ txn_at txns place → None ≡ hit_by (state_at base txns (place - 1)) standing (txn_at txns place)
  no_hit_here start = ap (hit_by (state_at base txns (place - 1)) standing) start

-- ---- zxids that rise

later : (x y z : ℤ) → int_le x z ≡ false → x <ℤ y → int_le y z ≡ false
later x y z above rises = grind (arith, ints)

none_above : (z last : ℤ) (txns : List Txn) → int_le last z ≡ false → Rises last txns → up_to z txns ≡ []
none_above z last [] above rising = refl
none_above z last (t ∷ ts) above rising =
    let beyond : int_le t.zxid z ≡ false = later last t.zxid z above rising.0 in
    ap (λ b. cond b (t ∷ up_to z ts) (up_to z ts)) beyond ∙ none_above z t.zxid ts beyond rising.1

-- the transactions of at most a zxid come first
pub first_up_to : (z last : ℤ) (txns : List Txn) → Rises last txns → take (length (up_to z txns)) txns ≡ up_to z txns
first_up_to z last [] rising = refl
first_up_to z last (t ∷ ts) rising =
    elim (int_le t.zxid z) as (λ b. int_le t.zxid z ≡ b → take (length (cond b (t ∷ up_to z ts) (up_to z ts))) (t ∷ ts) ≡ cond b (t ∷ up_to z ts) (up_to z ts)) [
      | true ↦ λ _. ap (λ l. t ∷ l) (first_up_to z t.zxid ts rising.1)
      | false ↦ λ above. let none = none_above z t.zxid ts above rising.1 in ap (λ l. take (length l) (t ∷ ts)) none ∙ sym none
    ] refl
