-- The marked line of a place after the start.
use Rattle.std.proofs.Common.{◌≡◌, ◌≢◌, ℕ, zero, suc, ◌-◌, ◌<◌, List, length, get_or, Some, refl, sym, ap, subst, ◌∙◌, arith}
use Rattle.std.proofs.lemmas.Option.{slice_get-get_or}
use Rattle.std.specs.Prelude.{slice_get}
use Rattle.zk_table.specs.declared.txn.Txn.{Txn}
use Rattle.zk_commands.specs.Lists.{marked_at, marked_line}

pub marked_by : (txns : List Txn) (place : ℕ) (txn : Txn) → place ≢ 0 → place - 1 < length txns → txn ≡ get_or txns (place - 1) txn → marked_at txns place ≡ marked_line (Some txn)
marked_by txns zero txn behind within is = absurd (behind refl)
marked_by txns (suc before) txn behind within is =
    let at : suc before - 1 ≡ before = omega arith in
    let found : slice_get txns (suc before - 1) ≡ Some txn = slice_get-get_or txns (suc before - 1) txn within ∙ ap Some (sym is) in
    ap marked_line (ap (slice_get txns) (sym at) ∙ found)
