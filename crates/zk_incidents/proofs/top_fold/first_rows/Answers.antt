use Rattle.std.proofs.Common.{ℕ, List, Option, map, sym, ap, ◌∙◌}
use Rattle.std.proofs.lemmas.List.{take-map}
use Rattle.std.specs.Borrow.{Bor}
use Rattle.zk_incidents.specs.Tops.{first_rows}
use Rattle.zk_incidents.proofs.top_fold.first_rows.Goals as goal

pub returns-then-number-rows : goal.returns-then-number-rows
returns-then-number-rows c =
    let shown : Bor (List ℕ) × ℕ → List ℕ × ℕ = λ (row : Bor (List ℕ) × ℕ). (row.0.now, row.1) in
    sym (take-map shown c.in-Some.number c.args.rows.now) ∙ ap (λ (n : Option ℕ). first_rows n (map shown c.args.rows.now)) (sym c.in-Some.is)
