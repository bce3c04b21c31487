use Rattle.std.proofs.Common.{◌≡◌, [], map, rules, subst}
use Rattle.std.specs.String.{string_bytes}
use Rattle.zk_incidents.proofs.Finished.{counts_told}
use Rattle.zk_incidents.specs.Counts.{Counted, counted_all, ranked_all, rows_of}
use Rattle.zk_incidents.specs.Tops.{all_keys, first_rows}
use Rattle.zk_json_commands.specs.Lines.{AreLines}
use Rattle.zk_json_commands.specs.Tops.{AreRowLines, IsLine}
use Rattle.zk_json_commands.proofs.Rows.{shown_row}
use Rattle.zk_json_commands.proofs.top.lines_of.Goals as goal

pub returns : goal.returns
returns g c =
    let found = c.in_ok-fold.ensures in
    let records = found.0 in
    let range = c.args.range in
    let key = c.args.key in
    let counts : c.in_ok-fold.fold.counts ≡ counted_all [] (all_keys range key records) = search (rules, counts_told) in
    let rows : map shown_row c.first_rows.result.now ≡ first_rows c.args.number (rows_of (ranked_all [] c.in_ok-fold.fold.counts)) = search rules in
    let lines : AreLines (IsLine key) (map shown_row c.first_rows.result.now) (string_bytes c.in_ok-text.text) = search rules in
    (records, found.1, subst (λ (counted : Counted). AreRowLines key c.args.number counted (string_bytes c.in_ok-text.text)) counts (subst (λ (rs : Counted). AreLines (IsLine key) rs (string_bytes c.in_ok-text.text)) rows lines))
