use Rattle.std.proofs.Common.{◌≡◌, ◌∷◌, ◌++◌, [], rules, append_assoc}
use Rattle.std.specs.Fmt.{signed_decimal}
use Rattle.std.specs.String.{string_bytes}
use Rattle.zk_format.specs.Reports.{path_or_dash, stat_or_dash}
use Rattle.zk_format.proofs.report.spell_answer.Goals as goal

pub returns : goal.returns
returns c =
    let err : string_bytes c.write.new.self ≡ string_bytes c.args.line.now ++ (signed_decimal c.args.err ++ 32 ∷ []) = search rules in
    let path : string_bytes c.spell_path_or_dash.new.line ≡ string_bytes c.write.new.self ++ path_or_dash c.args.path.now = search rules in
    let space : string_bytes c.push.new.self ≡ string_bytes c.spell_path_or_dash.new.line ++ 32 ∷ [] = search rules in
    let stat : string_bytes c.spell_stat_or_dash.new.line ≡ string_bytes c.push.new.self ++ stat_or_dash c.args.stat.now = search rules in
    rw (stat, space, path, err) (simp append_assoc)
