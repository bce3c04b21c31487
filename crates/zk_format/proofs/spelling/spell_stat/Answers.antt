use Rattle.std.proofs.Common.{◌≡◌, ◌∷◌, ◌++◌, [], rules, append_assoc}
use Rattle.std.specs.String.{string_bytes}
use Rattle.zk_format.specs.Spelling.{stat_times, stat_versions, stat_rest, stat_text}
use Rattle.zk_format.proofs.spelling.spell_stat.Goals as goal

pub returns : goal.returns
unfolding stat_text
returns c =
    let stat = c.args.stat.now in
    let times : string_bytes c.spell_stat_times.new.line ≡ string_bytes c.args.line.now ++ stat_times stat = search rules in
    let space : string_bytes c.push.new.self ≡ string_bytes c.spell_stat_times.new.line ++ 32 ∷ [] = search rules in
    let versions : string_bytes c.spell_stat_versions.new.line ≡ string_bytes c.push.new.self ++ stat_versions stat = search rules in
    let gap : string_bytes c.push-2.new.self ≡ string_bytes c.spell_stat_versions.new.line ++ 32 ∷ [] = search rules in
    let rest : string_bytes c.spell_stat_rest.new.line ≡ string_bytes c.push-2.new.self ++ stat_rest stat = search rules in
    rw (rest, gap, versions, space, times) (simp append_assoc)
