use Rattle.std.proofs.Common.{◌≡◌, ◌∷◌, ◌++◌, rules, append_assoc}
use Rattle.std.specs.Fmt.{signed_decimal}
use Rattle.std.specs.String.{string_bytes}
use Rattle.zk_format.specs.Spelling.{stat_versions}
use Rattle.zk_format.proofs.spelling.spell_stat_versions.Goals as goal

pub returns : goal.returns
unfolding stat_versions
returns c =
    let stat = c.args.stat.now in
    let one : string_bytes c.push_str.new.self ≡ string_bytes c.args.line.now ++ signed_decimal stat.version = search rules in
    let two : string_bytes c.spell_next_decimal.new.line ≡ string_bytes c.push_str.new.self ++ 32 ∷ signed_decimal stat.cversion = search rules in
    let rest : string_bytes c.spell_next_decimal-2.new.line ≡ string_bytes c.spell_next_decimal.new.line ++ 32 ∷ signed_decimal stat.aversion = search rules in
    rw (rest, two, one) (simp append_assoc)
