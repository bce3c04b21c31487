use Rattle.std.proofs.Common.{◌≡◌, ◌∷◌, ◌++◌, rules, append_assoc}
use Rattle.std.specs.Fmt.{signed_decimal}
use Rattle.std.specs.String.{string_bytes}
use Rattle.zk_format.specs.Spelling.{id_digits, stat_times}
use Rattle.zk_format.proofs.spelling.spell_stat_times.Goals as goal

pub returns : goal.returns
unfolding stat_times
returns c =
    let stat = c.args.stat.now in
    let one : string_bytes c.push_id.new.line ≡ string_bytes c.args.line.now ++ id_digits stat.czxid = search rules in
    let two : string_bytes c.spell_next_id.new.line ≡ string_bytes c.push_id.new.line ++ 32 ∷ id_digits stat.mzxid = search rules in
    let three : string_bytes c.spell_next_decimal.new.line ≡ string_bytes c.spell_next_id.new.line ++ 32 ∷ signed_decimal stat.ctime = search rules in
    let rest : string_bytes c.spell_next_decimal-2.new.line ≡ string_bytes c.spell_next_decimal.new.line ++ 32 ∷ signed_decimal stat.mtime = search rules in
    rw (rest, three, two, one) (simp append_assoc)
