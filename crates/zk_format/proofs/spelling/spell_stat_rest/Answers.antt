use Rattle.std.proofs.Common.{◌≡◌, ◌∷◌, ◌++◌, rules, append_assoc}
use Rattle.std.specs.Fmt.{signed_decimal}
use Rattle.std.specs.String.{string_bytes}
use Rattle.zk_format.specs.Spelling.{id_digits, stat_rest}
use Rattle.zk_format.proofs.spelling.spell_stat_rest.Goals as goal

pub returns : goal.returns
unfolding stat_rest
returns c =
    let stat = c.args.stat.now in
    let one : string_bytes c.push_id.new.line ≡ string_bytes c.args.line.now ++ id_digits stat.ephemeral_owner = search rules in
    let two : string_bytes c.spell_next_decimal.new.line ≡ string_bytes c.push_id.new.line ++ 32 ∷ signed_decimal stat.data_length = search rules in
    let three : string_bytes c.spell_next_decimal-2.new.line ≡ string_bytes c.spell_next_decimal.new.line ++ 32 ∷ signed_decimal stat.num_children = search rules in
    let rest : string_bytes c.spell_next_id.new.line ≡ string_bytes c.spell_next_decimal-2.new.line ++ 32 ∷ id_digits stat.pzxid = search rules in
    rw (rest, three, two, one) (simp append_assoc)
