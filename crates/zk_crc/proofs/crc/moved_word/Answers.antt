use Rattle.std.proofs.Common.{refl, ap, ◌∙◌, ◌/◌}
use Rattle.std.proofs.lemmas.Nat.{and_mask}
use Rattle.zk_crc.specs.Crc.{moved_by}
use Rattle.zk_crc.proofs.Crcs.{word_looked_up}
use Rattle.zk_crc.proofs.crc.moved_word.Goals as goal

pub returns : goal.returns
returns c =
    let word = c.args.register in
    let second = word / 256 in
    let third = second / 256 in
    word_looked_up word second third (third / 256) c.moved_32.result c.moved_24.result c.moved_16.result c.moved_8.result c.ranges.register.fits refl refl refl
    (c.moved_32.ensures ∙ ap (moved_by 32) (and_mask word 8)) (c.moved_24.ensures ∙ ap (moved_by 24) (and_mask second 8)) (c.moved_16.ensures ∙ ap (moved_by 16) (and_mask third 8)) c.moved_8.ensures
