use Rattle.std.proofs.Common.{ap, sym, ◌∙◌, ◌*◌, arith}
use Rattle.std.proofs.lemmas.List.{drop_all}
use Rattle.zk_crc.specs.Crc.{after_bytes}
use Rattle.zk_crc.proofs.Crcs.{word_more}
use Rattle.zk_crc.proofs.crc.after_words.Goals as goal

pub loop-word-preserved : goal.loop-word-preserved
loop-word-preserved c =
    word_more c.loop-word.after c.from_le_bytes-next.result c.moved_word-after.result (4 * c.loop-word.word) _ c.args.bytes.now (omega (arith, c.loop-word-test.true)) (λ i. (c.type_inv.bytes i).fits)
    (omega (arith, c.from_le_bytes-next.ensures)) c.moved_word-after.ensures (omega arith)
    ∙ c.loop-word.invariant

pub returns : goal.returns
unfolding after_bytes
returns c =
    ap (after_bytes c.loop-word.after) (sym (drop_all (4 * c.loop-word.word) c.args.bytes.now (omega (arith, c.loop-word-test.false, c.requires)))) ∙ c.loop-word.invariant
