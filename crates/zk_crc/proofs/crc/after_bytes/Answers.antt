use Rattle.std.proofs.Common.{ap, ◌∙◌, ◌++◌}
use Rattle.std.proofs.lemmas.List.{take-append-drop}
use Rattle.zk_crc.specs.Crc.{after_bytes}
use Rattle.zk_crc.proofs.Crcs.{behind}
use Rattle.zk_crc.proofs.crc.after_bytes.Goals as goal

pub returns : goal.returns
returns c =
    behind c.args.register c.after_words.result c.after_rest.result _ _ c.after_words.ensures c.after_rest.ensures
    ∙ ap (after_bytes c.args.register) (rw (c.split_at.ensures.front, c.split_at.ensures.back) (take-append-drop _ c.args.bytes.now))
