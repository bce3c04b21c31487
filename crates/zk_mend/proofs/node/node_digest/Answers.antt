use Rattle.std.proofs.Common.{◌++◌, w64, ap, sym, ◌∙◌, cond}
use Rattle.std.specs.Int.Bits.{bit_xor}
use Rattle.std.proofs.lemmas.Int.{to_z-of_z}
use Rattle.zk_crc.specs.Crc.{after_bytes, crc_of}
use Rattle.zk_mend.specs.Digests.{path_bytes, content_bytes, field_bytes}
use Rattle.zk_crc.proofs.Crcs.{behind}
use Rattle.zk_mend.proofs.node.node_digest.Goals as goal

pub returns : goal.returns
returns c =
    let n = c.args.node.now in
    let path = path_bytes c.args.path.now in
    let at_path = c.after_bytes-register.ensures ∙ ap (after_bytes 4294967295) c.path_bytes.ensures in
    let at_content = behind 4294967295 _ _ path (content_bytes n.content) at_path c.after_content-register.ensures in
    let fields = c.after_fields.ensures ∙ ap (λ z. after_bytes c.after_content-register.result (field_bytes n z)) (to_z-of_z w64 c.args.owner c.ranges.owner) in
    let at_fields = behind 4294967295 _ _ (path ++ content_bytes n.content) (field_bytes n c.args.owner) at_content fields in
    c.complement.ensures ∙ ap (λ r. bit_xor r 4294967295) at_fields
    ∙ ap (λ b. cond b 0 (crc_of (path ++ content_bytes n.content ++ field_bytes n c.args.owner))) (sym c.if-is_apart.false ∙ c.is_apart.ensures)
