use Rattle.std.proofs.Common.{◌∙◌, ap, drop}
use Rattle.std.proofs.lemmas.List.{drop-drop}
use Rattle.zk_peer_links.proofs.notice_contents.fields.Goals as goal

pub returns-clause-later : goal.returns-clause-later
returns-clause-later c =
    let bytes = c.args.bytes.now in
    c.get_u64-zxid.ensures.rest ∙ ap (drop 8) (c.get_u32-epoch.ensures.rest ∙ ap (drop 4) c.get_u64-round.ensures.rest ∙ drop-drop 4 8 bytes) ∙ drop-drop 8 12 bytes
