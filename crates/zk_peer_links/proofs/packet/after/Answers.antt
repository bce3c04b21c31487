use Rattle.std.proofs.Common.{◌∙◌, ap, drop}
use Rattle.std.proofs.lemmas.List.{take_rest}
use Rattle.zk_peer_links.proofs.packet.after.Goals as goal

pub returns : goal.returns
returns c = take_rest c.rest.result.now c.args.size ∙ ap (drop c.args.size) c.rest.ensures
