use Rattle.std.proofs.Common.{rules, not}
use Rattle.std.proofs.lemmas.Fn.{filter_same}
use Rattle.zk_peer_links.specs.Notices.{is_from}
use Rattle.zk_server.proofs.election.remove_from.Goals as goal

pub returns : goal.returns
returns c = filter_same _ (λ it. not (is_from c.args.server it)) _ (λ x b f' k. search rules) c.args.heard.now.items c.retain.new.self.items c.retain.ensures.filtered
