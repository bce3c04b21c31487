use Rattle.std.proofs.Common.{rules, not, ◌==◌}
use Rattle.std.proofs.lemmas.Fn.{filter_same}
use Rattle.zk_host.proofs.watched_tree.forget_connection.Goals as goal

pub returns : goal.returns
returns c = filter_same _ (λ one. not (one.number == c.args.number)) _ (λ x b f' k. search rules) c.args.connections.now.items c.retain.new.self.items c.retain.ensures.filtered
