use Rattle.std.proofs.Common.{rules, not}
use Rattle.std.proofs.lemmas.Fn.{filter_same}
use Rattle.zk_connections.specs.Connections.{is_over}
use Rattle.zk_client_port.proofs.client_port.retain_open.Goals as goal

pub returns : goal.returns
returns c = filter_same _ (λ it. not (is_over it)) _ (λ x b f' k. search rules) c.args.connections.now.items c.retain.new.self.items c.retain.ensures.filtered
