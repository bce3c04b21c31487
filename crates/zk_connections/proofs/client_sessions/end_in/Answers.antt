use Rattle.std.proofs.Common.{rules, not}
use Rattle.std.proofs.lemmas.Fn.{filter_same}
use Rattle.zk_connections.specs.Sessions.{has_id}
use Rattle.zk_connections.proofs.client_sessions.end_in.Goals as goal

pub returns : goal.returns
returns c = filter_same _ (λ it. not (has_id c.args.id it)) _ (λ x b f' k. search rules) c.args.sessions.now.items c.retain.new.self.items c.retain.ensures.filtered
