use Rattle.std.proofs.Common.{rules, not, ◌==◌}
use Rattle.std.proofs.lemmas.Fn.{filter_same}
use Rattle.zk_hub.proofs.hub.close_in.Goals as goal

pub returns : goal.returns
returns g c = filter_same _ (λ it. not (it.connection == c.args.connection)) _ (λ x b f' k. search rules) c.args.requests.now.items c.retain.new.self.items c.retain.ensures.filtered
