use Rattle.std.proofs.Common.{rules}
use Rattle.std.specs.Prelude.{nat_eq}
use Rattle.std.specs.List.{starts_with}
use Rattle.std.proofs.lemmas.Fn.{filter_same}
use Rattle.zk_client_session.proofs.tree_reads.with_prefix.Goals as goal

pub returns : goal.returns
returns c = filter_same _ (λ path. starts_with nat_eq path c.args.prefix.now) _ (λ x b f' k. search rules) c.args.paths.items c.retain.new.self.items c.retain.ensures.filtered
