use Rattle.std.proofs.Common.{rules, sym, subst, ap, ◌∙◌, not, ◌==◌}
use Rattle.std.proofs.lemmas.Fn.{filter_same}
use Rattle.zk_watch.specs.Watching.{IsWatchList, without_session}
use Rattle.zk_watch.proofs.Kept.{filter_kept}
use Rattle.zk_watch.proofs.watches.Watches.drop_session.Goals as goal

pub invariant_of-self : goal.invariant_of-self
invariant_of-self c = subst IsWatchList (sym (filter_same _ (λ w. not (w.session == c.args.session)) _ (λ x b f' k. search rules) c.self.inside.entries.items c.retain.new.self.items c.retain.ensures.filtered)) (filter_kept _ _ c.self.invariant)

pub returns : goal.returns
returns c = filter_same _ (λ w. not (w.session == c.args.session)) _ (λ x b f' k. search rules) c.self.inside.entries.items c.retain.new.self.items c.retain.ensures.filtered ∙ ap (without_session c.args.session) c.self.view_is
