use Rattle.std.proofs.Common.{rules}
use Rattle.std.proofs.lemmas.Fn.{always_returns_same}
use Rattle.zk_watch.proofs.Search.{searched}
use Rattle.zk_watch.specs.Places.{place_cmp}
use Rattle.zk_watch.proofs.watches.position_of.Goals as goal

pub returns-clause-place : goal.returns-clause-place
returns-clause-place c = searched c.args.session c.args.path.now c.args.watches.now c.requires _ c.binary_search_by.ensures.bound (c.binary_search_by.ensures.position (λ w. place_cmp w.path w.session c.args.path.now c.args.session) (always_returns_same _ _ _ (λ a r f' k. search rules)))
