use Rattle.std.proofs.Common.{rules}
use Rattle.zk_views.proofs.CatchingUp.{caught_up}
use Rattle.zk_views.proofs.published_view.PublishedView.catch_up.Goals as goal

pub returns : goal.returns
returns g c =
    caught_up c.publish_read.result c.args.self.now.publisher.value c.publish_read.new.self c.args.delivered c.beyond-more.result c.is_err-self.result c.requires
    (search rules) (search rules) (search rules) (search rules) (search rules) (search rules) (search rules)
