-- What a host's newly delivered entries write to its clients. ZooKeeper Programmer's Guide,
-- "ZooKeeper Watches" and "Consistency Guarantees".
use Rattle.std.specs.Prelude.{ℕ, List, drop}
use Rattle.zab_broadcast.specs.declared.state.State.{State}
use Rattle.zk_hub.specs.declared.outcome.Outcome.{Outcome}
use Rattle.zk_hub.specs.declared.outcome.Outcome.TheVariants.{Wrote}
use Rattle.zk_host.specs.declared.news.News.{News}
use Rattle.zk_host.specs.declared.news.News.TheVariants.{Event, Answer}
use Rattle.zk_host.specs.Delivered.{delivered_in}
use Rattle.zk_host.specs.WatchedTrees.{WatchedTreeView, after_entries}
use Rattle.zk_hub.specs.declared.news.News.{News as HubNews}
use Rattle.zk_hub.specs.declared.news.News.TheVariants as hub
use Rattle.zk_watch.specs.declared.watch.Fired.{Fired}

-- an event goes to the connection that set its watch, a result to the request with its tag
abbrev pub hub_news : News → HubNews Fired Outcome
hub_news (Event fired) = hub.Event fired.session fired
hub_news (Answer answered) = hub.Outcome answered.tag (Wrote answered.result)

-- the news of the entries that the tree does not show yet, in delivered order: an entry's events
-- come before its result
abbrev pub news_at : WatchedTreeView → ℕ → State → List News
news_at tree shown state = (after_entries tree (drop shown (delivered_in state))).news
