-- The watches of one connection, of which its client may remove some: `zookeeper.jute`,
-- `RemoveWatchesRequest`; ZooKeeper Programmer's Guide, "Semantics of Watches" and "Remove Watches".
use Rattle.std.specs.FinMap as finite
use Rattle.std.specs.Prelude.{ℕ, Bool, true, false, ◌&&◌, ◌||◌, List, Option, Some, None, if◌then◌else◌}
use Rattle.std.specs.Ordering.{int_eq}
use Rattle.zk_client_session.specs.declared.ask.WatcherType.{WatcherType}
use Rattle.zk_client_session.specs.declared.ask.WatcherType.TheVariants as types
use Rattle.zk_client_session.specs.declared.connection_watches.ConnectionWatches.{ConnectionWatches}
use Rattle.zk_machine.specs.declared.change.ChangeKind.{ChangeKind}
use Rattle.zk_tree.specs.Views.{PathKeys}
use Rattle.zk_table.specs.Codes.{no_node}
use Rattle.zk_table.specs.Replies.{path_read}
use Rattle.zk_table.specs.declared.read.ReadCall.{ReadCall}
use Rattle.zk_table.specs.declared.read.ReadCall.TheVariants as calls
use Rattle.zk_table.specs.declared.read.ReadReply.{ReadReply}
use Rattle.zk_table.specs.declared.read.ReadReply.TheVariants as replies
use Rattle.zk_watch.specs.Watching.{hears}
use Rattle.zk_watch.specs.declared.watch.WatchKind.{WatchKind}
use Rattle.zk_watch.specs.declared.watch.WatchKind.TheVariants as kinds

-- ---- setting

-- a read sets a watch if it finds its node; one of existence also if there is none
abbrev pub kind_set : ReadCall → ReadReply → Option WatchKind
kind_set (calls.GetData path) (replies.Content content stat) = Some kinds.Content
kind_set (calls.Exists path) (replies.Found stat) = Some kinds.Content
kind_set (calls.Exists path) (replies.Refused code) = if int_eq code no_node then Some kinds.Content else None
kind_set (calls.GetChildren path) (replies.Children names stat) = Some kinds.Children
kind_set call reply = None

-- a watch that is set twice is one watch
abbrev pub with_watch : Option WatchKind → List ℕ → ConnectionWatches → ConnectionWatches
with_watch None path it = it
with_watch (Some kinds.Content) path it = record it { content = finite.insert it.content path tt }
with_watch (Some kinds.Children) path it = record it { children = finite.insert it.children path tt }

abbrev pub after_read : ReadCall → ReadReply → ConnectionWatches → ConnectionWatches
after_read call reply it = with_watch (kind_set call reply) (path_read call) it

abbrev pub no_watches : ConnectionWatches
no_watches = record { content = finite.empty; children = finite.empty }

-- ---- firing

abbrev pub without_if : Bool → List ℕ → PathKeys → PathKeys
without_if true path keys = finite.remove keys path
without_if false path keys = keys

-- whether a change fires a watch, and the watches that are left: a watch fires once
abbrev pub fires : ChangeKind → List ℕ → ConnectionWatches → Bool
fires change path it =
    hears kinds.Content change && finite.contains_key it.content path
    || hears kinds.Children change && finite.contains_key it.children path

abbrev pub left_by : ChangeKind → List ℕ → ConnectionWatches → ConnectionWatches
left_by change path it = record {
  content = without_if (hears kinds.Content change) path it.content;
  children = without_if (hears kinds.Children change) path it.children;
}

-- ---- removing

abbrev pub is_of_type : WatcherType → WatchKind → Bool
is_of_type types.Data kinds.Content = true
is_of_type types.Children kinds.Children = true
is_of_type types.Any kind = true
is_of_type type kind = false

abbrev pub has_any : WatcherType → List ℕ → ConnectionWatches → Bool
has_any type path it =
    is_of_type type kinds.Content && finite.contains_key it.content path
    || is_of_type type kinds.Children && finite.contains_key it.children path

abbrev pub without_any : WatcherType → List ℕ → ConnectionWatches → ConnectionWatches
without_any type path it = record {
  content = without_if (is_of_type type kinds.Content) path it.content;
  children = without_if (is_of_type type kinds.Children) path it.children;
}
